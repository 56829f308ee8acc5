-- What every engine promises of what it writes.
use Rattle.std.specs.Prelude.{◌≡◌, ◌⊎◌, ℕ, List, IfSome, Bool, true, if◌then◌else◌}
use Rattle.base_streams.specs.States.{InletState, OutletState}
use Rattle.base_streams.specs.Told.{Took, TookPrefix}
use Rattle.cli_io.specs.declared.status.Status.{Status}
use Rattle.cli_io.specs.declared.status.Status.TheVariants.{Success, Refused, Usage, OutOfMemory, Failed}
use Rattle.cli_io.specs.Streams.{IsEndless}

-- The status is that of the text, and all of the text was written; if it ran out of memory, or a read or a
-- write failed, a prefix of it.
abbrev pub WritesAnswer : Status → List ℕ → Status → OutletState → OutletState → Type 0
WritesAnswer status text Success old new = (status ≡ Success) × Took old new text
WritesAnswer status text Refused old new = (status ≡ Refused) × Took old new text
WritesAnswer status text Usage old new = ⊥
WritesAnswer status text OutOfMemory old new = TookPrefix old new text
WritesAnswer status text Failed old new = TookPrefix old new text

-- the same with the status and the text of the input that the reader has left, if that is known
abbrev pub AnswersInput : (List ℕ → Status) → (List ℕ → List ℕ) → Status → InletState → OutletState
    → OutletState → Type 0
AnswersInput status_of text_of result reader old new =
    IfSome reader.left (λ input. WritesAnswer (status_of input) (text_of input) result old new)

abbrev pub answer_status : Bool → Status
answer_status is_refused = if is_refused then Refused else Success

abbrev pub IsFailure : Status → Type 0
IsFailure OutOfMemory = Unit {0}
IsFailure Failed = Unit {0}
IsFailure _ = ⊥

-- the first if the status is that a read or a write failed, else the second
abbrev pub IfFailed : Status → Type 0 → Type 0 → Type 0
IfFailed Failed some none = some
IfFailed _ some none = none

-- The status is that a read or a write failed exactly if one did, or the input didn't end. The primes mark
-- the reader and the writer afterwards.
abbrev pub BlamesStreams : Status → InletState → InletState → OutletState → OutletState → Type 0
BlamesStreams status reader reader' writer writer' =
    IfFailed status ((reader'.failed ≡ true) ⊎ (writer'.failed ≡ true) ⊎ IsEndless reader)
    ((reader'.failed ≡ reader.failed) × (writer'.failed ≡ writer.failed))

-- the same if nothing was read
abbrev pub BlamesWriter : Status → OutletState → OutletState → Type 0
BlamesWriter status old new = IfFailed status (new.failed ≡ true) (new.failed ≡ old.failed)

-- the program exits with 0, with 1 for refused input, with 2 for a wrong command line, with 3 if it ran out
-- of memory and with 4 if a read or a write failed
abbrev pub exit_status : Status → ℕ
exit_status Success = 0
exit_status Refused = 1
exit_status Usage = 2
exit_status OutOfMemory = 3
exit_status Failed = 4
