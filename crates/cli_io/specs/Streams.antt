-- What all that a reader had means.
use Rattle.std.specs.Prelude.{◌≡◌, ◌≤◌, ◌⊎◌, ℕ, List, length, true, IfSome, Result, Ok, Err, MatchResult}
use Rattle.std.specs.Global.{Vec}
use Rattle.base_streams.specs.States.{InletState}
use Rattle.cli_io.specs.HexInput.{input_of, BadHex, PastEnd, Bytes}
use Rattle.cli_io.specs.HexState.{HexState, HasReadHex}
use Rattle.cli_io.specs.declared.hex_input.HexFault.{HexFault}
use Rattle.cli_io.specs.declared.hex_input.HexFault.TheVariants as fault
use Rattle.cli_io.specs.declared.text_input.TextFault.{TextFault}
use Rattle.cli_io.specs.declared.text_input.TextFault.TheVariants as text

-- the most reads of an input
unfoldable pub most_reads : ℕ
most_reads = 4294967295

-- that many reads, each of at least one byte, don't come to the end of what the reader has left, if that is
-- known
abbrev pub IsEndless : InletState → Type 0
IsEndless inlet = IfSome inlet.left (λ input. most_reads ≤ length input)

-- the first if the fault is that a read failed, else the second
abbrev pub IfReadFailed : HexFault → Type 0 → Type 0 → Type 0
IfReadFailed fault.Read some none = some
IfReadFailed _ some none = none

abbrev pub IfTextFailed : TextFault → Type 0 → Type 0 → Type 0
IfTextFailed text.Read some none = some
IfTextFailed text.BadText some none = none
IfTextFailed text.OutOfMemory some none = none

-- A failed read is reported exactly if one failed, or the input didn't end. `IfReported` is the first of two
-- facts at a fault that reports a failed read, else the second.
abbrev pub BlamesReader : {A E : Type 0} → (E → Type 0 → Type 0 → Type 0) → Result A E → InletState
    → InletState → Type 0
BlamesReader IfReported result old new =
    MatchResult result (λ _. new.failed ≡ old.failed)
    (λ fault. IfReported fault ((new.failed ≡ true) ⊎ IsEndless old) (new.failed ≡ old.failed))

-- the digits of an input, or that one of its characters is bad
abbrev pub IsReading : Result HexState HexFault → List ℕ → Type 0
IsReading (Ok h) input = HasReadHex h input
IsReading (Err fault.BadHex) input = input_of input ≡ BadHex
IsReading (Err fault.PastEnd) input = ⊥
IsReading (Err fault.OutOfMemory) input = Unit {0}
IsReading (Err fault.Read) input = Unit {0}

-- the bytes that an input means, or why it is refused
abbrev pub IsHex : Result (Vec ℕ) HexFault → List ℕ → Type 0
IsHex (Ok bytes) input = input_of input ≡ Bytes bytes.items
IsHex (Err fault.BadHex) input = input_of input ≡ BadHex
IsHex (Err fault.PastEnd) input = input_of input ≡ PastEnd
IsHex (Err fault.OutOfMemory) input = Unit {0}
IsHex (Err fault.Read) input = Unit {0}
