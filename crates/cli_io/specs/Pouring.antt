-- What became of all that a reader had.
use Rattle.std.specs.Prelude.{ℕ, List, Result, Ok, Err}
use Rattle.cli_io.specs.declared.intake.PourFault.{PourFault}
use Rattle.cli_io.specs.declared.intake.PourFault.TheVariants as fault

-- it represents the input, or the input is refused
abbrev pub IsPoured : {I : Type 0} → (I → List ℕ → Type 0) → (List ℕ → Type 0) → Result I PourFault → List ℕ
    → Type 0
IsPoured Stands Refuses (Ok read) input = Stands read input
IsPoured Stands Refuses (Err fault.Bad) input = Refuses input
IsPoured Stands Refuses (Err fault.OutOfMemory) input = Unit {0}
IsPoured Stands Refuses (Err fault.Read) input = Unit {0}

-- the first if the fault is that a read failed, else the second
abbrev pub IfPourFailed : PourFault → Type 0 → Type 0 → Type 0
IfPourFailed fault.Read some none = some
IfPourFailed fault.Bad some none = none
IfPourFailed fault.OutOfMemory some none = none
