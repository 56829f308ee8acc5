-- What a cell assembles to, by what its lines say and how its statements read, not by an algorithm.
use Rattle.std.specs.Prelude.{◌≡◌, ◌⊎◌, List, ℕ, Result, Err}
use Rattle.std.specs.Str.Lines.{lines}
use Rattle.asm_syntax.specs.declared.statement.Statement.{Statement}
use Rattle.asm_syntax.specs.Outcome.{CellFault}
use Rattle.asm_text.specs.Cells.{LinesSay, StandsInText, IsFaultOf}
use Rattle.asm_build.specs.Reading.{Entries}
use Rattle.asm_build.specs.Meaning.{Meaning}
use Rattle.asm_build.specs.Cells.{CellGives}

-- the lines of the text are these statements, and it has no fault
abbrev pub TextSays : List ℕ → List Statement → Type 0
TextSays text ss = LinesSay (lines text) ss × ((fault : CellFault) → StandsInText text fault → ⊥)

-- With the symbols of earlier cells, a text gives what its statements give: what every consistent reading
-- of them gives, or their first fault. A text with faults of its own gives the first of those.
abbrev pub TextGives : Entries → List ℕ → Result Meaning CellFault → Type 0
TextGives kept text cell =
    ((ss : List Statement) × TextSays text ss × CellGives kept ss cell)
    ⊎ ((fault : CellFault) × IsFaultOf text fault × (cell ≡ Err fault))
