-- What a cell gives, or which fault refuses it: by its readings alone, however they are found.
use Rattle.std.specs.Prelude.{◌≡◌, ◌↔◌, List, Result, Ok, Err}
use Rattle.asm_syntax.specs.declared.statement.Statement.{Statement}
use Rattle.asm_syntax.specs.Outcome.{CellFault}
use Rattle.asm_build.specs.Reading.{Entries, Lines, IsReading}
use Rattle.asm_build.specs.Meaning.{Meaning, IsMeaning, IsOnlyMeaning, built_of}
use Rattle.asm_build.specs.Refusals.{IsFaultless, IsFaultOf}

-- no fault stands in the cell, it has a consistent reading, which gives this, and each gives this
pub record GivesMeaning (kept : Entries) (ss : List Statement) (m : Meaning) : Type 0 where
  pub faultless : IsFaultless kept ss
  pub found : IsMeaning kept ss m
  pub only : IsOnlyMeaning kept ss m

-- what the cell gives, or its first fault
abbrev pub CellGives : Entries → List Statement → Result Meaning CellFault → Type 0
CellGives kept ss (Ok m) = GivesMeaning kept ss m
CellGives kept ss (Err f) = IsFaultOf kept ss f

-- what the cell gives is what its reading gives: it has one, each gives this, and there is one at most
pub record IsReadOff (kept : Entries) (ss : List Statement) : Type 0 where
  pub found : (m : Meaning) → built_of kept ss ≡ Ok m → IsMeaning kept ss m
  pub only : (m : Meaning) → built_of kept ss ≡ Ok m → IsOnlyMeaning kept ss m
  pub one : (lines lines' : Lines) → IsReading kept ss lines → IsReading kept ss lines' → lines ≡ lines'

-- the cell gives something exactly where no fault stands in it, and has exactly the fault that its
-- readings have
pub record IsJudged (kept : Entries) (ss : List Statement) : Type 0 where
  pub gives : ((m : Meaning) × (built_of kept ss ≡ Ok m)) ↔ IsFaultless kept ss
  pub fault : (f : CellFault) → (built_of kept ss ≡ Err f) ↔ IsFaultOf kept ss f
  pub judged : (r : Result Meaning CellFault) → (built_of kept ss ≡ r) ↔ CellGives kept ss r
