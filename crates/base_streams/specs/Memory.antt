-- Readers and writers over memory.
use Rattle.std.specs.Prelude.{ℕ, List, Bool, Option}

-- the bytes that a writer has taken, the most that it takes a call, and the number of calls that still
-- succeed
pub record SinkState : Type 0 where
  pub taken : List ℕ
  pub most : ℕ
  pub calls : ℕ
  pub failed : Bool

-- the bytes that a reader has given and those that are left, the most that it gives a call, the number of
-- calls that still succeed, and how often it was read, if that is counted
pub record SourceState : Type 0 where
  pub given : List ℕ
  pub left : List ℕ
  pub most : ℕ
  pub calls : ℕ
  pub reads : Option ℕ
  pub failed : Bool
  pub ended : Bool
