-- Bytes that were given or taken, if they are known, and reads, if they are counted.
use Rattle.std.specs.Prelude.{◌≡◌, ℕ, ◌+◌, List, ◌++◌, Option, Some, None}
use Rattle.base_streams.specs.States.{InletState, OutletState}

-- the bytes after are those before, and these
abbrev pub Told : Option (List ℕ) → Option (List ℕ) → List ℕ → Type 0
Told None after bytes = Unit {0}
Told (Some before) after bytes = after ≡ Some (before ++ bytes)

-- the bytes after are those before, and a prefix of these
pub record ToldPrefix (before after : Option (List ℕ)) (bytes : List ℕ) : Type 0 where
  pub front : List ℕ
  pub others : List ℕ
  pub told : Told before after front
  pub whole : bytes ≡ front ++ others

-- the reader gave these bytes
abbrev pub Gave : InletState → InletState → List ℕ → Type 0
Gave old new bytes = Told old.given new.given bytes

-- the writer took these bytes
abbrev pub Took : OutletState → OutletState → List ℕ → Type 0
Took old new bytes = Told old.taken new.taken bytes

-- the writer took a prefix of these bytes
abbrev pub TookPrefix : OutletState → OutletState → List ℕ → Type 0
TookPrefix old new bytes = ToldPrefix old.taken new.taken bytes

-- so many more, if they are still counted
abbrev pub CountsOn : Option ℕ → Option ℕ → ℕ → Type 0
CountsOn before None n = Unit {0}
CountsOn before (Some after) n = (first : ℕ) × (before ≡ Some first) × (after ≡ first + n)

-- the reader was read so often
abbrev pub WasRead : InletState → InletState → ℕ → Type 0
WasRead old new reads = CountsOn old.reads new.reads reads
