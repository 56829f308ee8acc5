-- What is known about a reader and a writer.
use Rattle.std.specs.Prelude.{◌≡◌, ℕ, Bool, false, List, Option}

-- A reader: the bytes that it has given and those that are left, if they are known; how often it was read, if
-- that is counted; whether a read has come to the end, and whether one has failed.
pub record InletState : Type 0 where
  pub given : Option (List ℕ)
  pub left : Option (List ℕ)
  pub reads : Option ℕ
  pub ended : Bool
  pub failed : Bool

-- a writer: the bytes that it has taken, if they are known, and whether a write has failed
pub record OutletState : Type 0 where
  pub taken : Option (List ℕ)
  pub failed : Bool

-- the reader has neither ended nor failed
abbrev pub IsReadable : InletState → Type 0
IsReadable inlet = (inlet.ended ≡ false) × (inlet.failed ≡ false)

-- the writer has not failed
abbrev pub IsWritable : OutletState → Type 0
IsWritable outlet = outlet.failed ≡ false

-- a reader of std, how often it was read, and whether it has ended or failed
pub record StdInletState (R : Type 0) : Type 0 where
  pub reader : R
  pub reads : Option ℕ
  pub ended : Bool
  pub failed : Bool

-- a writer of std, and whether it has failed
pub record StdOutletState (W : Type 0) : Type 0 where
  pub writer : W
  pub failed : Bool
