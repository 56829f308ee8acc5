-- A table of the addresses that have a byte.
use Rattle.std.specs.Prelude.{◌≡◌, ℕ, List, Bool, false, length, slice_index_or}
use Rattle.asm_hex.specs.Contents.{is_taken}

-- it has an item for each of the 65,536 addresses, which is true where there is a byte
pub record IsTable (taken : List Bool) (bytes : List (ℕ × ℕ)) : Type 0 where
  pub size : length taken ≡ 65536
  pub marks : (address : ℕ) → slice_index_or taken address false ≡ is_taken bytes address
