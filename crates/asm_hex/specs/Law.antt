-- What the laws speak of.
use Rattle.std.specs.Prelude.{◌≡◌, ◌<◌, ℕ, List, true, length, All, fold, Option, Some, None, unwrap_or, Ok}
use Rattle.std.specs.Prelude.{◌==◌, if◌then◌else◌}
use Rattle.asm_hex.specs.Record.{Record, has_count}
use Rattle.asm_hex.specs.Contents.{start_of, hex_of}
use Rattle.asm_hex.specs.Cells.{cells_of}
use Rattle.asm_hex.specs.Written.{hex_text}

-- its numbers fit, and its kind allows as many bytes as it has
pub record IsRecord (r : Record) : Type 0 where
  pub address : r.address < 65536
  pub kind : r.kind < 256
  pub bytes : All (λ byte. byte < 256) r.bytes
  pub few : length r.bytes < 256
  pub count : has_count r.kind (length r.bytes) ≡ true

-- the start that comes back: 0 says that there is none
abbrev pub start_read : Option ℕ → Option ℕ
start_read start = start_of (unwrap_or start 0)

-- bytes at addresses of memory
abbrev pub AreInMemory : List (ℕ × ℕ) → Type 0
AreInMemory bytes = All (λ p. (p.0 < 65536) × (p.1 < 256)) bytes

-- the byte at an address, the last if there are several
abbrev pub byte_in : List (ℕ × ℕ) → ℕ → Option ℕ
byte_in bytes address = fold (λ found p. if p.0 == address then Some p.1 else found) None bytes

-- The file for bytes and a start is read as these: each address has the same byte in both, or in both none.
pub record IsReadAs (bytes : List (ℕ × ℕ)) (start : Option ℕ) (read : List (ℕ × ℕ)) : Type 0 where
  pub file : hex_of (hex_text (cells_of bytes) start) ≡ Ok (read, start_read start)
  pub same : (address : ℕ) → byte_in read address ≡ byte_in bytes address
