-- What a file that was read gives.
use Rattle.std.specs.Prelude.{ℕ, List, Option}
use Rattle.asm_hex.specs.declared.reading.HexFile.{HexFile}

-- its bytes with their addresses, and its start
abbrev pub file_value : HexFile → List (ℕ × ℕ) × Option ℕ
file_value file = (file.bytes.items, file.start)
