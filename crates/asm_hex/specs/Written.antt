-- The file in Intel HEX for cells, each with the byte of its address, if there is one.
use Rattle.std.specs.Prelude.{ℕ, zero, suc, ◌+◌, ◌-◌, List, [], ◌∷◌, ◌++◌, length, take, flat_map}
use Rattle.std.specs.Prelude.{Option, Some, None, unwrap_or}
use Rattle.base_text.specs.Bytes.{Text}
use Rattle.asm_hex.specs.Record.{Record, record_line}

-- the bytes up to the first cell that has none
abbrev pub leading : List (Option ℕ) → List ℕ
leading [] = []
leading (None ∷ cells) = []
leading (Some byte ∷ cells) = byte ∷ leading cells

-- the line of a record of the bytes at the front of some cells
abbrev pub cells_line : ℕ → ℕ → List (Option ℕ) → Text
cells_line address kind cells =
    record_line (record { address = address; kind = kind; bytes = leading cells }) ++ 10 ∷ []

abbrev pub data_record : ℕ → List ℕ → Record
data_record address bytes = record { address = address; kind = 0; bytes = bytes }

abbrev pub end_record : Option ℕ → Record
end_record start = record { address = unwrap_or start 0; kind = 1; bytes = [] }

-- The records of the cells from an address on, the first `covered` of which are in a record already: a
-- record begins at each byte that is in none yet, and has the bytes from there on, at most 16.
unfoldable pub records_from : ℕ → ℕ → List (Option ℕ) → List Record
records_from address covered [] = []
records_from address (suc covered) (cell ∷ cells) = records_from (address + 1) covered cells
records_from address zero (None ∷ cells) = records_from (address + 1) 0 cells
records_from address zero (Some byte ∷ cells) =
    let bytes = leading (take 16 (Some byte ∷ cells)) in
    data_record address bytes ∷ records_from (address + 1) (length bytes - 1) cells

-- each record on a line
abbrev pub records_text : List Record → Text
records_text records = flat_map (λ r. record_line r ++ 10 ∷ []) records

unfoldable pub hex_text : List (Option ℕ) → Option ℕ → Text
hex_text cells start = records_text (records_from 0 0 cells ++ end_record start ∷ [])

-- the bytes that there are, with their addresses, of the cells from an address on
abbrev pub present_from : ℕ → List (Option ℕ) → List (ℕ × ℕ)
present_from address [] = []
present_from address (None ∷ cells) = present_from (address + 1) cells
present_from address (Some byte ∷ cells) = (address, byte) ∷ present_from (address + 1) cells
