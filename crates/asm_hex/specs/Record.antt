-- A record of Intel HEX, its line `:LLAAAATT..CC`, and how a line is read.
use Rattle.std.specs.Prelude.{ℕ, ◌+◌, ◌-◌, ◌*◌, ◌/◌, ◌%◌, List, [], ◌∷◌, ◌++◌, Bool, true, not, ◌&&◌, ◌||◌}
use Rattle.std.specs.Prelude.{◌==◌, nat_le, length, take, drop, slice_index, sum, flat_map, codes}
use Rattle.std.specs.Prelude.{Option, Some, None, option_map, option_and_then, ok_or, Result, Ok, Err}
use Rattle.std.specs.Prelude.{if◌then◌else◌}
use Rattle.std.specs.List.{list_all}
use Rattle.base_text.specs.Bytes.{Text}
use Rattle.base_text.specs.Hexadecimal.{number_from, upper_byte}
use Rattle.asm_hex.specs.declared.fault.HexFaultKind.{HexFaultKind}
use Rattle.asm_hex.specs.declared.fault.HexFaultKind.TheVariants as kind
use Rattle.asm_hex.specs.Outcome.{◌>>=◌}

-- kind 0: bytes from the address on; kind 1: the end, whose address is where the program starts
pub record Record : Type 0 where
  pub address : ℕ
  pub kind : ℕ
  pub bytes : List ℕ

-- ---- written

-- the bytes of a line but the last: count, address with the high byte first, kind, bytes
abbrev pub summed_bytes : Record → List ℕ
summed_bytes r = length r.bytes ∷ (r.address / 256 ∷ (r.address % 256 ∷ (r.kind ∷ r.bytes)))

-- the last byte: all bytes together have a sum that is 0 modulo 256
abbrev pub checksum : List ℕ → ℕ
checksum bytes = (256 - sum bytes % 256) % 256

abbrev pub digits_of : List ℕ → Text
digits_of bytes = flat_map upper_byte bytes

unfoldable pub record_line : Record → Text
record_line r = codes ":" ++ digits_of (summed_bytes r ++ checksum (summed_bytes r) ∷ [])

-- ---- read

-- the bytes that pairs of digits spell
abbrev pub bytes_spelled : Text → Option (List ℕ)
bytes_spelled [] = Some []
bytes_spelled (high ∷ []) = None
bytes_spelled (high ∷ (low ∷ more)) =
    option_and_then (λ byte. option_map (λ bytes. byte ∷ bytes) (bytes_spelled more))
    (number_from 0 (high ∷ (low ∷ [])))

-- whether a record of this kind may have so many bytes
abbrev pub has_count : ℕ → ℕ → Bool
has_count kind count =
    if (kind == 1) then (count == 0) else
    (if (kind == 2 || kind == 4) then (count == 2) else
    (if (kind == 3 || kind == 5) then (count == 4) else true))

abbrev pub has_length : List ℕ → Bool
has_length bytes =
    length bytes == 5 + slice_index bytes 0 && has_count (slice_index bytes 3) (slice_index bytes 0)

abbrev pub record_in : List ℕ → Record
record_in bytes = record {
  address = 256 * slice_index bytes 1 + slice_index bytes 2;
  kind = slice_index bytes 3;
  bytes = take (slice_index bytes 0) (drop 4 bytes);
}

-- the record of a line's bytes
unfoldable pub record_of : List ℕ → Result Record HexFaultKind
record_of bytes =
    if (not (has_length bytes)) then (Err kind.Length) else
    (if (not (sum bytes % 256 == 0)) then (Err kind.Checksum) else (Ok (record_in bytes)))

-- the bytes of a line
abbrev pub bytes_of_line : Text → Result (List ℕ) HexFaultKind
bytes_of_line [] = Err kind.Record
bytes_of_line (c ∷ digits) =
    if (c == 58) then (ok_or (bytes_spelled digits) kind.Digit) else (Err kind.Record)

-- the record of a line
unfoldable pub read_line : Text → Result Record HexFaultKind
read_line line = bytes_of_line line >>= record_of

-- kinds 3 and 5, the starts of other processors, are skipped; so are kinds 2 and 4 if their base is 0
abbrev pub is_known : Record → Bool
is_known r = nat_le r.kind 5 && (not (r.kind == 2 || r.kind == 4) || list_all (λ byte. byte == 0) r.bytes)
