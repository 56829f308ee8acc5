-- What a file in Intel HEX means: bytes with their addresses, and perhaps a start; or its first fault.
use Rattle.std.specs.Prelude.{ℕ, ◌+◌, List, [], ◌∷◌, ◌++◌, Bool, not, ◌||◌, ◌==◌, nat_lt, length, max}
use Rattle.std.specs.Prelude.{reverse, Option, Some, None, is_some, Result, Ok, Err, if◌then◌else◌}
use Rattle.std.specs.List.{list_any}
use Rattle.base_text.specs.Bytes.{Text}
use Rattle.asm_hex.specs.declared.fault.HexFaultKind.{HexFaultKind}
use Rattle.asm_hex.specs.declared.fault.HexFaultKind.TheVariants as kind
use Rattle.asm_hex.specs.Outcome.{FileFault, ◌>>=◌, at_line}
use Rattle.asm_hex.specs.Record.{Record, record_of, bytes_of_line, is_known}

-- ---- lines

-- space, tab and carriage return
abbrev pub is_blank : ℕ → Bool
is_blank c = c == 32 || c == 9 || c == 13

abbrev pub without_blanks : Text → Text
without_blanks [] = []
without_blanks (c ∷ cs) = if (is_blank c) then (without_blanks cs) else (c ∷ cs)

-- a line without the blanks at both ends
unfoldable pub trim : Text → Text
trim line = reverse (without_blanks (reverse (without_blanks line)))

abbrev pub before_first : ℕ → List Text → List Text
before_first c [] = (c ∷ []) ∷ []
before_first c (line ∷ lines) = (c ∷ line) ∷ lines

-- the lines of a text, each of which ends at a line feed, the last perhaps at the end
unfoldable pub lines_of : Text → List Text
lines_of [] = []
lines_of (c ∷ cs) = if (c == 10) then ([] ∷ lines_of cs) else (before_first c (lines_of cs))

-- ---- records

-- the bytes so far, with their addresses, in the order of the file; and the end record's address
pub record Contents : Type 0 where
  pub bytes : List (ℕ × ℕ)
  pub end_address : Option ℕ

abbrev pub no_contents : Contents
no_contents = record { bytes = []; end_address = None }

-- bytes at the addresses from one on
abbrev pub bytes_at : ℕ → List ℕ → List (ℕ × ℕ)
bytes_at address [] = []
bytes_at address (byte ∷ bytes) = (address, byte) ∷ bytes_at (address + 1) bytes

abbrev pub is_taken : List (ℕ × ℕ) → ℕ → Bool
is_taken bytes address = list_any (λ p. p.0 == address) bytes

abbrev pub overlaps : List (ℕ × ℕ) → List (ℕ × ℕ) → Bool
overlaps bytes others = list_any (λ p. is_taken bytes p.0) others

-- the bytes that a record places
abbrev pub data_of : Record → List ℕ
data_of r = if (r.kind == 0) then r.bytes else []

abbrev pub end_of : Record → Option ℕ
end_of r = if (r.kind == 1) then (Some r.address) else None

unfoldable pub with_record : Contents → Record → Result Contents HexFaultKind
with_record contents r =
    if (not (is_known r)) then (Err kind.Kind) else
    (if (nat_lt 65536 (r.address + length (data_of r))) then (Err kind.PastEnd) else
    (if (overlaps contents.bytes (bytes_at r.address (data_of r))) then (Err kind.Overlap) else
    (if (is_some contents.end_address) then (Err kind.AfterEnd) else
    (Ok (record {
      bytes = contents.bytes ++ bytes_at r.address (data_of r);
      end_address = end_of r;
    })))))

-- the bytes of a line
abbrev pub with_bytes : Contents → List ℕ → Result Contents HexFaultKind
with_bytes contents bytes = record_of bytes >>= with_record contents

-- a line without blanks at its ends; a blank line adds nothing
abbrev pub with_trimmed : Contents → Text → Result Contents HexFaultKind
with_trimmed contents line =
    if (length line == 0) then (Ok contents) else (bytes_of_line line >>= with_bytes contents)

unfoldable pub with_line : Contents → Text → Result Contents HexFaultKind
with_line contents line = with_trimmed contents (trim line)

-- lines, the first of which has this number
unfoldable pub with_lines : ℕ → Contents → List Text → Result Contents FileFault
with_lines number contents [] = Ok contents
with_lines number contents (line ∷ lines) =
    at_line number (with_line contents line) >>= (λ more. with_lines (number + 1) more lines)

-- ---- the file

-- an address of 0 says that there is no start
abbrev pub start_of : ℕ → Option ℕ
start_of address = if (address == 0) then None else (Some address)

-- what a file with so many lines gives: these bytes, and a start, if there is an end record
abbrev pub file_of : ℕ → List (ℕ × ℕ) → Option ℕ → Result (List (ℕ × ℕ) × Option ℕ) FileFault
file_of count bytes None = Err (max 1 count, kind.NoEnd)
file_of count bytes (Some address) = Ok (bytes, start_of address)

abbrev pub file_of_contents : ℕ → Contents → Result (List (ℕ × ℕ) × Option ℕ) FileFault
file_of_contents count contents = file_of count contents.bytes contents.end_address

unfoldable pub hex_of : Text → Result (List (ℕ × ℕ) × Option ℕ) FileFault
hex_of text =
    if (nat_lt 1048576 (length text)) then (Err (1, kind.TooLong)) else
    (with_lines 1 no_contents (lines_of text) >>= file_of_contents (length (lines_of text)))
