-- The bytes that Intel HEX gives are bytes, and the start that it says is an address.
use Rattle.std.proofs.Common.{◌≡◌, ℕ, zero, suc, ◌+◌, ◌*◌, ◌-◌, ◌%◌, ◌<◌, List, [], ◌∷◌, ◌++◌, length, take}
use Rattle.std.proofs.Common.{drop, get_or, sum, Bool, true, false, not, ◌&&◌, ◌==◌, nat_le, nat_lt}
use Rattle.std.proofs.Common.{if◌then◌else◌, Option, Some, None, is_some, option_and_then, option_map, ok_or}
use Rattle.std.proofs.Common.{Result, Ok, Err, IfSome, IfOk, refl, arith}
use Rattle.std.proofs.lemmas.Bool.Decides.{nat_tests}
use Rattle.base_text.specs.Hexadecimal.{digit_value, number_from}
use Rattle.asm_hex.specs.declared.fault.HexFaultKind.{HexFaultKind}
use Rattle.asm_hex.specs.declared.fault.HexFaultKind.TheVariants as kind
use Rattle.asm_hex.specs.Outcome.{◌>>=◌, at_line}
use Rattle.asm_hex.specs.Record.{Record, bytes_spelled, has_length, record_in, record_of, bytes_of_line}
use Rattle.asm_hex.specs.Record.{is_known}
use Rattle.asm_hex.specs.Contents.{Contents, no_contents, trim, lines_of, bytes_at, overlaps, data_of, end_of}
use Rattle.asm_hex.specs.Contents.{start_of}
use Rattle.asm_hex.specs.Contents.{with_record, with_bytes, with_trimmed, with_line, with_lines, file_of}
use Rattle.asm_hex.specs.Contents.{file_of_contents, hex_of}

-- ---- outcomes

and_then : {A B : Type 0} (P : A → Type 0) (Q : B → Type 0) (f : A → Option B) (o : Option A)
    → IfSome o P → ((x : A) → P x → IfSome (f x) Q) → IfSome (option_and_then f o) Q
and_then P Q f None is then_is = tt
and_then P Q f (Some x) is then_is = then_is x is

next : {A B F : Type 0} (P : A → Type 0) (Q : B → Type 0) (r : Result A F) (f : A → Result B F)
    → IfOk r P → ((x : A) → P x → IfOk (f x) Q) → IfOk (r >>= f) Q
next P Q (Ok x) f is then_is = then_is x is
next P Q (Err e) f is then_is = tt

unless : {A F : Type 0} (P : A → Type 0) (b : Bool) (e : F) (r : Result A F) → IfOk r P
    → IfOk (if b then Err e else r) P
unless P true e r is = tt
unless P false e r is = is

either : {A F : Type 0} (P : A → Type 0) (b : Bool) (r s : Result A F) → IfOk r P → IfOk s P
    → IfOk (if b then r else s) P
either P true r s first second = first
either P false r s first second = second

-- ---- digits

abbrev IsByte : ℕ → Type 0
IsByte n = n < 256

abbrev IsDigit : ℕ → Type 0
IsDigit n = n < 16

some_if : (b : Bool) (n : ℕ) (o : Option ℕ) → (b ≡ true → n < 16) → IfSome o IsDigit
    → IfSome (if b then Some n else o) IsDigit
some_if true n o small others = small refl
some_if false n o small others = others

digit_small : (c : ℕ) → IfSome (digit_value c) IsDigit
digit_small c =
    some_if (nat_le 48 c && nat_le c 57) (c - 48) _ (λ e. grind (arith, nat_tests, e))
    (some_if (nat_le 65 c && nat_le c 70) (c - 55) _ (λ e. grind (arith, nat_tests, e))
    (some_if (nat_le 97 c && nat_le c 102) (c - 87) None (λ e. grind (arith, nat_tests, e)) tt))

pair_small : (high low : ℕ) → IfSome (number_from 0 (high ∷ (low ∷ []))) IsByte
pair_small high low =
    and_then IsDigit IsByte (λ d. number_from (0 * 16 + d) (low ∷ [])) (digit_value high) (digit_small high)
    (λ d d_small.
    and_then IsDigit IsByte (λ e. number_from ((0 * 16 + d) * 16 + e) []) (digit_value low) (digit_small low)
    (λ e e_small. omega arith))

-- ---- bytes

abbrev Small : List ℕ → Type 0
Small [] = Unit {0}
Small (b ∷ bs) = (b < 256) × Small bs

small_drop : (n : ℕ) (bs : List ℕ) → Small bs → Small (drop n bs)
small_drop zero bs all = all
small_drop (suc n) [] all = tt
small_drop (suc n) (b ∷ bs) all = small_drop n bs all.1

small_take : (n : ℕ) (bs : List ℕ) → Small bs → Small (take n bs)
small_take zero bs all = tt
small_take (suc n) [] all = tt
small_take (suc n) (b ∷ bs) all = (all.0, small_take n bs all.1)

small_at : (bs : List ℕ) (i : ℕ) → Small bs → get_or bs i 0 < 256
small_at [] i all = omega arith
small_at (b ∷ bs) zero all = all.0
small_at (b ∷ bs) (suc i) all = small_at bs i all.1

spelled_small : (text : List ℕ) → IfSome (bytes_spelled text) Small
spelled_small [] = tt
spelled_small (high ∷ []) = tt
spelled_small (high ∷ (low ∷ more)) =
    and_then IsByte Small (λ byte. option_map (λ bytes. byte ∷ bytes) (bytes_spelled more))
    (number_from 0 (high ∷ (low ∷ []))) (pair_small high low)
    (λ byte small. with_first byte (bytes_spelled more) small (spelled_small more))
  where
    with_first : (byte : ℕ) (o : Option (List ℕ)) → byte < 256 → IfSome o Small
        → IfSome (option_map (λ bytes. byte ∷ bytes) o) Small
    with_first byte None small others = tt
    with_first byte (Some bytes) small others = (small, others)

line_small : (line : List ℕ) → IfOk (bytes_of_line line) Small
line_small [] = tt
line_small (c ∷ digits) =
    either Small (c == 58) (ok_or (bytes_spelled digits) kind.Digit) (Err kind.Record)
    (in_ok (bytes_spelled digits) (spelled_small digits)) tt
  where
    in_ok : (o : Option (List ℕ)) → IfSome o Small → IfOk (ok_or o kind.Digit) Small
    in_ok None all = tt
    in_ok (Some bytes) all = all

-- ---- records

record IsPlaced (r : Record) : Type 0 where
  address : r.address < 65536
  bytes : Small r.bytes

placed_in : (bytes : List ℕ) → Small bytes → IsPlaced (record_in bytes)
placed_in bytes all =
    let high = small_at bytes 1 all in
    let low = small_at bytes 2 all in
    record {
      address = omega (arith, high, low);
      bytes = small_take (get_or bytes 0 0) (drop 4 bytes) (small_drop 4 bytes all);
    }

record_placed : (bytes : List ℕ) → Small bytes → IfOk (record_of bytes) IsPlaced
unfolding record_of
record_placed bytes all =
    unless IsPlaced (not (has_length bytes)) kind.Length _
    (unless IsPlaced (not (sum bytes % 256 == 0)) kind.Checksum (Ok (record_in bytes)) (placed_in bytes all))

-- ---- contents

-- each of these bytes with their addresses is a byte
abbrev pub AreBytes : List (ℕ × ℕ) → Type 0
AreBytes [] = Unit {0}
AreBytes (p ∷ ps) = (p.1 < 256) × AreBytes ps

bytes-append : (ps qs : List (ℕ × ℕ)) → AreBytes ps → AreBytes qs → AreBytes (ps ++ qs)
bytes-append [] qs first second = second
bytes-append (p ∷ ps) qs first second = (first.0, bytes-append ps qs first.1 second)

bytes_placed : (address : ℕ) (bytes : List ℕ) → Small bytes → AreBytes (bytes_at address bytes)
bytes_placed address [] all = tt
bytes_placed address (b ∷ bytes) all = (all.0, bytes_placed (address + 1) bytes all.1)

record AreGood (contents : Contents) : Type 0 where
  bytes : AreBytes contents.bytes
  end : IfSome contents.end_address (λ address. address < 65536)

data_small : (r : Record) → IsPlaced r → Small (data_of r)
data_small r placed = by (r.kind == 0)
  where
    by : (b : Bool) → Small (if b then r.bytes else [])
    by true = placed.bytes
    by false = tt

end_fits : (r : Record) → IsPlaced r → IfSome (end_of r) (λ address. address < 65536)
end_fits r placed = by (r.kind == 1)
  where
    by : (b : Bool) → IfSome (if b then Some r.address else None) (λ address. address < 65536)
    by true = placed.address
    by false = tt

abbrev with_data : Contents → Record → Contents
with_data contents r = record {
  bytes = contents.bytes ++ bytes_at r.address (data_of r);
  end_address = end_of r;
}

record_good : (contents : Contents) (r : Record) → AreGood contents → IsPlaced r
    → IfOk (with_record contents r) AreGood
unfolding with_record
record_good contents r good placed =
    let more : AreGood (with_data contents r) = record {
      bytes =
          bytes-append contents.bytes (bytes_at r.address (data_of r)) good.bytes
          (bytes_placed r.address (data_of r) (data_small r placed));
      end = end_fits r placed;
    } in
    let is_past = nat_lt 65536 (r.address + length (data_of r)) in
    let overlaps_one = overlaps contents.bytes (bytes_at r.address (data_of r)) in
    let whole : Result Contents HexFaultKind = Ok (with_data contents r) in
    let after_end = if (is_some contents.end_address) then (Err kind.AfterEnd) else whole in
    let overlap = if overlaps_one then (Err kind.Overlap) else after_end in
    let past_end = if is_past then (Err kind.PastEnd) else overlap in
    unless AreGood (not (is_known r)) kind.Kind past_end
    (unless AreGood is_past kind.PastEnd overlap
    (unless AreGood overlaps_one kind.Overlap after_end
    (unless AreGood (is_some contents.end_address) kind.AfterEnd whole more)))

bytes_good : (contents : Contents) (bytes : List ℕ) → AreGood contents → Small bytes
    → IfOk (with_bytes contents bytes) AreGood
bytes_good contents bytes good all =
    next IsPlaced AreGood (record_of bytes) (with_record contents) (record_placed bytes all)
    (λ r placed. record_good contents r good placed)

trimmed_good : (contents : Contents) (line : List ℕ) → AreGood contents
    → IfOk (with_trimmed contents line) AreGood
trimmed_good contents line good =
    either AreGood (length line == 0) (Ok contents) _ good
    (next Small AreGood (bytes_of_line line) (with_bytes contents) (line_small line)
    (λ bytes all. bytes_good contents bytes good all))

line_good : (number : ℕ) (contents : Contents) (line : List ℕ) → AreGood contents
    → IfOk (at_line number (with_line contents line)) AreGood
unfolding with_line
line_good number contents line good =
    at_good (with_trimmed contents (trim line)) (trimmed_good contents (trim line) good)
  where
    at_good : (r : Result Contents HexFaultKind) → IfOk r AreGood → IfOk (at_line number r) AreGood
    at_good (Ok x) is = is
    at_good (Err e) is = tt

lines_good : (number : ℕ) (contents : Contents) (lines : List (List ℕ)) → AreGood contents
    → IfOk (with_lines number contents lines) AreGood
unfolding with_lines
lines_good number contents [] good = good
lines_good number contents (line ∷ lines) good =
    next AreGood AreGood (at_line number (with_line contents line))
    (λ more. with_lines (number + 1) more lines) (line_good number contents line good)
    (λ more is. lines_good (number + 1) more lines is)

-- ---- the file

-- its bytes are bytes, and its start is an address
pub record IsFile (file : List (ℕ × ℕ) × Option ℕ) : Type 0 where
  pub bytes : AreBytes file.0
  pub start : IfSome file.1 (λ start. start < 65536)

start_fits : (address : ℕ) → address < 65536 → IfSome (start_of address) (λ start. start < 65536)
start_fits address fits = by (address == 0)
  where
    by : (b : Bool) → IfSome (if b then None else Some address) (λ start. start < 65536)
    by true = tt
    by false = fits

file_good : (count : ℕ) (bytes : List (ℕ × ℕ)) (end : Option ℕ) → AreBytes bytes
    → IfSome end (λ address. address < 65536) → IfOk (file_of count bytes end) IsFile
file_good count bytes None all fits = tt
file_good count bytes (Some address) all fits = record { bytes = all; start = start_fits address fits }

pub hex_good : (text : List ℕ) → IfOk (hex_of text) IsFile
unfolding hex_of
hex_good text =
    unless IsFile (nat_lt 1048576 (length text)) (1, kind.TooLong) _
    (next AreGood IsFile (with_lines 1 no_contents (lines_of text))
    (file_of_contents (length (lines_of text)))
    (lines_good 1 no_contents (lines_of text) (record { bytes = tt; end = tt }))
    (λ contents good.
    file_good (length (lines_of text)) contents.bytes contents.end_address good.bytes good.end))
