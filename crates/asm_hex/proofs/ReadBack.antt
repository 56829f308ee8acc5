-- What is written is read back.
use Rattle.std.proofs.Common.{◌≡◌, ℕ, zero, suc, ◌+◌, ◌-◌, ◌*◌, ◌<◌, ◌≤◌, List, [], ◌∷◌, ◌++◌, length, take}
use Rattle.std.proofs.Common.{drop}
use Rattle.std.proofs.Common.{false, ◌==◌, Option, Some, None, IfSome, refl, ap, sym, ◌∙◌}
use Rattle.std.proofs.Common.{arith}
use Rattle.std.proofs.Common.{append_assoc, append-nil, length-append}
use Rattle.std.specs.Prelude.{All, Result, Ok, nat_lt, unwrap_or}
use Rattle.std.proofs.lemmas.Bool.Decides.{nat_tests}
use Rattle.asm_hex.specs.Outcome.{FileFault, ◌>>=◌, at_line}
use Rattle.asm_hex.specs.Record.{Record, record_line, digits_of, summed_bytes, checksum}
use Rattle.asm_hex.specs.Contents.{Contents, bytes_at, is_taken, overlaps, with_record}
use Rattle.asm_hex.specs.Contents.{with_trimmed, with_line, with_lines, lines_of, hex_of}
use Rattle.asm_hex.specs.Written.{leading, data_record, end_record, records_from, records_text, hex_text}
use Rattle.asm_hex.specs.Written.{present_from}
use Rattle.asm_hex.specs.Law.{IsRecord, start_read}
use Rattle.asm_hex.proofs.RecordRead.{Small, record_of_line, bytes_of_record, line_trimmed}
use Rattle.asm_hex.proofs.RecordRead.{record_line_ends}
use Rattle.asm_hex.proofs.WritingLemmas.{few_leading}

-- ---- addresses

abbrev Below : ℕ → List (ℕ × ℕ) → Type 0
Below limit [] = Unit {0}
Below limit (p ∷ ps) = (p.0 < limit) × Below limit ps

below_more : (low high : ℕ) (ps : List (ℕ × ℕ)) → low ≤ high → Below low ps → Below high ps
below_more low high [] le below = tt
below_more low high (p ∷ ps) le below = (omega (arith, le, below.0), below_more low high ps le below.1)

below_append : (limit : ℕ) (ps qs : List (ℕ × ℕ)) → Below limit ps → Below limit qs → Below limit (ps ++ qs)
below_append limit [] qs p q = q
below_append limit (x ∷ ps) qs p q = (p.0, below_append limit ps qs p.1 q)

below_placed : (limit address : ℕ) (bytes : List ℕ) → address + length bytes ≤ limit
    → Below limit (bytes_at address bytes)
below_placed limit address [] le = tt
below_placed limit address (byte ∷ bytes) le =
    (omega (arith, le), below_placed limit (address + 1) bytes (omega (arith, le)))

not_taken : (limit address : ℕ) (ps : List (ℕ × ℕ)) → limit ≤ address → Below limit ps
    → is_taken ps address ≡ false
not_taken limit address [] le below = refl
not_taken limit address (p ∷ ps) le below =
    let other : (p.0 == address) ≡ false = grind (arith, nat_tests, below.0, le) in
    rw other (not_taken limit address ps le below.1)

no_overlap : (limit address : ℕ) (ps : List (ℕ × ℕ)) (bytes : List ℕ) → limit ≤ address → Below limit ps
    → overlaps ps (bytes_at address bytes) ≡ false
no_overlap limit address ps [] le below = refl
no_overlap limit address ps (byte ∷ bytes) le below =
    rw (not_taken limit address ps le below) (no_overlap limit (address + 1) ps bytes (omega
    (arith, le)) below)

-- ---- records, added

at_none : List (ℕ × ℕ) → Contents
at_none bytes = record { bytes = bytes; end_address = None }

with_data : (ps : List (ℕ × ℕ)) (address : ℕ) (bytes : List ℕ) → address + length bytes ≤ 65536
    → Below address ps
    → with_record (at_none ps) (data_record address bytes) ≡ Ok (at_none (ps ++ bytes_at address bytes))
unfolding with_record at_none
with_data ps address bytes fits below =
    let inside : nat_lt 65536 (address + length bytes) ≡ false = grind (arith, nat_tests, fits) in
    rw (inside, no_overlap address address ps bytes (omega arith) below) refl

with_end : (ps : List (ℕ × ℕ)) (start : Option ℕ) → unwrap_or start 0 < 65536
    → with_record (at_none ps) (end_record start)
    ≡ Ok (record { bytes = ps; end_address = Some (unwrap_or start 0) })
unfolding with_record at_none
with_end ps start fits =
    let inside : nat_lt 65536 (unwrap_or start 0 + 0) ≡ false = grind (arith, nat_tests, fits) in
    rw (inside, append-nil ps) refl

some_length : (c : ℕ) (cs : List ℕ) → (length (c ∷ cs) == 0) ≡ false
some_length c cs = grind (arith, nat_tests)

some_line : (r : Record) → (length (record_line r) == 0) ≡ false
unfolding record_line
some_line r = some_length 58 (digits_of (summed_bytes r ++ checksum (summed_bytes r) ∷ []))

line_added : (old : Contents) (r : Record) → IsRecord r → with_line old (record_line r) ≡ with_record old r
unfolding with_line
line_added old r is =
    ap (with_trimmed old) (line_trimmed r) ∙ rw (some_line r, bytes_of_record r is, record_of_line r is) refl

-- the line of a record, and the lines behind it
one_record : (number : ℕ) (old new : Contents) (r : Record) (rs : List Record) → IsRecord r
    → with_record old r ≡ Ok new
    → with_lines number old (lines_of (records_text (r ∷ rs)))
    ≡ with_lines (number + 1) new (lines_of (records_text rs))
unfolding with_lines
one_record number old new r rs is added =
    ap (with_lines number old) (record_line_ends r (records_text rs))
    ∙ ap (λ (c : Result Contents FileFault). c >>= (λ more. with_lines (number + 1) more (lines_of
    (records_text rs))))
    (ap (at_line number) (line_added old r is ∙ added))

-- ---- cells

abbrev Fits : List (Option ℕ) → Type 0
Fits [] = Unit {0}
Fits (None ∷ cells) = Fits cells
Fits (Some byte ∷ cells) = (byte < 256) × Fits cells

fits_all : (cells : List (Option ℕ)) → All (λ cell. IfSome cell (λ byte. byte < 256)) cells → Fits cells
fits_all [] all = tt
fits_all (None ∷ cells) all = fits_all cells (λ k c inside. all (suc k) c (omega (arith, inside)))
fits_all (Some byte ∷ cells) all =
    (all 0 (Some byte) (omega arith), fits_all cells (λ k c inside. all (suc k) c (omega (arith, inside))))

leading_small : (k : ℕ) (cells : List (Option ℕ)) → Fits cells → Small (leading (take k cells))
leading_small zero cells fits = tt
leading_small (suc k) [] fits = tt
leading_small (suc k) (None ∷ cells) fits = tt
leading_small (suc k) (Some byte ∷ cells) fits = (fits.0, leading_small k cells fits.1)

leading_few : (k : ℕ) (cells : List (Option ℕ)) → length (leading (take k cells)) ≤ length (leading cells)
leading_few zero cells = omega arith
leading_few (suc k) [] = omega arith
leading_few (suc k) (None ∷ cells) = omega arith
leading_few (suc k) (Some byte ∷ cells) = omega (arith, leading_few k cells)

leading_count : (k : ℕ) (cells : List (Option ℕ)) → length (leading (take k cells)) ≤ k
leading_count zero cells = omega arith
leading_count (suc k) [] = omega arith
leading_count (suc k) (None ∷ cells) = omega arith
leading_count (suc k) (Some byte ∷ cells) = omega (arith, leading_count k cells)

-- the bytes of a record, and those behind it
present_split : (k address : ℕ) (cells : List (Option ℕ)) → present_from address cells
    ≡ bytes_at address (leading (take k cells))
    ++ present_from (address + length (leading (take k cells))) (drop (length (leading (take k cells))) cells)
present_split zero address cells = ap (λ (a : ℕ). present_from a cells) (omega arith)
present_split (suc k) address [] = refl
present_split (suc k) address (None ∷ cells) = ap (λ (a : ℕ). present_from (a + 1) cells) (omega arith)
present_split (suc k) address (Some byte ∷ cells) =
    let further : address + 1 + length (leading (take k cells))
    ≡ address + length (byte ∷ leading (take k cells)) =
    omega arith in
    ap (λ (ps : List (ℕ × ℕ)). (address, byte) ∷ ps)
    (present_split k (address + 1) cells
    ∙ ap (λ (a : ℕ). bytes_at (address + 1) (leading (take k cells))
    ++ present_from a (drop (length (leading (take k cells))) cells)) further)

-- ---- the file

is_data : (address : ℕ) (bytes : List ℕ) → address < 65536 → Small bytes → length bytes ≤ 16
    → IsRecord (data_record address bytes)
is_data address bytes fits small few = record {
  address = fits;
  kind = omega arith;
  bytes = all_small_of bytes small;
  few = omega (arith, few);
  count = refl;
}
  where
    all_small_of : (bs : List ℕ) → Small bs → All (λ byte. byte < 256) bs
    all_small_of [] s k byte inside = absurd (omega (arith, inside))
    all_small_of (b ∷ bs) s zero byte inside = s.0
    all_small_of (b ∷ bs) s (suc k) byte inside = all_small_of bs s.1 k byte (omega (arith, inside))

is_end : (start : Option ℕ) → unwrap_or start 0 < 65536 → IsRecord (end_record start)
is_end start fits = record {
  address = fits;
  kind = omega arith;
  bytes = λ k byte inside. absurd (omega (arith, inside));
  few = omega arith;
  count = refl;
}

-- the lines of the end record
end_read : (number : ℕ) (ps : List (ℕ × ℕ)) (start : Option ℕ) → unwrap_or start 0 < 65536
    → with_lines number (at_none ps) (lines_of (records_text (end_record start ∷ [])))
    ≡ Ok (record { bytes = ps; end_address = Some (unwrap_or start 0) })
unfolding with_lines lines_of
end_read number ps start fits =
    one_record number (at_none ps) (record {
      bytes = ps;
      end_address =
          Some (unwrap_or start 0);
    }) (end_record start)
    [] (is_end start fits) (with_end ps start fits)

-- the contents behind these bytes and those of the cells
abbrev read_to : List (ℕ × ℕ) → ℕ → List (Option ℕ) → Option ℕ → Result Contents FileFault
read_to ps address cells start =
    Ok (record { bytes = ps ++ present_from address cells; end_address = Some (unwrap_or start 0) })

cells_read : (cells : List (Option ℕ)) (number address covered : ℕ) (ps : List (ℕ × ℕ)) (start : Option ℕ)
    → address + length cells ≤ 65536 → covered ≤ length (leading cells) → Below (address + covered) ps
    → Fits cells → unwrap_or start 0 < 65536
    → with_lines number (at_none ps)
    (lines_of (records_text (records_from address covered cells ++ end_record start ∷ [])))
    ≡ read_to ps (address + covered) (drop covered cells) start
unfolding records_from
cells_read [] number address zero ps start fits inside below small start_fits =
    end_read number ps start start_fits
    ∙ ap (λ (qs : List (ℕ × ℕ)). Ok (record { bytes = qs; end_address = Some (unwrap_or start 0) }))
    (sym (append-nil ps))
cells_read [] number address (suc covered) ps start fits inside below small start_fits =
    absurd (omega (arith, inside))
cells_read (None ∷ cells) number address zero ps start fits inside below small start_fits =
    cells_read cells number (address + 1) 0 ps start (omega (arith, fits)) (omega arith)
    (below_more (address + 0) (address + 1 + 0) ps (omega arith) below) small start_fits
    ∙ ap (λ (a : ℕ). read_to ps a cells start) (moved address)
  where
    moved : (a : ℕ) → a + 1 + 0 ≡ a + 0 + 1
    moved a = omega arith
cells_read (None ∷ cells) number address (suc covered) ps start fits inside below small start_fits =
    absurd (omega (arith, inside))
cells_read (Some byte ∷ cells) number address (suc covered) ps start fits inside below small start_fits =
    cells_read cells number (address + 1) covered ps start (omega (arith, fits)) (omega (arith, inside))
    (below_more (address + suc covered) (address + 1 + covered) ps (omega arith) below) small.1 start_fits
    ∙ ap (λ (a : ℕ). read_to ps a (drop covered cells) start) (moved address covered)
  where
    moved : (a n : ℕ) → a + 1 + n ≡ a + suc n
    moved a n = omega arith
cells_read (Some byte ∷ cells) number address zero ps start fits inside below small start_fits =
    let more = leading (take 15 cells) in
    let bytes : List ℕ = byte ∷ more in
    let few : length more ≤ 15 = leading_count 15 cells in
    let within : length more ≤ length (leading cells) = leading_few 15 cells in
    let all : length (leading cells) ≤ length cells = few_leading cells in
    let end : address + length bytes ≤ 65536 = omega (arith, fits, within, all) in
    let here : Below address ps = below_more (address + 0) address ps (omega arith) below in
    let one : length bytes - 1 ≡ length more = omega arith in
    one_record number (at_none ps) (at_none (ps ++ bytes_at address bytes)) (data_record address bytes)
    (records_from (address + 1) (length bytes - 1) cells ++ end_record start ∷ [])
    (is_data address bytes (omega (arith, fits)) (small.0, leading_small 15 cells small.1) (omega
    (arith, few)))
    (with_data ps address bytes end here)
    ∙ ap (λ (n : ℕ). with_lines (number + 1) (at_none (ps ++ bytes_at address bytes))
    (lines_of (records_text (records_from (address + 1) n cells ++ end_record start ∷ [])))) one
    ∙ cells_read cells (number + 1) (address + 1) (length more) (ps ++ bytes_at address bytes) start
    (omega (arith, fits)) within
    (below_append (address + 1 + length more) ps (bytes_at address bytes)
    (below_more address (address + 1 + length more) ps (omega arith) here)
    (below_placed (address + 1 + length more) address bytes (omega arith)))
    small.1 start_fits
    ∙ ap (λ (qs : List (ℕ × ℕ)). Ok (record { bytes = qs; end_address = Some (unwrap_or start 0) }))
    (append_assoc ps (bytes_at address bytes) (present_from (address + 1 + length more) (drop
    (length more) cells))
    ∙ ap (λ (qs : List (ℕ × ℕ)). ps ++ qs)
    (ap (λ (a : ℕ). bytes_at address bytes ++ present_from a (drop (length more) cells)) (moved address
    (length more))
    ∙ sym (present_split 16 address (Some byte ∷ cells))
    ∙ ap (λ (a : ℕ). present_from a (Some byte ∷ cells)) (still address)))
  where
    moved : (a n : ℕ) → a + 1 + n ≡ a + suc n
    moved a n = omega arith

    still : (a : ℕ) → a ≡ a + 0
    still a = omega arith

-- ---- its length

length-digits : (bytes : List ℕ) → length (digits_of bytes) ≡ 2 * length bytes
length-digits [] = refl
length-digits (byte ∷ bytes) = omega (arith, length-digits bytes)

length-line : (r : Record) → length (record_line r ++ 10 ∷ []) ≡ 12 + 2 * length r.bytes
unfolding record_line
length-line r =
    let line : List ℕ = digits_of (summed_bytes r ++ checksum (summed_bytes r) ∷ []) in
    let digits : length line ≡ 2 * length (summed_bytes r ++ checksum (summed_bytes r) ∷ []) =
    length-digits (summed_bytes r ++ checksum (summed_bytes r) ∷ []) in
    let tail : length (r.bytes ++ checksum (summed_bytes r) ∷ []) ≡ length r.bytes + 1 =
    length-append r.bytes (checksum (summed_bytes r) ∷ []) in
    let whole : length ((58 ∷ line) ++ 10 ∷ []) ≡ length (58 ∷ line) + 1 =
    length-append (58 ∷ line) (10 ∷ []) in
    omega (arith, digits, tail, whole)

length-text : (r : Record) (rs : List Record)
    → length (records_text (r ∷ rs)) ≡ 12 + 2 * length r.bytes + length (records_text rs)
length-text r rs =
    let whole : length ((record_line r ++ 10 ∷ []) ++ records_text rs) ≡ length (record_line r ++ 10 ∷ [])
    + length (records_text rs) = length-append (record_line r ++ 10 ∷ []) (records_text rs) in
    omega (arith, whole, length-line r)

-- at most 14 bytes for each cell
few_bytes : (cells : List (Option ℕ)) (address covered : ℕ) (start : Option ℕ)
    → covered ≤ length (leading cells)
    → length (records_text (records_from address covered cells ++ end_record start ∷ [])) + 14 * covered
    ≤ 14 * length cells + 12
unfolding records_from
few_bytes [] address zero start inside = omega (arith, length-text (end_record start) [])
few_bytes [] address (suc covered) start inside = absurd (omega (arith, inside))
few_bytes (None ∷ cells) address zero start inside =
    omega (arith, few_bytes cells (address + 1) 0 start (omega arith))
few_bytes (None ∷ cells) address (suc covered) start inside = absurd (omega (arith, inside))
few_bytes (Some byte ∷ cells) address (suc covered) start inside =
    omega (arith, few_bytes cells (address + 1) covered start (omega (arith, inside)))
few_bytes (Some byte ∷ cells) address zero start inside =
    let more = leading (take 15 cells) in
    let bytes : List ℕ = byte ∷ more in
    let rest = records_from (address + 1) (length bytes - 1) cells ++ end_record start ∷ [] in
    let one : length bytes - 1 ≡ length more = omega arith in
    let within : length bytes - 1 ≤ length (leading cells) = omega (arith, one, leading_few 15 cells) in
    let after = few_bytes cells (address + 1) (length bytes - 1) start within in
    omega (arith, one, length-text (data_record address bytes) rest, after)

fits_start : (start : Option ℕ) → IfSome start (λ address. address < 65536) → unwrap_or start 0 < 65536
fits_start None fits = omega arith
fits_start (Some address) fits = fits

pub read_back : (cells : List (Option ℕ)) (start : Option ℕ) → length cells ≤ 65536
    → All (λ cell. IfSome cell (λ byte. byte < 256)) cells → IfSome start (λ address. address < 65536)
    → hex_of (hex_text cells start) ≡ Ok (present_from 0 cells, start_read start)
unfolding hex_of hex_text at_none
read_back cells start few small fits =
    let text = records_text (records_from 0 0 cells ++ end_record start ∷ []) in
    let short : nat_lt 1048576 (length text) ≡ false =
    grind (arith, nat_tests, few, few_bytes cells 0 0 start (omega arith)) in
    let read = cells_read cells 1 0 0 [] start (omega (arith, few)) (omega arith) tt
    (fits_all cells small) (fits_start start fits) in
    rw (short, read) refl
