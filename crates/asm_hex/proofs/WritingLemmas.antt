-- The records of cells, cell by cell.
use Rattle.std.proofs.Common.{◌≡◌, ℕ, zero, suc, ◌+◌, ◌-◌, ◌<◌, ◌≤◌, List, [], ◌∷◌, ◌++◌, length, take, drop}
use Rattle.std.proofs.Common.{true, false, Option, Some, None, is_some, get_or}
use Rattle.std.proofs.Common.{min, refl, ap, sym, ◌∙◌, arith, append_assoc, append-nil, drop-drop}
use Rattle.std.proofs.lemmas.List.{take_min, drop_all}
use Rattle.std.proofs.Common.{◌/◌, ◌%◌, codes}
use Rattle.std.specs.Prelude.{sum}
use Rattle.std.proofs.lemmas.Grind.{flat_map-append}
use Rattle.std.proofs.lemmas.List.Sums.{sum_by-append}
use Rattle.base_text.specs.Hexadecimal.{upper_byte}
use Rattle.asm_hex.specs.Record.{digits_of, checksum, summed_bytes, record_line}
use Rattle.asm_hex.specs.Written.{leading, cells_line, records_from, records_text}

-- a cell that is in a record already
pub records_covered : (address covered : ℕ) (cells : List (Option ℕ)) → 0 < covered → 0 < length cells
    → records_from (address + 1) (covered - 1) (drop 1 cells) ≡ records_from address covered cells
unfolding records_from
records_covered address zero cells p l = absurd (omega arith)
records_covered address (suc covered) [] p l = absurd (omega arith)
records_covered address (suc covered) (cell ∷ cells) p l =
    let one : suc covered - 1 ≡ covered = omega arith in
    ap (λ (n : ℕ). records_from (address + 1) n cells) one

-- a cell without a byte
pub records_gap : (address covered : ℕ) (cells : List (Option ℕ)) → covered ≤ 0 → 0 < length cells
    → is_some (get_or cells 0 None) ≡ false
    → records_from (address + 1) 0 (drop 1 cells) ≡ records_from address covered cells
unfolding records_from
records_gap address (suc covered) cells p l n = absurd (omega arith)
records_gap address zero [] p l n = absurd (omega arith)
records_gap address zero (None ∷ cells) p l n = refl
records_gap address zero (Some byte ∷ cells) p l n = cc

-- a cell with whose byte a record begins
record_begun : (address covered : ℕ) (cells : List (Option ℕ)) → covered ≤ 0 → 0 < length cells
    → is_some (get_or cells 0 None) ≡ true
    → records_text (records_from address covered cells) ≡ cells_line address 0 (take 16 cells)
    ++ records_text (records_from (address + 1) (length (leading (take 16 cells)) - 1) (drop 1 cells))
unfolding records_from
record_begun address (suc covered) cells p l n = absurd (omega arith)
record_begun address zero [] p l n = absurd (omega arith)
record_begun address zero (None ∷ cells) p l n = cc
record_begun address zero (Some byte ∷ cells) p l n = refl

-- the record, added
pub record_added : (text : List ℕ) (address covered : ℕ) (cells front : List (Option ℕ)) → covered ≤ 0
    → 0 < length cells → is_some (get_or cells 0 None) ≡ true
    → front ≡ take (min (length cells) 16) cells
    → (text ++ cells_line address 0 front)
    ++ records_text (records_from (address + 1) (length (leading front) - 1) (drop 1 cells))
    ≡ text ++ records_text (records_from address covered cells)
record_added text address covered cells front p l some front_is =
    let whole : take 16 cells ≡ front =
    sym (front_is ∙ ap (λ (n : ℕ). take n cells) (min_swapped (length cells)) ∙ take_min 16 cells) in
    rw (record_begun address covered cells p l some, whole)
    (append_assoc text (cells_line address 0 front)
    (records_text (records_from (address + 1) (length (leading front) - 1) (drop 1 cells))))
  where
    min_swapped : (n : ℕ) → min n 16 ≡ min 16 n
    min_swapped n = omega arith

-- behind the last cell there are no records
pub records_done : (text whole : List ℕ) (address covered : ℕ) (cells : List (Option ℕ))
    → length cells ≤ address
    → text ++ records_text (records_from address covered (drop address cells)) ≡ whole → text ≡ whole
unfolding records_from
records_done text whole address covered cells past all =
    let none : drop address cells ≡ [] = drop_all address cells past in
    sym (append-nil text) ∙ (rw none at all)

-- one cell further
pub records_next : (text text' whole : List ℕ) (rest cells : List (Option ℕ)) (address covered covered' : ℕ)
    → rest ≡ drop address cells
    → text' ++ records_text (records_from (address + 1) covered' (drop 1 rest))
    ≡ text ++ records_text (records_from address covered rest)
    → text ++ records_text (records_from address covered (drop address cells)) ≡ whole
    → text' ++ records_text (records_from (address + 1) covered' (drop (address + 1) cells)) ≡ whole
records_next text text' whole rest cells address covered covered' rest_is step all =
    let one : drop 1 (drop address cells) ≡ drop (address + 1) cells = drop-drop 1 address cells in
    ap (λ (cs : List (Option ℕ)). text' ++ records_text (records_from (address + 1) covered' cs))
    (sym one ∙ ap (drop 1) (sym rest_is))
    ∙ step
    ∙ ap (λ (cs : List (Option ℕ)). text ++ records_text (records_from address covered cs)) rest_is ∙ all

-- ---- the line of a record

pub few_leading : (cells : List (Option ℕ)) → length (leading cells) ≤ length cells
few_leading [] = omega arith
few_leading (None ∷ cells) = omega arith
few_leading (Some byte ∷ cells) = omega (arith, few_leading cells)

-- the last byte, from the sum of the others modulo 256
checksum_is : (address kind head total c : ℕ) (bytes : List ℕ)
    → head ≡ sum (length bytes ∷ (address / 256 ∷ (address % 256 ∷ (kind ∷ [])))) % 256
    → total ≡ (head + sum bytes) % 256 → c ≡ (0 + (256 - total)) % 256
    → c ≡ checksum (summed_bytes (record { address = address; kind = kind; bytes = bytes }))
checksum_is address kind head total c bytes head_is total_is c_is =
    let front : List ℕ = length bytes ∷ (address / 256 ∷ (address % 256 ∷ (kind ∷ []))) in
    let all : sum (front ++ bytes) ≡ sum front + sum bytes = sum_by-append (λ (x : ℕ). x) front bytes in
    checked (sum front) (sum bytes) (sum (front ++ bytes)) head total c all head_is total_is c_is
  where
    checked : (s t w head total c : ℕ) → w ≡ s + t → head ≡ s % 256 → total ≡ (head + t) % 256
        → c ≡ (0 + (256 - total)) % 256 → c ≡ (256 - w % 256) % 256
    checked s t w head total c w_is head_is total_is c_is = omega (arith, w_is, head_is, total_is, c_is)

-- a line, written piece by piece
pub line_written : (text : List ℕ) (address kind head total c : ℕ) (cells : List (Option ℕ))
    → head ≡ sum (length (leading cells) ∷ (address / 256 ∷ (address % 256 ∷ (kind ∷ [])))) % 256
    → total ≡ (head + sum (leading cells)) % 256 → c ≡ (0 + (256 - total)) % 256
    → ((((text ++ codes ":") ++ digits_of (length (leading cells) ∷ (address / 256 ∷ (address % 256 ∷
    (kind ∷ [])))))
    ++ digits_of (leading cells)) ++ upper_byte c) ++ 10 ∷ [] ≡ text ++ cells_line address kind cells
unfolding record_line
line_written text address kind head total c cells head_is total_is c_is =
    let bytes = leading cells in
    let last = checksum_is address kind head total c bytes head_is total_is c_is in
    let front : List ℕ = length bytes ∷ (address / 256 ∷ (address % 256 ∷ (kind ∷ []))) in
    joined text (codes ":") (digits_of front) (digits_of bytes) (upper_byte c) (10 ∷ [])
    ∙ ap (λ (ds : List ℕ). text ++ ((codes ":" ++ ds) ++ 10 ∷ []))
    (ap (λ (ds : List ℕ). digits_of front ++ ds)
    (sym (flat_map-append upper_byte bytes (c ∷ [])
    ∙ ap (λ (ds : List ℕ). digits_of bytes ++ ds) (append-nil (upper_byte c))))
    ∙ sym (flat_map-append upper_byte front (bytes ++ c ∷ []))
    ∙ ap (λ (n : ℕ). digits_of (front ++ bytes ++ n ∷ [])) last)
  where
    joined : (t a b c d e : List ℕ) → ((((t ++ a) ++ b) ++ c) ++ d) ++ e ≡ t ++ ((a ++ (b ++ (c ++ d))) ++ e)
    joined t a b c d e = simp append_assoc
