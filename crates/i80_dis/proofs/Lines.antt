-- The lines of bytes, one behind the other.
use Rattle.std.proofs.Common.{◌≡◌, ℕ, zero, suc, ◌+◌, ◌-◌, ◌*◌, ◌<◌, ◌≤◌, List, [], ◌∷◌, ◌++◌, length}
use Rattle.std.proofs.Common.{drop, Bool, true, false, map, get_or, drop-cons, add-one, append_assoc}
use Rattle.std.proofs.Common.{Option, Some, None, Result, Ok, Err, refl, sym, ap, ◌∙◌, arith}
use Rattle.std.proofs.lemmas.List.{drop_all, append-nil}
use Rattle.i80_base.specs.declared.instruction.Instr.{Instr}
use Rattle.i80_base.specs.declared.instruction.DecodeFault.{DecodeFault}
use Rattle.i80_base.specs.Rows.{Row, Undefined, Alone, Byte, Word, row, first_instruction, read_row}
use Rattle.i80_dis.specs.declared.line.Shown.{Shown}
use Rattle.i80_dis.specs.declared.line.Shown.TheVariants.{Datum}
use Rattle.i80_dis.specs.Shown.{is_cut_off, first_shown, next_shown, lines_from, lines_of}
use Rattle.std.specs.Prelude.{OnOk, if◌then◌else◌}
use Rattle.i80_dis.specs.Text.{text_of, text_line, origin_line, text_of_lines, listing_of}

-- ---- how long an instruction is that was read

pub record Within (n : ℕ) (bytes : List ℕ) : Type 0 where
  pub some : 0 < n
  pub most : n ≤ length bytes

abbrev was_read : Instr × ℕ → Result (Instr × ℕ) DecodeFault
was_read p = Ok p

read_is : (p q : Instr × ℕ) → was_read p ≡ was_read q → p ≡ q
read_is p q e = cc

abbrev next_is : Shown × ℕ → Option (Shown × ℕ)
next_is p = Some p

some_is : (p q : Shown × ℕ) → next_is p ≡ next_is q → p ≡ q
some_is p q e = cc

long : (i j : Instr) (n m : ℕ) → was_read (j, m) ≡ was_read (i, n) → m ≡ n
long i j n m e = ap (λ (p : Instr × ℕ). p.1) (read_is (j, m) (i, n) e)

row_within : (w : Row) (i : Instr) (n opcode : ℕ) (rest : List ℕ) → read_row w rest ≡ Ok (i, n)
    → Within n (opcode ∷ rest)
row_within Undefined i n opcode rest e = absurd cc
row_within (Alone j) i n opcode rest e =
    let n_is : 1 ≡ n = long i j n 1 e in record { some = omega (arith, n_is); most = omega (arith, n_is) }
row_within (Byte f) i n opcode [] e = absurd cc
row_within (Byte f) i n opcode (b ∷ rest) e =
    let n_is : 2 ≡ n = long i (f b) n 2 e in record { some = omega (arith, n_is); most = omega (arith, n_is) }
row_within (Word f) i n opcode [] e = absurd cc
row_within (Word f) i n opcode (low ∷ []) e = absurd cc
row_within (Word f) i n opcode (low ∷ (high ∷ rest)) e =
    let n_is : 3 ≡ n =
    long i (f (low + 256 * high)) n 3 e in
    record { some = omega (arith, n_is); most = omega (arith, n_is) }

pub read_within : (i : Instr) (n : ℕ) (bytes : List ℕ) → first_instruction bytes ≡ Ok (i, n) → Within n bytes
read_within i n [] e = absurd cc
read_within i n (opcode ∷ rest) e = row_within (row opcode) i n opcode rest e

-- ---- lines

pub skips : (k : ℕ) (bytes : List ℕ) → lines_from k bytes ≡ lines_of (drop k bytes)
unfolding lines_from
skips zero bytes = refl
skips (suc k) [] = refl
skips (suc k) (b ∷ bytes) = skips k bytes

less_one : (n : ℕ) → suc n - 1 ≡ n
less_one n = omega arith

-- the first line, and those behind it
next_line : (cut : Bool) (s : Shown) (n b : ℕ) (bytes : List ℕ)
    → is_cut_off (first_instruction (b ∷ bytes)) ≡ cut
    → (if cut then None else next_is (first_shown (b ∷ bytes))) ≡ next_is (s, suc n)
    → lines_of (b ∷ bytes) ≡ s ∷ lines_of (drop n bytes)
unfolding lines_from
next_line true s n b bytes e h = absurd cc
next_line false s n b bytes e h =
    rw (e, some_is (first_shown (b ∷ bytes)) (s, suc n) h)
    (ap (λ k. s ∷ lines_from k bytes) (less_one n) ∙ ap (λ ls. s ∷ ls) (skips n bytes))

pub line_goes : (s : Shown) (n : ℕ) (bytes : List ℕ) → 0 < length bytes → 0 < n
    → next_shown bytes ≡ Some (s, n) → lines_of bytes ≡ s ∷ lines_of (drop n bytes)
line_goes s n [] lt pos e = absurd (omega (arith, lt))
line_goes s zero (b ∷ bytes) lt pos e = absurd (omega (arith, pos))
line_goes s (suc n) (b ∷ bytes) lt pos e =
    next_line (is_cut_off (first_instruction (b ∷ bytes))) s n b bytes refl e

cut_off : (cut : Bool) (b : ℕ) (bytes : List ℕ) → is_cut_off (first_instruction (b ∷ bytes)) ≡ cut
    → (if cut then None else next_is (first_shown (b ∷ bytes))) ≡ None
    → lines_of (b ∷ bytes) ≡ map Datum (b ∷ bytes)
unfolding lines_from
cut_off true b bytes e h = rw e refl
cut_off false b bytes e h = absurd cc

pub cut_off_lines : (bytes : List ℕ) → 0 < length bytes → next_shown bytes ≡ None
    → lines_of bytes ≡ map Datum bytes
cut_off_lines [] lt h = absurd (omega (arith, lt))
cut_off_lines (b ∷ bytes) lt h = cut_off (is_cut_off (first_instruction (b ∷ bytes))) b bytes refl h

-- ---- their text, added one by one

abbrev with_lines : List ℕ → List Shown → List ℕ
with_lines text lines = text ++ text_of_lines lines

one_more : (text new : List ℕ) (line : Shown) (lines : List Shown) (total : List ℕ)
    → new ≡ text ++ text_line (text_of line)
    → with_lines text (line ∷ lines) ≡ total → with_lines new lines ≡ total
one_more text new line lines total e h =
    ap (λ t. with_lines t lines) e ∙ append_assoc text (text_line (text_of line)) (text_of_lines lines) ∙ h

pub line_added : (text new total : List ℕ) (s : Shown) (n : ℕ) (bytes : List ℕ) → 0 < length bytes → 0 < n
    → next_shown bytes ≡ Some (s, n)
    → new ≡ text ++ text_line (text_of s)
    → text ++ text_of_lines (lines_of bytes) ≡ total → new ++ text_of_lines (lines_of (drop n bytes)) ≡ total
line_added text new total s n bytes lt pos is e h =
    one_more text new s (lines_of (drop n bytes)) total e
    (ap (with_lines text) (sym (line_goes s n bytes lt pos is)) ∙ h)

pub on_ok : {A E : Type 0} {P Q : Type 0} (r : Result A E) → (P → Q) → OnOk r P → OnOk r Q
on_ok (Ok x) f p = f p
on_ok (Err e) f p = tt

pub data_added : (text new total : List ℕ) (bytes : List ℕ) → 0 < length bytes → next_shown bytes ≡ None
    → new ≡ text ++ text_of_lines (map Datum bytes)
    → text ++ text_of_lines (lines_of bytes) ≡ total → new ≡ total
data_added text new total bytes lt is e h = e ∙ ap (with_lines text) (sym (cut_off_lines bytes lt is)) ∙ h

pub none_left : (text total : List ℕ) (bytes : List ℕ) → length bytes ≡ 0
    → text ++ text_of_lines (lines_of bytes) ≡ total → text ≡ total
unfolding lines_from
none_left text total [] e h = sym (append-nil text) ∙ h
none_left text total (b ∷ bytes) e h = absurd (omega (arith, e))

-- ---- bytes, each on its line

pub datum_added : (text new total : List ℕ) (i : ℕ) (bytes : List ℕ) → i < length bytes
    → new ≡ text ++ text_line (text_of (Datum (get_or bytes i 0)))
    → text ++ text_of_lines (map Datum (drop i bytes)) ≡ total
    → new ++ text_of_lines (map Datum (drop (i + 1) bytes)) ≡ total
datum_added text new total i bytes lt e h =
    let next : drop i bytes ≡ get_or bytes i 0 ∷ drop (i + 1) bytes =
    drop-cons bytes i 0 lt ∙ ap (λ k. get_or bytes i 0 ∷ drop k bytes) (sym (add-one i)) in
    one_more text new (Datum (get_or bytes i 0)) (map Datum (drop (i + 1) bytes)) total e
    (ap (λ bs. with_lines text (map Datum bs)) (sym next) ∙ h)

pub no_data_left : (text total : List ℕ) (i : ℕ) (bytes : List ℕ) → length bytes ≤ i
    → text ++ text_of_lines (map Datum (drop i bytes)) ≡ total → text ≡ total
no_data_left text total i bytes le h =
    sym (append-nil text) ∙ sym (ap (λ bs. with_lines text (map Datum bs)) (drop_all i bytes le)) ∙ h

-- ---- the whole text

pub listing_none : (address : ℕ) (bytes : List ℕ) → length bytes ≡ 0 → listing_of address bytes ≡ []
unfolding listing_of
listing_none address [] e = refl
listing_none address (b ∷ bytes) e = absurd (omega (arith, e))

pub listing_some : (address : ℕ) (bytes : List ℕ) → 0 < length bytes
    → listing_of address bytes ≡ origin_line address ++ text_of_lines (lines_of bytes)
unfolding listing_of
listing_some address [] lt = absurd (omega (arith, lt))
listing_some address (b ∷ bytes) lt = refl
