-- What is shown first of bytes is the first line of their listing.
use Rattle.std.proofs.Common.{◌≡◌, ℕ, ◌<◌, ◌≤◌, List, [], ◌∷◌, ◌++◌, length, drop, take, map}
use Rattle.std.proofs.Common.{Result, Ok, Err, refl, sym, ap, ◌∙◌, arith}
use Rattle.std.proofs.lemmas.List.{take-append-drop, length-take-le}
use Rattle.i80_base.specs.declared.instruction.Instr.{Instr}
use Rattle.i80_base.specs.declared.instruction.DecodeFault.{DecodeFault}
use Rattle.i80_base.specs.declared.instruction.DecodeFault.TheVariants as fault
use Rattle.i80_base.specs.Rows.{row, first_instruction}
use Rattle.i80_rows.specs.Encoding.{encoding_of}
use Rattle.i80_rows.proofs.OnlyEncoding.{encoding_is}
use Rattle.i80_dis.specs.declared.line.Shown.{Shown}
use Rattle.i80_dis.specs.declared.line.Shown.TheVariants.{Datum}
use Rattle.i80_dis.specs.Shown.{IsCutOff, shown_by, first_shown, bytes_shown, lines_of}
use Rattle.i80_listings_laws.specs.Bytes.{AreBytes}
use Rattle.i80_listings_laws.proofs.Cells.{front_bytes, second_small}
use Rattle.i80_dis.proofs.Lines.{read_within}
use Rattle.i80_listings_laws.proofs.Relation.{instruction_line, undefined_line, cut_off_line, encodes_front}
use Rattle.i80_listings_laws.proofs.Relation.{short_row}

-- ---- the line

abbrev Begins : List ℕ → Shown → Type 0
Begins bytes shown = (lines : List Shown) × (lines_of bytes ≡ shown ∷ lines)

line_by : (r : Result (Instr × ℕ) DecodeFault) (b : ℕ) (bytes : List ℕ) → first_instruction (b ∷ bytes) ≡ r
    → Begins (b ∷ bytes) (shown_by b r).0
line_by (Ok (i, n)) b bytes e = (lines_of (drop n (b ∷ bytes)), instruction_line i n (b ∷ bytes) e)
line_by (Err fault.Undefined) b bytes e = (lines_of bytes, undefined_line b bytes e)
line_by (Err (fault.Short n)) b bytes e = (map Datum bytes, cut_off_line n b bytes e)

pub first_line : (bytes : List ℕ) → 0 < length bytes → Begins bytes (first_shown bytes).0
first_line [] lt = absurd (omega (arith, lt))
first_line (b ∷ bytes) lt = line_by (first_instruction (b ∷ bytes)) b bytes refl

-- ---- the lines behind it

others_by : (r : Result (Instr × ℕ) DecodeFault) (b : ℕ) (bytes : List ℕ) → (IsCutOff (b ∷ bytes) → ⊥)
    → first_instruction (b ∷ bytes) ≡ r
    → lines_of (b ∷ bytes) ≡ (shown_by b r).0 ∷ lines_of (drop (shown_by b r).1 (b ∷ bytes))
others_by (Ok (i, n)) b bytes whole e = instruction_line i n (b ∷ bytes) e
others_by (Err fault.Undefined) b bytes whole e = undefined_line b bytes e
others_by (Err (fault.Short n)) b bytes whole e = absurd (whole (short_row (row b) n b bytes e))

pub other_lines : (bytes : List ℕ) → (IsCutOff bytes → ⊥) → 0 < length bytes
    → lines_of bytes ≡ (first_shown bytes).0 ∷ lines_of (drop (first_shown bytes).1 bytes)
other_lines [] whole lt = absurd (omega (arith, lt))
other_lines (b ∷ bytes) whole lt = others_by (first_instruction (b ∷ bytes)) b bytes whole refl

-- ---- its bytes

-- so many bytes in front are those that the line shows
record Fronts (bytes : List ℕ) (shown : Shown) (n : ℕ) : Type 0 where
  shows : take n bytes ≡ bytes_shown shown
  within : n ≤ length bytes

instruction_fronts : (i : Instr) (n : ℕ) (bytes : List ℕ) → AreBytes bytes
    → first_instruction bytes ≡ Ok (i, n)
    → take n bytes ≡ encoding_of i
instruction_fronts i n bytes are e =
    let front = take n bytes in
    let whole : bytes ≡ front ++ drop n bytes = sym (take-append-drop n bytes) in
    let small = second_small front (front_bytes front (drop n bytes) (rw (sym whole) are)) in
    encoding_is i front (encodes_front i n bytes e) small

fronts_by : (r : Result (Instr × ℕ) DecodeFault) (b : ℕ) (bytes : List ℕ) → AreBytes (b ∷ bytes)
    → first_instruction (b ∷ bytes) ≡ r → Fronts (b ∷ bytes) (shown_by b r).0 (shown_by b r).1
fronts_by (Ok (i, n)) b bytes are e =
    let w = read_within i n (b ∷ bytes) e in
    record { shows = instruction_fronts i n (b ∷ bytes) are e; within = w.most }
fronts_by (Err f) b bytes are e = record { shows = refl; within = omega arith }

fronts : (bytes : List ℕ) → AreBytes bytes → 0 < length bytes
    → Fronts bytes (first_shown bytes).0 (first_shown bytes).1
fronts [] are lt = absurd (omega (arith, lt))
fronts (b ∷ bytes) are lt = fronts_by (first_instruction (b ∷ bytes)) b bytes are refl

pub first_bytes : (bytes : List ℕ) → AreBytes bytes → 0 < length bytes
    → (rest : List ℕ) × (bytes ≡ bytes_shown (first_shown bytes).0 ++ rest)
first_bytes bytes are lt =
    let n = (first_shown bytes).1 in
    let f = fronts bytes are lt in
    (drop n bytes, sym (take-append-drop n bytes) ∙ ap (λ bs. bs ++ drop n bytes) f.shows)

pub first_length : (bytes : List ℕ) → AreBytes bytes → 0 < length bytes
    → (first_shown bytes).1 ≡ length (bytes_shown (first_shown bytes).0)
first_length bytes are lt =
    let n = (first_shown bytes).1 in
    let f = fronts bytes are lt in
    sym (length-take-le n bytes f.within) ∙ ap (λ (bs : List ℕ). length bs) f.shows
