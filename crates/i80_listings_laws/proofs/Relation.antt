-- The lines that are read off the table are those of the bytes, and there are no others.
use Rattle.std.proofs.Common.{◌≡◌, ◌↔◌, ℕ, zero, suc, ◌<◌, ◌≤◌, inl, inr, List, [], ◌∷◌, ◌++◌, length, drop}
use Rattle.std.proofs.Common.{take, map, Some, None, Result, Ok, Err, IfOk, refl, sym, ap, subst, ◌∙◌, arith}
use Rattle.std.proofs.lemmas.List.{take-append-drop, length-drop}
use Rattle.std.proofs.Math.Seq.{drop-append_seam}
use Rattle.i80_base.specs.declared.instruction.Instr.{Instr}
use Rattle.i80_base.specs.declared.instruction.DecodeFault.{DecodeFault}
use Rattle.i80_base.specs.declared.instruction.DecodeFault.TheVariants as fault
use Rattle.i80_base.specs.Rows.{Row, Undefined, Alone, Byte, Word, row, first_instruction, read_row}
use Rattle.i80_rows.specs.Encoding.{Encodes}
use Rattle.i80_rows.proofs.DecodeLemmas.{read_found, encoded_read}
use Rattle.i80_dis.specs.declared.line.Shown.{Shown}
use Rattle.i80_dis.specs.declared.line.Shown.TheVariants.{Instruction, Datum}
use Rattle.i80_dis.specs.Shown.{length_in, IsCutOff, Lists, next_shown, lines_from, lines_of}
use Rattle.i80_dis.proofs.Lines.{read_within, line_goes, cut_off_lines}

-- ---- what the first line shows, by what is read

instruction_next : (i : Instr) (n : ℕ) (bytes : List ℕ) → first_instruction bytes ≡ Ok (i, n)
    → next_shown bytes ≡ Some (Instruction i, n)
instruction_next i n [] e = absurd cc
instruction_next i n (b ∷ bytes) e = rw e refl

undefined_next : (b : ℕ) (bytes : List ℕ) → first_instruction (b ∷ bytes) ≡ Err fault.Undefined
    → next_shown (b ∷ bytes) ≡ Some (Datum b, 1)
undefined_next b bytes e = rw e refl

cut_off_next : (n : ℕ) (bytes : List ℕ) → first_instruction bytes ≡ Err (fault.Short n)
    → next_shown bytes ≡ None
cut_off_next n bytes e = rw e refl

some_there : (i : Instr) (n : ℕ) (bytes : List ℕ) → first_instruction bytes ≡ Ok (i, n) → 0 < length bytes
some_there i n bytes e =
    let w = read_within i n bytes e in let p = w.some in let q = w.most in omega (arith, p, q)

pub instruction_line : (i : Instr) (n : ℕ) (bytes : List ℕ) → first_instruction bytes ≡ Ok (i, n)
    → lines_of bytes ≡ Instruction i ∷ lines_of (drop n bytes)
instruction_line i n bytes e =
    let w = read_within i n bytes e in
    line_goes (Instruction i) n bytes (some_there i n bytes e) w.some (instruction_next i n bytes e)

pub undefined_line : (b : ℕ) (bytes : List ℕ) → first_instruction (b ∷ bytes) ≡ Err fault.Undefined
    → lines_of (b ∷ bytes) ≡ Datum b ∷ lines_of bytes
undefined_line b bytes e =
    line_goes (Datum b) 1 (b ∷ bytes) (omega arith) (omega arith) (undefined_next b bytes e)

pub cut_off_line : (n b : ℕ) (bytes : List ℕ) → first_instruction (b ∷ bytes) ≡ Err (fault.Short n)
    → lines_of (b ∷ bytes) ≡ Datum b ∷ map Datum bytes
cut_off_line n b bytes e = cut_off_lines (b ∷ bytes) (omega arith) (cut_off_next n (b ∷ bytes) e)

-- ---- lines of bytes are those that are read

-- an instruction that is cut off is read as that
short_read : (w : Row) (opcode : ℕ) (rest : List ℕ) → length (opcode ∷ rest) < length_in w
    → (n : ℕ) × (read_row w rest ≡ Err (fault.Short n))
short_read Undefined opcode rest lt = absurd (omega (arith, lt))
short_read (Alone i) opcode rest lt = absurd (omega (arith, lt))
short_read (Byte f) opcode [] lt = (2, refl)
short_read (Byte f) opcode (b ∷ rest) lt = absurd (omega (arith, lt))
short_read (Word f) opcode [] lt = (3, refl)
short_read (Word f) opcode (b ∷ []) lt = (3, refl)
short_read (Word f) opcode (b ∷ (c ∷ rest)) lt = absurd (omega (arith, lt))

none_listed : lines_of [] ≡ []
unfolding lines_from
none_listed = refl

undefined_read : (b : ℕ) (rest : List ℕ) → row b ≡ Undefined
    → first_instruction (b ∷ rest) ≡ Err fault.Undefined
undefined_read b rest e = rw e refl

listed : (lines : List Shown) (bytes : List ℕ) → Lists bytes lines → lines ≡ lines_of bytes
listed [] bytes e = sym (ap lines_of e ∙ none_listed)
listed (Instruction i ∷ lines) bytes (code, rest, is, encodes, more) =
    let goes = instruction_line i (length code) (code ++ rest) (encoded_read i code rest encodes) in
    ap (λ ls. Instruction i ∷ ls) (listed lines rest more ∙ ap lines_of (sym (drop-append_seam code rest)))
    ∙ sym goes ∙ ap lines_of (sym is)
listed (Datum b ∷ lines) bytes (rest, is, inl (undefined, more)) =
    ap (λ ls. Datum b ∷ ls) (listed lines rest more)
    ∙ sym (undefined_line b rest (undefined_read b rest undefined)) ∙ ap lines_of (sym is)
listed (Datum b ∷ lines) bytes (rest, is, inr (cut, others)) =
    let s = short_read (row b) b rest (subst IsCutOff is cut) in
    ap (λ ls. Datum b ∷ ls) others ∙ sym (cut_off_line s.0 b rest s.1) ∙ ap lines_of (sym is)

-- ---- and those that are read are lines of the bytes

undefined_row : (w : Row) (rest : List ℕ) → read_row w rest ≡ Err fault.Undefined → w ≡ Undefined
undefined_row Undefined rest e = refl
undefined_row (Alone i) rest e = absurd cc
undefined_row (Byte f) [] e = absurd cc
undefined_row (Byte f) (b ∷ rest) e = absurd cc
undefined_row (Word f) [] e = absurd cc
undefined_row (Word f) (b ∷ []) e = absurd cc
undefined_row (Word f) (b ∷ (c ∷ rest)) e = absurd cc

pub short_row : (w : Row) (n opcode : ℕ) (rest : List ℕ) → read_row w rest ≡ Err (fault.Short n)
    → length (opcode ∷ rest) < length_in w
short_row Undefined n opcode rest e = absurd cc
short_row (Alone i) n opcode rest e = absurd cc
short_row (Byte f) n opcode [] e = omega arith
short_row (Byte f) n opcode (b ∷ rest) e = absurd cc
short_row (Word f) n opcode [] e = omega arith
short_row (Word f) n opcode (b ∷ []) e = omega arith
short_row (Word f) n opcode (b ∷ (c ∷ rest)) e = absurd cc

pub encodes_front : (i : Instr) (n : ℕ) (bytes : List ℕ) → first_instruction bytes ≡ Ok (i, n)
    → Encodes i (take n bytes)
encodes_front i n bytes e =
    subst (λ (r : Result (Instr × ℕ) DecodeFault). IfOk r (λ p. Encodes p.0 (take p.1 bytes))) e
    (read_found bytes)

abbrev Listed : ℕ → Type 0
Listed k = (bytes : List ℕ) → length bytes ≤ k → Lists bytes (lines_of bytes)

lists_by : (r : Result (Instr × ℕ) DecodeFault) (k b : ℕ) (bytes : List ℕ) → Listed k → length bytes ≤ k
    → first_instruction (b ∷ bytes) ≡ r → Lists (b ∷ bytes) (lines_of (b ∷ bytes))
lists_by (Ok (i, n)) k b bytes more le e =
    let w = read_within i n (b ∷ bytes) e in
    let some : 0 < n = w.some in
    let shorter : length (drop n (b ∷ bytes)) ≤ k =
    rw (length-drop n (b ∷ bytes)) (omega (arith, le, some)) in
    subst (Lists (b ∷ bytes)) (sym (instruction_line i n (b ∷ bytes) e)) (
      take n (b ∷ bytes),
      drop n (b ∷ bytes),
      sym (take-append-drop n (b ∷ bytes)),
      encodes_front i n (b ∷ bytes) e,
      more (drop n (b ∷ bytes)) shorter,
    )
lists_by (Err fault.Undefined) k b bytes more le e =
    subst (Lists (b ∷ bytes)) (sym (undefined_line b bytes e))
    (bytes, refl, inl (undefined_row (row b) bytes e, more bytes le))
lists_by (Err (fault.Short n)) k b bytes more le e =
    subst (Lists (b ∷ bytes)) (sym (cut_off_line n b bytes e))
    (bytes, refl, inr (short_row (row b) n b bytes e, refl))

lists : (k : ℕ) → Listed k
lists k [] le = subst (Lists []) (sym none_listed) refl
lists zero (b ∷ bytes) le = absurd (omega (arith, le))
lists (suc k) (b ∷ bytes) le =
    lists_by (first_instruction (b ∷ bytes)) k b bytes (lists k) (omega (arith, le)) refl

pub listed_lines : (bytes : List ℕ) → Lists bytes (lines_of bytes)
listed_lines bytes = lists (length bytes) bytes (omega arith)

pub lines_are : (bytes : List ℕ) (lines : List Shown) → Lists bytes lines ↔ (lines ≡ lines_of bytes)
lines_are bytes lines = (listed lines bytes, λ e. subst (Lists bytes) (sym e) (listed_lines bytes))
