-- The text of an instruction of three bytes ends with its operand, which a label may name.
use Rattle.std.proofs.Common.{◌≡◌, ◌∙◌, ◌<◌, ◌==◌, ℕ, suc, ◌+◌, ◌-◌, ◌*◌, List, [], ◌∷◌, ◌++◌, length, take}
use Rattle.std.proofs.Common.{Bool, true, false, cond, Option, Some, None, refl, sym, ap, inl, inr, arith}
use Rattle.std.proofs.Common.{append_assoc}
use Rattle.std.specs.Prelude.{◌≢◌, codes, option_map, Contains}
use Rattle.std.specs.List.{find}
use Rattle.std.proofs.Math.Seq.{take-append_seam}
use Rattle.std.proofs.lemmas.Bool.{and_parts, cases_lt, eqb-true}
use Rattle.std.proofs.lemmas.List.{get_or_past, length-append}
use Rattle.base_text.specs.Bytes.{Bytes, Text}
use Rattle.i80_base.specs.declared.instruction.Instr.{Instr}
use Rattle.i80_base.specs.declared.instruction.Instr.TheVariants.{Lxi, Shld, Lhld, Sta, Lda, Jmp, JumpIf}
use Rattle.i80_base.specs.declared.instruction.Instr.TheVariants.{Call}
use Rattle.i80_base.specs.declared.instruction.Instr.TheVariants.{CallIf}
use Rattle.i80_base.specs.declared.instruction.Pair.{Pair}
use Rattle.i80_base.specs.Rows.{Row, Undefined, Alone, Byte, Word, row, rows, read_row}
use Rattle.i80_base.proofs.Tables.{agree}
use Rattle.asm_syntax.specs.Numerals.{word_text}
use Rattle.asm_build.specs.declared.symbols.Symbol.{Symbol}
use Rattle.asm_build.specs.declared.symbols.SymbolKind.{SymbolKind}
use Rattle.asm_build.specs.declared.symbols.SymbolKind.TheVariants.{Label}
use Rattle.asm_build.specs.Reading.{Entries}
use Rattle.i80_dis.specs.declared.line.Shown.TheVariants.{Instruction}
use Rattle.i80_dis.specs.Shown.{first_shown, shown_by}
use Rattle.i80_dis.specs.Text.{text_of, mnemonic, pair_word}
use Rattle.lab_shown.specs.declared.shown.CodeLine.{CodeLine}
use Rattle.lab_views.specs.Code.{bytes_at, line_at}
use Rattle.lab_views.specs.Frames.{is_label, labels}
use Rattle.lab_core.specs.Board.{Board}
use Rattle.dap_disassembly.specs.Disassembly.{EndsWith, NamesOperand, label_text, with_label, operand_of}
use Rattle.dap_disassembly.specs.Disassembly.{with_name}

-- ---- instructions with a word

-- the word of an instruction that has one
abbrev word_of : Instr → Option ℕ
word_of (Lxi p w) = Some w
word_of (Shld w) = Some w
word_of (Lhld w) = Some w
word_of (Sta w) = Some w
word_of (Lda w) = Some w
word_of (Jmp w) = Some w
word_of (JumpIf c w) = Some w
word_of (Call w) = Some w
word_of (CallIf c w) = Some w
word_of _ = None

-- an instruction of a row has this word, if the row is one with a word
abbrev word_in : ℕ → Row → Option ℕ
word_in n (Word f) = word_of (f n)
word_in n _ = Some n

word_fits : (opcode n : ℕ) → word_in n (row opcode) ≡ Some n
unfolding row
word_fits opcode n = elim (cases_lt opcode 256) [
  | inl low ↦ agree (λ k. word_in n (row k)) (λ k. Some n) 256 refl opcode low
  | inr past ↦ rw (get_or_past rows opcode Undefined past) refl
]

-- ---- their texts

-- a mnemonic with an operand
alone : (i : Instr) (word : ℕ) → EndsWith (Some word) (mnemonic i ++ (codes " " ++ word_text word))
alone i word = (mnemonic i ++ codes " ", sym (append_assoc (mnemonic i) (codes " ") (word_text word)))

loaded : (p : Pair) (word : ℕ) → EndsWith (Some word) (text_of (Instruction (Lxi p word)))
loaded p word = (
  codes "LXI " ++ pair_word p ++ codes ",",
  sym (append_assoc (codes "LXI " ++ pair_word p) (codes ",")
      (word_text word)),
)

same_word : (v w : ℕ) (text : Text) → ◌≡◌ {A = Option ℕ} (Some v) (Some w) → EndsWith (Some v) text
    → EndsWith (Some w) text
same_word v w text e ends = let same : v ≡ w = cc in rw (← same) ends

word_last : (i : Instr) (word : ℕ) → word_of i ≡ Some word
    → EndsWith (Some word) (text_of (Instruction i))
word_last (Lxi p w) word e = same_word w word _ e (loaded p w)
word_last (Shld w) word e = same_word w word _ e (alone (Shld w) w)
word_last (Lhld w) word e = same_word w word _ e (alone (Lhld w) w)
word_last (Sta w) word e = same_word w word _ e (alone (Sta w) w)
word_last (Lda w) word e = same_word w word _ e (alone (Lda w) w)
word_last (Jmp w) word e = same_word w word _ e (alone (Jmp w) w)
word_last (JumpIf c w) word e = same_word w word _ e (alone (JumpIf c w) w)
word_last (Call w) word e = same_word w word _ e (alone (Call w) w)
word_last (CallIf c w) word e = same_word w word _ e (alone (CallIf c w) w)
word_last _ word e = absurd cc

-- ---- the first line of bytes

row_line : (w : Row) (opcode : ℕ) (rest : Bytes) → ((n : ℕ) → word_in n w ≡ Some n)
    → EndsWith (operand_of (take (shown_by opcode (read_row w rest)).1 (opcode ∷ rest)))
    (text_of (shown_by opcode (read_row w rest)).0)
row_line Undefined opcode rest fits = tt
row_line (Alone i) opcode rest fits = tt
row_line (Byte f) opcode [] fits = tt
row_line (Byte f) opcode (b ∷ rest) fits = tt
row_line (Word f) opcode [] fits = tt
row_line (Word f) opcode (low ∷ []) fits = tt
row_line (Word f) opcode (low ∷ (high ∷ rest)) fits =
    let word = low + 256 * high in
    word_last (f word) word (fits word)

pub ends_with_operand : (bytes : Bytes)
    → EndsWith (operand_of (take (first_shown bytes).1 bytes)) (text_of (first_shown bytes).0)
ends_with_operand [] = tt
ends_with_operand (opcode ∷ rest) = row_line (row opcode) opcode rest (word_fits opcode)

-- ---- the name of an operand

pub front_of : (text front : Text) (word : ℕ) → text ≡ front ++ word_text word
    → take (length text - length (word_text word)) text ≡ front
front_of text front word e =
    let long : length text ≡ length front + length (word_text word) =
    ap (λ (t : Text). length t) e ∙ length-append front (word_text word) in
    let many : length text - length (word_text word) ≡ length front = omega (arith, long) in
    rw (many, e) (take-append_seam front (word_text word))

-- what is found is in the list, and passes
record IsFound {X : Type 0} (p : X → Bool) (xs : List X) (x : X) : Type 0 where
  there : Contains xs x
  passes : p x ≡ true

found_next : {X : Type 0} (p : X → Bool) (xs : List X) (y x : X) (here : Bool) → p y ≡ here
    → (find p xs ≡ Some x → IsFound p xs x) → cond here (Some y) (find p xs) ≡ Some x
    → IsFound p (y ∷ xs) x
found_next p xs y x true is later e =
    let same : y ≡ x = cc in
    record { there = (0, omega arith, same); passes = rw (← same) is }
found_next p xs y x false is later e =
    let found = later e in
    let k = found.there.0 in
    let within : k < length xs = found.there.1 in
    record { there = (suc k, omega (arith, within), found.there.2); passes = found.passes }

found : {X : Type 0} (p : X → Bool) (xs : List X) (x : X) → find p xs ≡ Some x → IsFound p xs x
found p [] x e = absurd cc
found p (y ∷ xs) x e = found_next p xs y x (p y) refl (found p xs x) e

label_kind : (kind : SymbolKind) → is_label kind ≡ true → kind ≡ Label
label_kind Label e = refl
label_kind _ e = absurd cc

named : (symbols : Entries) (line : CodeLine) (word : ℕ) (entry : Option (List ℕ × Symbol))
    → operand_of line.bytes ≡ Some word → EndsWith (Some word) line.text
    → find (labels word) symbols ≡ entry
    → with_name line.text word (option_map (λ e. e.0) entry) ≢ line.text
    → NamesOperand symbols line (with_name line.text word (option_map (λ e. e.0) entry))
named symbols line word None operand ends is other = absurd (other refl)
named symbols line word (Some e) operand (front, plain) is other =
    let entry = found (labels word) symbols e is in
    let parts = and_parts (is_label e.1.kind) (e.1.value == word) entry.passes in
    let value : e.1.value ≡ word = eqb-true e.1.value word parts.1 in
    record {
      front = front;
      name = e.0;
      label = e.1;
      plain = rw value plain;
      named = ap (λ (t : Text). t ++ e.0) (front_of line.text front word plain);
      operand = rw value operand;
      defined = entry.there;
      kind = label_kind e.1.kind parts.0;
    }

names : (symbols : Entries) (line : CodeLine) (operand : Option ℕ) → operand_of line.bytes ≡ operand
    → EndsWith operand line.text → with_label symbols operand line.text ≢ line.text
    → NamesOperand symbols line (with_label symbols operand line.text)
names symbols line None is ends other = absurd (other refl)
names symbols line (Some word) is ends other =
    named symbols line word (find (labels word) symbols) is ends refl other

pub names_operand : (b : Board) (address : ℕ) (line : CodeLine) → line_at b.machine address ≡ line
    → label_text b.symbols line ≢ line.text → NamesOperand b.symbols line (label_text b.symbols line)
names_operand b address line is other =
    let ends : EndsWith (operand_of line.bytes) line.text =
    rw (← is) (ends_with_operand (bytes_at b.machine address)) in
    names b.symbols line (operand_of line.bytes) refl ends other
