-- Each instruction's line: what it says, and the bytes that it gives.
use Rattle.std.proofs.Common.{◌≡◌, ℕ, ◌+◌, ◌/◌, ◌%◌, ◌<◌, ◌⊎◌, inl, inr, List, [], ◌∷◌, ◌++◌, length}
use Rattle.std.proofs.Common.{Option, Some, Ok, refl, arith}
use Rattle.std.specs.Prelude.{codes}
use Rattle.std.proofs.lemmas.Bool.{lt-ltb}
use Rattle.i80_base.specs.declared.instruction.Instr.{Instr}
use Rattle.i80_base.specs.declared.instruction.Instr.TheVariants as instr
use Rattle.i80_base.specs.declared.instruction.Pair.{Pair}
use Rattle.i80_base.specs.declared.instruction.Reg.{Reg}
use Rattle.i80_base.specs.declared.instruction.Reg.TheVariants as reg
use Rattle.i80_base.specs.declared.instruction.Register.{Register}
use Rattle.i80_base.specs.declared.instruction.Vector.{Vector}
use Rattle.i80_base.specs.Codes.{reg_of, vector_code}
use Rattle.i80_rows.specs.Encoding.{encoding_of}
use Rattle.i80_rows.proofs.Each.{each_register, each_vector}
use Rattle.asm_syntax.specs.declared.keyword.Keyword.{Keyword as Word}
use Rattle.asm_syntax.specs.declared.keyword.Keyword.TheVariants as keyword
use Rattle.asm_syntax.specs.declared.keyword.RegisterWord.{RegisterWord}
use Rattle.asm_syntax.specs.declared.keyword.Mnemonic.{Mnemonic}
use Rattle.asm_syntax.specs.declared.keyword.Mnemonic.TheVariants as mnemonic
use Rattle.asm_syntax.specs.declared.keyword.Directive.TheVariants as directive
use Rattle.asm_syntax.specs.declared.keyword.RegisterOperation.TheVariants as register_op
use Rattle.asm_syntax.specs.declared.keyword.PairOperation.TheVariants as pair_op
use Rattle.asm_syntax.specs.declared.keyword.IndexOperation.TheVariants as index_op
use Rattle.asm_syntax.specs.declared.keyword.StackOperation.TheVariants as stack_op
use Rattle.i80_base.specs.declared.instruction.ByteOperation.{ByteOperation}
use Rattle.i80_base.specs.declared.instruction.ByteOperation.TheVariants as byte_op
use Rattle.i80_base.specs.declared.instruction.WordOperation.{WordOperation}
use Rattle.i80_base.specs.declared.instruction.WordOperation.TheVariants as word_op
use Rattle.asm_syntax.specs.declared.statement.Instruction as statement
use Rattle.asm_syntax.specs.declared.statement.Instruction.TheVariants as instruction
use Rattle.asm_syntax.specs.declared.statement.Data.{Data}
use Rattle.asm_syntax.specs.declared.statement.Data.TheVariants as datum
use Rattle.asm_syntax.specs.declared.statement.Action.{Action}
use Rattle.asm_syntax.specs.declared.statement.Action.TheVariants as action
use Rattle.i80_base.specs.Instructions.{byte_instruction, word_instruction}
use Rattle.asm_syntax.specs.Lexemes.{Lexeme, Keyword, Number, Sign}
use Rattle.asm_syntax.specs.Words.{keyword_of}
use Rattle.asm_text.specs.Forms.{register_instruction, pair_instruction, index_instruction, stack_instruction}
use Rattle.asm_text.specs.Forms.{move_between}
use Rattle.asm_text.specs.Registers as word
use Rattle.i80_dis.specs.declared.line.Shown.TheVariants.{Instruction, Datum}
use Rattle.asm_syntax.specs.Numerals.{byte_text, word_text}
use Rattle.i80_dis.specs.Text.{register_word, pair_word, index_word, stack_word}
use Rattle.i80_dis.specs.Text.{vector_word, condition_word, operation_word, immediate_word, rotation_word}
use Rattle.i80_dis.specs.Text.{operand_field, text_of}
use Rattle.i80_listings_laws.specs.Bytes.{AreBytes}
use Rattle.i80_listings_laws.proofs.Printed.{vector_numeral, IsShort, IsPrinted, word_printed, number_printed}
use Rattle.i80_listings_laws.proofs.Printed.{byte_printed, address_printed, weaker, behind, behind_two}
use Rattle.i80_listings_laws.proofs.Printed.{none_read, one_read, two_read, none_short, one_short, two_short}
use Rattle.i80_listings_laws.proofs.PlainLines.{register_for, pair_for, index_for, stack_for, register_back}
use Rattle.i80_listings_laws.proofs.PlainLines.{pair_back, number_at, Says, Spelled, NameSays, alone_says}
use Rattle.i80_listings_laws.proofs.PlainLines.{register_says, pair_says, index_says, stack_says, byte_says}
use Rattle.i80_listings_laws.proofs.PlainLines.{word_says, restart_says, move_says, immediate_says, load_says}
use Rattle.i80_listings_laws.proofs.PlainLines.{datum_says}
use Rattle.i80_listings_laws.proofs.Words.{IsNamed, Means, register_named, pair_named, index_named}
use Rattle.i80_listings_laws.proofs.Words.{stack_named, operation_means, immediate_means, rotation_means}
use Rattle.i80_listings_laws.proofs.Words.{jump_means, call_means, return_means}
use Rattle.asm_encode.specs.Bytes.{bytes_of}
use Rattle.asm_encode.specs.Lengths.{length_of}
use Rattle.asm_encode.specs.Values.{vector}

-- ---- lines that give bytes

-- an action that gives bytes: an instruction, or the operands of DB
abbrev pub Giving : Type 0
Giving = statement.Instruction ⊎ List Data

abbrev pub action_by : Giving → Action
action_by (inl i) = action.Instruction i
action_by (inr ds) = action.Bytes ds

-- a line says this action, and is short
pub record IsSaid (line : List ℕ) (a : Action) : Type 0 where
  pub says : Says line a
  pub short : IsShort line

-- it says an action that gives these bytes, whatever names stand for
pub record IsLine (line bytes : List ℕ) : Type 0 where
  pub acts : Giving
  pub said : IsSaid line (action_by acts)
  pub gives : (names : List ℕ → Option ℕ) (here : ℕ) → bytes_of names here (action_by acts) ≡ Ok bytes
  pub long : (value : ℕ) → length_of (action_by acts) value ≡ length bytes

-- ---- no operand

alone_line : (i : Instr) (w : List ℕ) → Means w (mnemonic.Alone i) → 1 ≡ length (encoding_of i)
    → IsLine (w ++ operand_field []) (encoding_of i)
alone_line i w named long =
    let k = Keyword (keyword.Mnemonic (mnemonic.Alone i)) in
    let p = word_printed (keyword.Mnemonic (mnemonic.Alone i)) w 4 named in
    record {
      acts = inl (instruction.Alone i);
      said = record {
        says = alone_says (w ++ operand_field []) i (none_read k w 4 p);
        short = none_short k w p;
      };
      gives = λ names here. refl;
      long = λ value. long;
    }

-- ---- one operand

-- A word with one operand, which together say an action.
pub one_said : (k : Word) (o : Lexeme) (w text : List ℕ) (a : Action) → IsNamed w k 4 → IsPrinted o text 6
    → (Spelled (w ++ operand_field (text ∷ [])) ((1, Keyword k) ∷ (behind w, o) ∷ [])
    → Says (w ++ operand_field (text ∷ [])) a)
    → IsSaid (w ++ operand_field (text ∷ [])) a
one_said k o w text a named printed says =
    let p = word_printed k w 4 named in
    record {
      says = says (one_read (Keyword k) o w text 4 6 p printed);
      short = one_short (Keyword k) o w text p printed;
    }

-- the same of an action that gives these bytes
one_line : (k : Word) (o : Lexeme) (w text bytes : List ℕ) (acts : Giving) → IsNamed w k 4
    → IsPrinted o text 6
    → (Spelled (w ++ operand_field (text ∷ [])) ((1, Keyword k) ∷ (behind w, o) ∷ [])
    → Says (w ++ operand_field (text ∷ [])) (action_by acts))
    → ((names : List ℕ → Option ℕ) (here : ℕ) → bytes_of names here (action_by acts) ≡ Ok bytes)
    → ((value : ℕ) → length_of (action_by acts) value ≡ length bytes)
    → IsLine (w ++ operand_field (text ∷ [])) bytes
one_line k o w text bytes acts named printed says gives long = record {
  acts = acts;
  said = one_said k o w text (action_by acts) named printed says;
  gives = gives;
  long = long;
}

-- lines of a mnemonic and the word of a register or pair, for each operation and each register
abbrev NameLine : {Op R : Type 0} → (Op → Mnemonic) → (R → List ℕ) → (Op → R → Instr) → Type 0
NameLine {Op} {R} mnemonic_of text_for makes =
    (op : Op) (r : R) (w : List ℕ) → Means w (mnemonic_of op) → 1 ≡ length (encoding_of (makes op r))
    → IsLine (w ++ operand_field (text_for r ∷ [])) (encoding_of (makes op r))

name_line : {Op R : Type 0} (mnemonic_of : Op → Mnemonic) (word_for : R → RegisterWord)
    (text_for : R → List ℕ) (makes : Op → R → Instr)
    → ((r : R) → IsNamed (text_for r) (keyword.Register (word_for r)) 3)
    → NameSays mnemonic_of word_for makes → NameLine mnemonic_of text_for makes
name_line mnemonic_of word_for text_for makes named says op r w means long =
    let k = keyword.Register (word_for r) in
    one_line (keyword.Mnemonic (mnemonic_of op)) (Keyword k) w (text_for r) (encoding_of (makes op r))
    (inl (instruction.Alone (makes op r))) means
    (weaker (Keyword k) (text_for r) 3 6 (word_printed k (text_for r) 3 (named r)) (omega arith))
    (says _ op (behind w) r) (λ names here. refl) (λ value. long)

register_line : NameLine mnemonic.Register register_word register_instruction
register_line =
    name_line mnemonic.Register register_for register_word register_instruction register_named register_says

pair_line : NameLine mnemonic.Pair pair_word pair_instruction
pair_line = name_line mnemonic.Pair pair_for pair_word pair_instruction pair_named pair_says

index_line : NameLine mnemonic.Index index_word index_instruction
index_line = name_line mnemonic.Index index_for index_word index_instruction index_named index_says

stack_line : NameLine mnemonic.Stack stack_word stack_instruction
stack_line = name_line mnemonic.Stack stack_for stack_word stack_instruction stack_named stack_says

low_byte : (b : ℕ) → b < 256 → b % 256 ≡ b
low_byte b lt = omega (arith, lt)

byte_line : (op : ByteOperation) (b : ℕ) (w : List ℕ) → Means w (mnemonic.Byte op) → b < 256
    → 2 ≡ length (encoding_of (byte_instruction op b))
    → IsLine (w ++ operand_field (byte_text b ∷ [])) (encoding_of (byte_instruction op b))
byte_line op b w named lt long =
    one_line (keyword.Mnemonic (mnemonic.Byte op)) (Number b) w (byte_text b)
    (encoding_of (byte_instruction op b))
    (inl (instruction.Byte op (number_at (behind w) b))) named (byte_printed b lt)
    (byte_says op _ (behind w) b) (λ names here. rw (lt-ltb b 256 lt, low_byte b lt) refl) (λ value. long)

word_line : (op : WordOperation) (n : ℕ) (w : List ℕ) → Means w (mnemonic.Word op) → n < 65536
    → 3 ≡ length (encoding_of (word_instruction op n))
    → IsLine (w ++ operand_field (word_text n ∷ [])) (encoding_of (word_instruction op n))
word_line op n w named lt long =
    one_line (keyword.Mnemonic (mnemonic.Word op)) (Number n) w (word_text n)
    (encoding_of (word_instruction op n))
    (inl (instruction.Word op (number_at (behind w) n))) named (address_printed n lt)
    (word_says op _ (behind w) n) (λ names here. refl) (λ value. long)

vector_back : (n : Vector) → vector (vector_code n) ≡ Some n
vector_back = each_vector _ refl refl refl refl refl refl refl refl

vector_length : (n : Vector) → length (vector_word n) ≡ 1
vector_length = each_vector _ refl refl refl refl refl refl refl refl

restart_line : (n : Vector) (w : List ℕ) → Means w mnemonic.Restart → 1 ≡ length (encoding_of (instr.Rst n))
    → IsLine (w ++ operand_field (vector_word n ∷ [])) (encoding_of (instr.Rst n))
restart_line n w named long =
    one_line (keyword.Mnemonic mnemonic.Restart) (Number (vector_code n)) w (vector_word n)
    (encoding_of (instr.Rst n))
    (inl (instruction.Restart (number_at (behind w) (vector_code n)))) named
    (number_printed (vector_code n) (vector_word n) 6 (vector_numeral n) (omega (arith, vector_length n)))
    (restart_says _ (behind w) (vector_code n)) (λ names here. rw (vector_back n) refl) (λ value. long)

-- ---- two operands

-- A mnemonic with two operands, which together say what gives these bytes.
two_line : (m a : Word) (o : Lexeme) (w first second bytes : List ℕ) (acts : Giving)
    → IsNamed w m 3 → IsNamed first a 3 → IsPrinted o second 6
    → (Spelled (w ++ operand_field (first ∷ second ∷ []))
    ((1, Keyword m) ∷ (behind w, Keyword a) ∷ (behind w + length first, Sign 44) ∷ (behind_two w first, o)
    ∷ [])
    → Says (w ++ operand_field (first ∷ second ∷ [])) (action_by acts))
    → ((names : List ℕ → Option ℕ) (here : ℕ) → bytes_of names here (action_by acts) ≡ Ok bytes)
    → ((value : ℕ) → length_of (action_by acts) value ≡ length bytes)
    → IsLine (w ++ operand_field (first ∷ second ∷ [])) bytes
two_line m a o w first second bytes acts named is printed says gives long =
    let p = word_printed m w 3 named in
    let q = word_printed a first 3 is in
    record {
      acts = acts;
      said = record {
        says = says (two_read (Keyword m) (Keyword a) o w first second 3 3 6 p q printed);
        short = two_short (Keyword m) (Keyword a) o w first second p q printed;
      };
      gives = gives;
      long = long;
    }

move_line : (r s : Reg) (i : Instr) (w : List ℕ) → IsNamed w (keyword.Mnemonic mnemonic.Move) 3
    → move_between (word.register_of r) (word.register_of s) ≡ Some i → 1 ≡ length (encoding_of i)
    → IsLine (w ++ operand_field (register_word r ∷ register_word s ∷ [])) (encoding_of i)
move_line r s i w named is long =
    let b = keyword.Register (register_for s) in
    two_line (keyword.Mnemonic mnemonic.Move) (keyword.Register (register_for r)) (Keyword b) w
    (register_word r) (register_word s)
    (encoding_of i) (inl (instruction.Alone i)) named (register_named r)
    (weaker (Keyword b) (register_word s) 3 6 (word_printed b (register_word s) 3 (register_named s))
    (omega arith))
    (move_says _ (behind w) (behind w + length (register_word r)) (behind_two w (register_word r))
    (register_for r) (register_for s) r s i
    (register_back r) (register_back s) is)
    (λ names here. refl) (λ value. long)

immediate_line : (r : Reg) (b : ℕ) (w : List ℕ) → IsNamed w (keyword.Mnemonic mnemonic.MoveImmediate) 3
    → b < 256
    → 2 ≡ length (encoding_of (instr.Mvi r b))
    → IsLine (w ++ operand_field (register_word r ∷ byte_text b ∷ [])) (encoding_of (instr.Mvi r b))
immediate_line r b w named lt long =
    two_line (keyword.Mnemonic mnemonic.MoveImmediate) (keyword.Register (register_for r)) (Number b) w
    (register_word r) (byte_text b)
    (encoding_of (instr.Mvi r b))
    (inl (instruction.Byte (byte_op.Mvi r) (number_at (behind_two w (register_word r)) b))) named
    (register_named r)
    (byte_printed b lt)
    (immediate_says _ (behind w) (behind w + length (register_word r)) (behind_two w (register_word r)) b
    (register_for r) r (register_back r))
    (λ names here. rw (lt-ltb b 256 lt, low_byte b lt) refl) (λ value. long)

load_line : (r : Pair) (n : ℕ) (w : List ℕ) → IsNamed w (keyword.Mnemonic mnemonic.LoadPair) 3 → n < 65536
    → 3 ≡ length (encoding_of (instr.Lxi r n))
    → IsLine (w ++ operand_field (pair_word r ∷ word_text n ∷ [])) (encoding_of (instr.Lxi r n))
load_line r n w named lt long =
    two_line (keyword.Mnemonic mnemonic.LoadPair) (keyword.Register (pair_for r)) (Number n) w (pair_word r)
    (word_text n)
    (encoding_of (instr.Lxi r n))
    (inl (instruction.Word (word_op.Lxi r) (number_at (behind_two w (pair_word r)) n))) named (pair_named r)
    (address_printed n lt)
    (load_says _ (behind w) (behind w + length (pair_word r)) (behind_two w (pair_word r)) n (pair_for r) r
    (pair_back r))
    (λ names here. refl) (λ value. long)

-- ---- each instruction

as_register : (r : Register) → word.register_of (reg_of r) ≡ Some r
as_register = each_register _ refl refl refl refl refl refl refl

moves : (r s : Register)
    → move_between (word.register_of (reg_of r)) (word.register_of (reg_of s)) ≡ Some (instr.Mov r s)
moves r s = rw (as_register r, as_register s) refl

moves_from : (r : Register)
    → move_between (word.register_of (reg_of r)) (word.register_of reg.M) ≡ Some (instr.MovFromM r)
moves_from r = rw (as_register r) refl

moves_to : (s : Register)
    → move_between (word.register_of reg.M) (word.register_of (reg_of s)) ≡ Some (instr.MovToM s)
moves_to s = rw (as_register s) refl

word_below : (n : ℕ) → n / 256 < 256 → n < 65536
word_below n lt = omega (arith, lt)

pub instruction_is : (i : Instr) → AreBytes (encoding_of i) → IsLine (text_of (Instruction i)) (encoding_of i)
unfolding encoding_of keyword_of
instruction_is instr.Nop h = alone_line instr.Nop (codes "NOP") refl refl
instruction_is instr.Daa h = alone_line instr.Daa (codes "DAA") refl refl
instruction_is instr.Cma h = alone_line instr.Cma (codes "CMA") refl refl
instruction_is instr.Stc h = alone_line instr.Stc (codes "STC") refl refl
instruction_is instr.Cmc h = alone_line instr.Cmc (codes "CMC") refl refl
instruction_is instr.Hlt h = alone_line instr.Hlt (codes "HLT") refl refl
instruction_is instr.Ret h = alone_line instr.Ret (codes "RET") refl refl
instruction_is instr.Xthl h = alone_line instr.Xthl (codes "XTHL") refl refl
instruction_is instr.Xchg h = alone_line instr.Xchg (codes "XCHG") refl refl
instruction_is instr.Pchl h = alone_line instr.Pchl (codes "PCHL") refl refl
instruction_is instr.Sphl h = alone_line instr.Sphl (codes "SPHL") refl refl
instruction_is instr.Di h = alone_line instr.Di (codes "DI") refl refl
instruction_is instr.Ei h = alone_line instr.Ei (codes "EI") refl refl
instruction_is (instr.Rotate o) h = alone_line (instr.Rotate o) (rotation_word o) (rotation_means o) refl
instruction_is (instr.RetIf c) h =
    alone_line (instr.RetIf c) (codes "R" ++ condition_word c) (return_means c) refl
instruction_is (instr.Lxi p n) h = load_line p n (codes "LXI") refl (word_below n h.1.1.0) refl
instruction_is (instr.Mvi r b) h = immediate_line r b (codes "MVI") refl h.1.0 refl
instruction_is (instr.Mov r s) h =
    move_line (reg_of r) (reg_of s) (instr.Mov r s) (codes "MOV") refl (moves r s) refl
instruction_is (instr.MovFromM r) h =
    move_line (reg_of r) reg.M (instr.MovFromM r) (codes "MOV") refl (moves_from r) refl
instruction_is (instr.MovToM s) h =
    move_line reg.M (reg_of s) (instr.MovToM s) (codes "MOV") refl (moves_to s) refl
instruction_is (instr.Stax p) h = index_line index_op.Store p (codes "STAX") refl refl
instruction_is (instr.Ldax p) h = index_line index_op.Load p (codes "LDAX") refl refl
instruction_is (instr.Inx p) h = pair_line pair_op.Increment p (codes "INX") refl refl
instruction_is (instr.Dcx p) h = pair_line pair_op.Decrement p (codes "DCX") refl refl
instruction_is (instr.Dad p) h = pair_line pair_op.Add p (codes "DAD") refl refl
instruction_is (instr.Push p) h = stack_line stack_op.Push p (codes "PUSH") refl refl
instruction_is (instr.Pop p) h = stack_line stack_op.Pop p (codes "POP") refl refl
instruction_is (instr.Inr r) h = register_line register_op.Increment r (codes "INR") refl refl
instruction_is (instr.Dcr r) h = register_line register_op.Decrement r (codes "DCR") refl refl
instruction_is (instr.Alu o r) h =
    register_line (register_op.Alu o) r (operation_word o) (operation_means o) refl
instruction_is (instr.AluImmediate o b) h =
    byte_line (byte_op.AluImmediate o) b (immediate_word o) (immediate_means o) h.1.0 refl
instruction_is (instr.Out b) h = byte_line byte_op.Out b (codes "OUT") refl h.1.0 refl
instruction_is (instr.In b) h = byte_line byte_op.In b (codes "IN") refl h.1.0 refl
instruction_is (instr.Shld n) h = word_line word_op.Shld n (codes "SHLD") refl (word_below n h.1.1.0) refl
instruction_is (instr.Lhld n) h = word_line word_op.Lhld n (codes "LHLD") refl (word_below n h.1.1.0) refl
instruction_is (instr.Sta n) h = word_line word_op.Sta n (codes "STA") refl (word_below n h.1.1.0) refl
instruction_is (instr.Lda n) h = word_line word_op.Lda n (codes "LDA") refl (word_below n h.1.1.0) refl
instruction_is (instr.Jmp n) h = word_line word_op.Jmp n (codes "JMP") refl (word_below n h.1.1.0) refl
instruction_is (instr.Call n) h = word_line word_op.Call n (codes "CALL") refl (word_below n h.1.1.0) refl
instruction_is (instr.JumpIf c n) h =
    word_line (word_op.JumpIf c) n (codes "J" ++ condition_word c) (jump_means c) (word_below n h.1.1.0) refl
instruction_is (instr.CallIf c n) h =
    word_line (word_op.CallIf c) n (codes "C" ++ condition_word c) (call_means c) (word_below n h.1.1.0) refl
instruction_is (instr.Rst n) h = restart_line n (codes "RST") refl refl

-- ---- a byte by itself

pub datum_is : (b : ℕ) → b < 256 → IsLine (text_of (Datum b)) (b ∷ [])
unfolding keyword_of
datum_is b lt =
    let w = codes "DB" in
    one_line (keyword.Directive directive.Bytes) (Number b) w (byte_text b) (b ∷ [])
    (inr (datum.Byte (number_at (behind w) b) ∷ [])) refl (byte_printed b lt) (datum_says _ (behind w) b)
    (λ names here. rw (lt-ltb b 256 lt, low_byte b lt) refl) (λ value. refl)
