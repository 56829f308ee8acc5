-- What a line says that is a word and plain operands: words of registers, and numbers.
use Rattle.std.proofs.Common.{◌≡◌, ℕ, List, [], ◌∷◌, Some, None, Ok, refl}
use Rattle.asm_expr.specs.Tree as tree
use Rattle.i80_base.specs.declared.instruction.Instr.{Instr}
use Rattle.i80_base.specs.declared.instruction.IndexPair.{IndexPair}
use Rattle.i80_base.specs.declared.instruction.IndexPair.TheVariants as index
use Rattle.i80_base.specs.declared.instruction.Reg.{Reg}
use Rattle.i80_base.specs.declared.instruction.Reg.TheVariants as reg
use Rattle.i80_base.specs.declared.instruction.Pair.{Pair}
use Rattle.i80_base.specs.declared.instruction.Pair.TheVariants as pair
use Rattle.i80_base.specs.declared.instruction.StackPair.{StackPair}
use Rattle.i80_base.specs.declared.instruction.StackPair.TheVariants as stack
use Rattle.i80_rows.proofs.Each.{each_reg, each_pair, each_index, each_stack}
use Rattle.asm_syntax.specs.declared.keyword.Keyword.{Keyword as Word}
use Rattle.asm_syntax.specs.declared.keyword.Keyword.TheVariants as keyword
use Rattle.asm_syntax.specs.declared.keyword.Mnemonic.{Mnemonic}
use Rattle.asm_syntax.specs.declared.keyword.Mnemonic.TheVariants as mnemonic
use Rattle.asm_syntax.specs.declared.keyword.Directive.TheVariants as directive
use Rattle.asm_syntax.specs.declared.keyword.RegisterWord.{RegisterWord}
use Rattle.asm_syntax.specs.declared.keyword.RegisterWord.TheVariants as word
use Rattle.i80_base.specs.declared.instruction.ByteOperation.{ByteOperation}
use Rattle.i80_base.specs.declared.instruction.ByteOperation.TheVariants.{Mvi}
use Rattle.i80_base.specs.declared.instruction.WordOperation.{WordOperation}
use Rattle.i80_base.specs.declared.instruction.WordOperation.TheVariants.{Lxi}
use Rattle.asm_syntax.specs.declared.statement.Operand.{Operand}
use Rattle.asm_syntax.specs.declared.statement.Data.TheVariants as datum
use Rattle.asm_syntax.specs.declared.statement.Instruction.TheVariants as instruction
use Rattle.asm_syntax.specs.declared.statement.Action.{Action}
use Rattle.asm_syntax.specs.declared.statement.Action.TheVariants as action
use Rattle.asm_syntax.specs.declared.statement.Statement.{Statement}
use Rattle.asm_syntax.specs.Lexemes.{Keyword, Number, Sign, Piece}
use Rattle.asm_lex.specs.Tokens.{tokens_of}
use Rattle.asm_lex.specs.Climb.{tree_or_nesting, operand_at, chain, expr_at, expression}
use Rattle.asm_lex.specs.Commas.{operands_of}
use Rattle.asm_lex.specs.Shape.{shape}
use Rattle.asm_lex.specs.Words.{misplaced_from}
use Rattle.asm_text.specs.Forms.{register_instruction, pair_instruction, index_instruction, stack_instruction}
use Rattle.asm_text.specs.Forms.{move_between, instruction_of, each_of, directive_of}
use Rattle.asm_text.specs.Lines.{label_at, action_of, operation_at, line_of}
use Rattle.asm_text.specs.Registers as named

-- ---- the words of registers and pairs

abbrev pub register_for : Reg → RegisterWord
register_for reg.B = word.B
register_for reg.C = word.C
register_for reg.D = word.D
register_for reg.E = word.E
register_for reg.H = word.H
register_for reg.L = word.L
register_for reg.M = word.M
register_for reg.A = word.A

abbrev pub pair_for : Pair → RegisterWord
pair_for pair.B = word.B
pair_for pair.D = word.D
pair_for pair.H = word.H
pair_for pair.Sp = word.Sp

abbrev pub index_for : IndexPair → RegisterWord
index_for index.B = word.B
index_for index.D = word.D

abbrev pub stack_for : StackPair → RegisterWord
stack_for stack.B = word.B
stack_for stack.D = word.D
stack_for stack.H = word.H
stack_for stack.Psw = word.Psw

pub register_back : (r : Reg) → named.reg_of (register_for r) ≡ Some r
register_back = each_reg _ refl refl refl refl refl refl refl refl

pub pair_back : (p : Pair) → named.pair_of (pair_for p) ≡ Some p
pair_back = each_pair _ refl refl refl refl

pub index_back : (p : IndexPair) → named.index_of (index_for p) ≡ Some p
index_back = each_index _ refl refl

pub stack_back : (p : StackPair) → named.stack_of (stack_for p) ≡ Some p
stack_back = each_stack _ refl refl refl refl

-- ---- statements

-- a number in this column
abbrev pub number_at : ℕ → ℕ → Operand
number_at column n = record { column = column; expr = tree.Number n }

-- a line that does this alone
abbrev pub does : Action → Statement
does a = record { label = None; operation = Some (record { column = 1; action = a }) }

abbrev pub means : Mnemonic → Piece
means m = (1, Keyword (keyword.Mnemonic m))

abbrev pub names : ℕ → RegisterWord → Piece
names column r = (column, Keyword (keyword.Register r))

abbrev pub Says : List ℕ → Action → Type 0
Says line a = line_of line ≡ Ok (does a)

abbrev pub Spelled : List ℕ → List Piece → Type 0
Spelled line ps = tokens_of line ≡ Ok ps

-- ---- a number is an operand

number_read : (column c n : ℕ) → expression column ((c, Number n) ∷ []) ≡ Ok (number_at c n)
unfolding expression expr_at operand_at chain tree_or_nesting shape
number_read column c n = refl

-- ---- mnemonics

pub alone_says : (line : List ℕ) (i : Instr) → Spelled line (means (mnemonic.Alone i) ∷ [])
    → Says line (action.Instruction (instruction.Alone i))
unfolding line_of label_at operation_at action_of misplaced_from instruction_of
alone_says line i e = rw e refl

-- what a mnemonic and the word of a register or pair say, for each operation and each register
abbrev pub NameSays : {Op R : Type 0} → (Op → Mnemonic) → (R → RegisterWord) → (Op → R → Instr) → Type 0
NameSays {Op} {R} mnemonic_of word_for makes =
    (line : List ℕ) (op : Op) (c : ℕ) (r : R)
    → Spelled line (means (mnemonic_of op) ∷ names c (word_for r) ∷ [])
    → Says line (action.Instruction (instruction.Alone (makes op r)))

pub register_says : NameSays mnemonic.Register register_for register_instruction
unfolding line_of label_at operation_at action_of misplaced_from instruction_of operands_of
register_says line op c r e = rw (e, register_back r) refl

pub pair_says : NameSays mnemonic.Pair pair_for pair_instruction
unfolding line_of label_at operation_at action_of misplaced_from instruction_of operands_of
pair_says line op c r e = rw (e, pair_back r) refl

pub index_says : NameSays mnemonic.Index index_for index_instruction
unfolding line_of label_at operation_at action_of misplaced_from instruction_of operands_of
index_says line op c r e = rw (e, index_back r) refl

pub stack_says : NameSays mnemonic.Stack stack_for stack_instruction
unfolding line_of label_at operation_at action_of misplaced_from instruction_of operands_of
stack_says line op c r e = rw (e, stack_back r) refl

-- what a word and a number say
abbrev pub NumberSays : Word → (Operand → Action) → Type 0
NumberSays k does_with =
    (line : List ℕ) (c n : ℕ) → Spelled line ((1, Keyword k) ∷ (c, Number n) ∷ [])
    → Says line (does_with (number_at c n))

pub byte_says : (op : ByteOperation)
    → NumberSays (keyword.Mnemonic (mnemonic.Byte op)) (λ o. action.Instruction (instruction.Byte op o))
unfolding line_of label_at operation_at action_of misplaced_from instruction_of operands_of
byte_says op line c n e = rw (e, number_read 1 c n) refl

pub word_says : (op : WordOperation)
    → NumberSays (keyword.Mnemonic (mnemonic.Word op)) (λ o. action.Instruction (instruction.Word op o))
unfolding line_of label_at operation_at action_of misplaced_from instruction_of operands_of
word_says op line c n e = rw (e, number_read 1 c n) refl

pub restart_says : NumberSays (keyword.Mnemonic mnemonic.Restart)
    (λ o. action.Instruction (instruction.Restart o))
unfolding line_of label_at operation_at action_of misplaced_from instruction_of operands_of
restart_says line c n e = rw (e, number_read 1 c n) refl

pub move_says : (line : List ℕ) (b c d : ℕ) (v w : RegisterWord) (r s : Reg) (i : Instr)
    → named.reg_of v ≡ Some r → named.reg_of w ≡ Some s
    → move_between (named.register_of r) (named.register_of s) ≡ Some i
    → Spelled line (means mnemonic.Move ∷ names b v ∷ (c, Sign 44) ∷ names d w ∷ [])
    → Says line (action.Instruction (instruction.Alone i))
unfolding line_of label_at operation_at action_of misplaced_from instruction_of operands_of
move_says line b c d v w r s i to from is e = rw (e, to, from, is) refl

pub immediate_says : (line : List ℕ) (b c d n : ℕ) (w : RegisterWord) (r : Reg) → named.reg_of w ≡ Some r
    → Spelled line (means mnemonic.MoveImmediate ∷ names b w ∷ (c, Sign 44) ∷ (d, Number n) ∷ [])
    → Says line (action.Instruction (instruction.Byte (Mvi r) (number_at d n)))
unfolding line_of label_at operation_at action_of misplaced_from instruction_of operands_of
immediate_says line b c d n w r to e = rw (e, to, number_read 1 d n) refl

pub load_says : (line : List ℕ) (b c d n : ℕ) (w : RegisterWord) (p : Pair) → named.pair_of w ≡ Some p
    → Spelled line (means mnemonic.LoadPair ∷ names b w ∷ (c, Sign 44) ∷ (d, Number n) ∷ [])
    → Says line (action.Instruction (instruction.Word (Lxi p) (number_at d n)))
unfolding line_of label_at operation_at action_of misplaced_from instruction_of operands_of
load_says line b c d n w p to e = rw (e, to, number_read 1 d n) refl

-- ---- directives

pub datum_says : NumberSays (keyword.Directive directive.Bytes) (λ o. action.Bytes (datum.Byte o ∷ []))
unfolding line_of label_at operation_at action_of misplaced_from directive_of operands_of shape each_of
datum_says line c n e = rw (e, number_read 1 c n) refl

pub origin_says : NumberSays (keyword.Directive directive.Origin) action.Origin
unfolding line_of label_at operation_at action_of misplaced_from directive_of operands_of
origin_says line c n e = rw (e, number_read 1 c n) refl
