-- Keywords, the words that can't be names (8080/8085 Assembly Language Programming Manual): the
-- instructions by the groups of its chapter 1, "Instruction set", the directives of chapter 4, the
-- operators of chapter 2, "Operand field", and the names of registers and pairs.
use Rattle.std.specs.Prelude.{ℕ, List, [], ◌∷◌, ◌++◌, Option, codes}
use Rattle.std.specs.Map.{lookup}
use Rattle.std.specs.Str.{bytes_eq}
use Rattle.i80_base.specs.declared.instruction.Cond.TheVariants as cond
use Rattle.i80_base.specs.declared.instruction.Instr.TheVariants as instr
use Rattle.i80_base.specs.declared.instruction.Operation.TheVariants as alu
use Rattle.i80_base.specs.declared.instruction.Rotation.TheVariants as rotation
use Rattle.asm_expr.specs.declared.expression.Binary.TheVariants as infix_op
use Rattle.asm_expr.specs.declared.expression.Unary.TheVariants as prefix_op
use Rattle.asm_syntax.specs.declared.keyword.Directive.TheVariants as directive
use Rattle.asm_syntax.specs.declared.keyword.IndexOperation.TheVariants as index_op
use Rattle.asm_syntax.specs.declared.keyword.Keyword.{Keyword}
use Rattle.asm_syntax.specs.declared.keyword.Keyword.TheVariants as keyword
use Rattle.asm_syntax.specs.declared.keyword.Mnemonic.TheVariants as mnemonic
use Rattle.asm_syntax.specs.declared.keyword.PairOperation.TheVariants as pair_op
use Rattle.asm_syntax.specs.declared.keyword.RegisterOperation.TheVariants as register_op
use Rattle.asm_syntax.specs.declared.keyword.RegisterWord.TheVariants as register
use Rattle.asm_syntax.specs.declared.keyword.StackOperation.TheVariants as stack_op
use Rattle.i80_base.specs.declared.instruction.ByteOperation.TheVariants as byte_op
use Rattle.i80_base.specs.declared.instruction.WordOperation.TheVariants as word_op

-- a word in upper case, and what it means
abbrev pub Entry : Type 0
Entry = List ℕ × Keyword

-- ---- data transfer group

abbrev pub transfer_words : List Entry
transfer_words =
    (codes "MOV", keyword.Mnemonic mnemonic.Move) ∷
    (codes "MVI", keyword.Mnemonic mnemonic.MoveImmediate) ∷
    (codes "LXI", keyword.Mnemonic mnemonic.LoadPair) ∷
    (codes "LDA", keyword.Mnemonic (mnemonic.Word word_op.Lda)) ∷
    (codes "STA", keyword.Mnemonic (mnemonic.Word word_op.Sta)) ∷
    (codes "LHLD", keyword.Mnemonic (mnemonic.Word word_op.Lhld)) ∷
    (codes "SHLD", keyword.Mnemonic (mnemonic.Word word_op.Shld)) ∷
    (codes "LDAX", keyword.Mnemonic (mnemonic.Index index_op.Load)) ∷
    (codes "STAX", keyword.Mnemonic (mnemonic.Index index_op.Store)) ∷
    (codes "XCHG", keyword.Mnemonic (mnemonic.Alone instr.Xchg)) ∷
    []

-- ---- arithmetic group

abbrev pub arithmetic_words : List Entry
arithmetic_words =
    (codes "ADD", keyword.Mnemonic (mnemonic.Register (register_op.Alu alu.Add))) ∷
    (codes "ADI", keyword.Mnemonic (mnemonic.Byte (byte_op.AluImmediate alu.Add))) ∷
    (codes "ADC", keyword.Mnemonic (mnemonic.Register (register_op.Alu alu.Adc))) ∷
    (codes "ACI", keyword.Mnemonic (mnemonic.Byte (byte_op.AluImmediate alu.Adc))) ∷
    (codes "SUB", keyword.Mnemonic (mnemonic.Register (register_op.Alu alu.Sub))) ∷
    (codes "SUI", keyword.Mnemonic (mnemonic.Byte (byte_op.AluImmediate alu.Sub))) ∷
    (codes "SBB", keyword.Mnemonic (mnemonic.Register (register_op.Alu alu.Sbb))) ∷
    (codes "SBI", keyword.Mnemonic (mnemonic.Byte (byte_op.AluImmediate alu.Sbb))) ∷
    (codes "INR", keyword.Mnemonic (mnemonic.Register register_op.Increment)) ∷
    (codes "DCR", keyword.Mnemonic (mnemonic.Register register_op.Decrement)) ∷
    (codes "INX", keyword.Mnemonic (mnemonic.Pair pair_op.Increment)) ∷
    (codes "DCX", keyword.Mnemonic (mnemonic.Pair pair_op.Decrement)) ∷
    (codes "DAD", keyword.Mnemonic (mnemonic.Pair pair_op.Add)) ∷
    (codes "DAA", keyword.Mnemonic (mnemonic.Alone instr.Daa)) ∷
    []

-- ---- logical group

abbrev pub logical_words : List Entry
logical_words =
    (codes "ANA", keyword.Mnemonic (mnemonic.Register (register_op.Alu alu.Ana))) ∷
    (codes "ANI", keyword.Mnemonic (mnemonic.Byte (byte_op.AluImmediate alu.Ana))) ∷
    (codes "XRA", keyword.Mnemonic (mnemonic.Register (register_op.Alu alu.Xra))) ∷
    (codes "XRI", keyword.Mnemonic (mnemonic.Byte (byte_op.AluImmediate alu.Xra))) ∷
    (codes "ORA", keyword.Mnemonic (mnemonic.Register (register_op.Alu alu.Ora))) ∷
    (codes "ORI", keyword.Mnemonic (mnemonic.Byte (byte_op.AluImmediate alu.Ora))) ∷
    (codes "CMP", keyword.Mnemonic (mnemonic.Register (register_op.Alu alu.Cmp))) ∷
    (codes "CPI", keyword.Mnemonic (mnemonic.Byte (byte_op.AluImmediate alu.Cmp))) ∷
    (codes "RLC", keyword.Mnemonic (mnemonic.Alone (instr.Rotate rotation.Rlc))) ∷
    (codes "RRC", keyword.Mnemonic (mnemonic.Alone (instr.Rotate rotation.Rrc))) ∷
    (codes "RAL", keyword.Mnemonic (mnemonic.Alone (instr.Rotate rotation.Ral))) ∷
    (codes "RAR", keyword.Mnemonic (mnemonic.Alone (instr.Rotate rotation.Rar))) ∷
    (codes "CMA", keyword.Mnemonic (mnemonic.Alone instr.Cma)) ∷
    (codes "CMC", keyword.Mnemonic (mnemonic.Alone instr.Cmc)) ∷
    (codes "STC", keyword.Mnemonic (mnemonic.Alone instr.Stc)) ∷
    []

-- ---- branch group

abbrev pub branch_words : List Entry
branch_words =
    (codes "JMP", keyword.Mnemonic (mnemonic.Word word_op.Jmp)) ∷
    (codes "JNZ", keyword.Mnemonic (mnemonic.Word (word_op.JumpIf cond.NotZero))) ∷
    (codes "JZ", keyword.Mnemonic (mnemonic.Word (word_op.JumpIf cond.Zero))) ∷
    (codes "JNC", keyword.Mnemonic (mnemonic.Word (word_op.JumpIf cond.NoCarry))) ∷
    (codes "JC", keyword.Mnemonic (mnemonic.Word (word_op.JumpIf cond.Carry))) ∷
    (codes "JPO", keyword.Mnemonic (mnemonic.Word (word_op.JumpIf cond.ParityOdd))) ∷
    (codes "JPE", keyword.Mnemonic (mnemonic.Word (word_op.JumpIf cond.ParityEven))) ∷
    (codes "JP", keyword.Mnemonic (mnemonic.Word (word_op.JumpIf cond.Plus))) ∷
    (codes "JM", keyword.Mnemonic (mnemonic.Word (word_op.JumpIf cond.Minus))) ∷
    (codes "CALL", keyword.Mnemonic (mnemonic.Word word_op.Call)) ∷
    (codes "CNZ", keyword.Mnemonic (mnemonic.Word (word_op.CallIf cond.NotZero))) ∷
    (codes "CZ", keyword.Mnemonic (mnemonic.Word (word_op.CallIf cond.Zero))) ∷
    (codes "CNC", keyword.Mnemonic (mnemonic.Word (word_op.CallIf cond.NoCarry))) ∷
    (codes "CC", keyword.Mnemonic (mnemonic.Word (word_op.CallIf cond.Carry))) ∷
    (codes "CPO", keyword.Mnemonic (mnemonic.Word (word_op.CallIf cond.ParityOdd))) ∷
    (codes "CPE", keyword.Mnemonic (mnemonic.Word (word_op.CallIf cond.ParityEven))) ∷
    (codes "CP", keyword.Mnemonic (mnemonic.Word (word_op.CallIf cond.Plus))) ∷
    (codes "CM", keyword.Mnemonic (mnemonic.Word (word_op.CallIf cond.Minus))) ∷
    (codes "RET", keyword.Mnemonic (mnemonic.Alone instr.Ret)) ∷
    (codes "RNZ", keyword.Mnemonic (mnemonic.Alone (instr.RetIf cond.NotZero))) ∷
    (codes "RZ", keyword.Mnemonic (mnemonic.Alone (instr.RetIf cond.Zero))) ∷
    (codes "RNC", keyword.Mnemonic (mnemonic.Alone (instr.RetIf cond.NoCarry))) ∷
    (codes "RC", keyword.Mnemonic (mnemonic.Alone (instr.RetIf cond.Carry))) ∷
    (codes "RPO", keyword.Mnemonic (mnemonic.Alone (instr.RetIf cond.ParityOdd))) ∷
    (codes "RPE", keyword.Mnemonic (mnemonic.Alone (instr.RetIf cond.ParityEven))) ∷
    (codes "RP", keyword.Mnemonic (mnemonic.Alone (instr.RetIf cond.Plus))) ∷
    (codes "RM", keyword.Mnemonic (mnemonic.Alone (instr.RetIf cond.Minus))) ∷
    (codes "RST", keyword.Mnemonic mnemonic.Restart) ∷
    (codes "PCHL", keyword.Mnemonic (mnemonic.Alone instr.Pchl)) ∷
    []

-- ---- stack, I/O and machine control group

abbrev pub stack_words : List Entry
stack_words =
    (codes "PUSH", keyword.Mnemonic (mnemonic.Stack stack_op.Push)) ∷
    (codes "POP", keyword.Mnemonic (mnemonic.Stack stack_op.Pop)) ∷
    (codes "XTHL", keyword.Mnemonic (mnemonic.Alone instr.Xthl)) ∷
    (codes "SPHL", keyword.Mnemonic (mnemonic.Alone instr.Sphl)) ∷
    (codes "IN", keyword.Mnemonic (mnemonic.Byte byte_op.In)) ∷
    (codes "OUT", keyword.Mnemonic (mnemonic.Byte byte_op.Out)) ∷
    (codes "EI", keyword.Mnemonic (mnemonic.Alone instr.Ei)) ∷
    (codes "DI", keyword.Mnemonic (mnemonic.Alone instr.Di)) ∷
    (codes "HLT", keyword.Mnemonic (mnemonic.Alone instr.Hlt)) ∷
    (codes "NOP", keyword.Mnemonic (mnemonic.Alone instr.Nop)) ∷
    []

-- ---- directives

abbrev pub directive_words : List Entry
directive_words =
    (codes "ORG", keyword.Directive directive.Origin) ∷
    (codes "DB", keyword.Directive directive.Bytes) ∷
    (codes "DW", keyword.Directive directive.Words) ∷
    (codes "DS", keyword.Directive directive.Space) ∷
    (codes "EQU", keyword.Directive directive.Equate) ∷
    (codes "SET", keyword.Directive directive.Set) ∷
    (codes "IF", keyword.Directive directive.If) ∷
    (codes "ELSE", keyword.Directive directive.Else) ∷
    (codes "ENDIF", keyword.Directive directive.EndIf) ∷
    (codes "END", keyword.Directive directive.End) ∷
    []

-- ---- operators: before an operand, between two

abbrev pub operator_words : List Entry
operator_words =
    (codes "HIGH", keyword.Prefix prefix_op.High) ∷
    (codes "LOW", keyword.Prefix prefix_op.Low) ∷
    (codes "NOT", keyword.Prefix prefix_op.Not) ∷
    (codes "MOD", keyword.Infix infix_op.Modulo) ∷
    (codes "SHL", keyword.Infix infix_op.ShiftLeft) ∷
    (codes "SHR", keyword.Infix infix_op.ShiftRight) ∷
    (codes "EQ", keyword.Infix infix_op.Equal) ∷
    (codes "NE", keyword.Infix infix_op.NotEqual) ∷
    (codes "LT", keyword.Infix infix_op.Less) ∷
    (codes "LE", keyword.Infix infix_op.LessOrEqual) ∷
    (codes "GT", keyword.Infix infix_op.Greater) ∷
    (codes "GE", keyword.Infix infix_op.GreaterOrEqual) ∷
    (codes "AND", keyword.Infix infix_op.And) ∷
    (codes "OR", keyword.Infix infix_op.Or) ∷
    (codes "XOR", keyword.Infix infix_op.Xor) ∷
    []

-- ---- registers, pairs by their first register, SP and PSW

abbrev pub register_words : List Entry
register_words =
    (codes "A", keyword.Register register.A) ∷
    (codes "B", keyword.Register register.B) ∷
    (codes "C", keyword.Register register.C) ∷
    (codes "D", keyword.Register register.D) ∷
    (codes "E", keyword.Register register.E) ∷
    (codes "H", keyword.Register register.H) ∷
    (codes "L", keyword.Register register.L) ∷
    (codes "M", keyword.Register register.M) ∷
    (codes "SP", keyword.Register register.Sp) ∷
    (codes "PSW", keyword.Register register.Psw) ∷
    []

-- ---- all of them

-- the words that can't be names
abbrev pub reserved_words : List Entry
reserved_words =
    transfer_words ++ (arithmetic_words ++ (logical_words ++ (branch_words ++ (stack_words
    ++ (directive_words ++ (operator_words ++ register_words))))))

-- the meaning of a word in upper case, if it can't be a name
unfoldable pub keyword_of : List ℕ → Option Keyword
keyword_of word = lookup (bytes_eq word) reserved_words
