-- Which registers, pairs and codes an operand's word names (8080/8085 Assembly Language Programming
-- Manual, chapter 3).
use Rattle.std.specs.Prelude.{Option, Some, None}
use Rattle.i80_base.specs.declared.instruction.Reg.{Reg}
use Rattle.i80_base.specs.declared.instruction.Reg.TheVariants as reg
use Rattle.i80_base.specs.declared.instruction.Register.{Register}
use Rattle.i80_base.specs.declared.instruction.Register.TheVariants as register
use Rattle.i80_base.specs.declared.instruction.Pair.{Pair}
use Rattle.i80_base.specs.declared.instruction.Pair.TheVariants as pair
use Rattle.i80_base.specs.declared.instruction.IndexPair.{IndexPair}
use Rattle.i80_base.specs.declared.instruction.IndexPair.TheVariants as index
use Rattle.i80_base.specs.declared.instruction.StackPair.{StackPair}
use Rattle.i80_base.specs.declared.instruction.StackPair.TheVariants as stack
use Rattle.asm_syntax.specs.declared.keyword.RegisterWord.{RegisterWord}
use Rattle.asm_syntax.specs.declared.keyword.RegisterWord.TheVariants as word

-- a register or M
abbrev pub reg_of : RegisterWord → Option Reg
reg_of word.A = Some reg.A
reg_of word.B = Some reg.B
reg_of word.C = Some reg.C
reg_of word.D = Some reg.D
reg_of word.E = Some reg.E
reg_of word.H = Some reg.H
reg_of word.L = Some reg.L
reg_of word.M = Some reg.M
reg_of _ = None

-- a register, where it is not M
abbrev pub register_of : Reg → Option Register
register_of reg.A = Some register.A
register_of reg.B = Some register.B
register_of reg.C = Some register.C
register_of reg.D = Some register.D
register_of reg.E = Some register.E
register_of reg.H = Some register.H
register_of reg.L = Some register.L
register_of reg.M = None

-- a pair by its first register, or SP
abbrev pub pair_of : RegisterWord → Option Pair
pair_of word.B = Some pair.B
pair_of word.D = Some pair.D
pair_of word.H = Some pair.H
pair_of word.Sp = Some pair.Sp
pair_of _ = None

-- a pair that holds an address
abbrev pub index_of : RegisterWord → Option IndexPair
index_of word.B = Some index.B
index_of word.D = Some index.D
index_of _ = None

-- a pair by its first register, or PSW
abbrev pub stack_of : RegisterWord → Option StackPair
stack_of word.B = Some stack.B
stack_of word.D = Some stack.D
stack_of word.H = Some stack.H
stack_of word.Psw = Some stack.Psw
stack_of _ = None
