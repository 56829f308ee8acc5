-- The number of each register, pair, condition and so on in an opcode.
use Rattle.std.specs.Prelude.{ℕ}
use Rattle.i80_base.specs.declared.instruction.Reg.{Reg}
use Rattle.i80_base.specs.declared.instruction.Reg.TheVariants as reg
use Rattle.i80_base.specs.declared.instruction.Register.{Register}
use Rattle.i80_base.specs.declared.instruction.Register.TheVariants as register
use Rattle.i80_base.specs.declared.instruction.Pair.{Pair}
use Rattle.i80_base.specs.declared.instruction.Pair.TheVariants as pair
use Rattle.i80_base.specs.declared.instruction.StackPair.{StackPair}
use Rattle.i80_base.specs.declared.instruction.StackPair.TheVariants as stack
use Rattle.i80_base.specs.declared.instruction.IndexPair.{IndexPair}
use Rattle.i80_base.specs.declared.instruction.IndexPair.TheVariants as index
use Rattle.i80_base.specs.declared.instruction.Cond.{Cond}
use Rattle.i80_base.specs.declared.instruction.Cond.TheVariants as cond
use Rattle.i80_base.specs.declared.instruction.Operation.{Operation}
use Rattle.i80_base.specs.declared.instruction.Operation.TheVariants as operation
use Rattle.i80_base.specs.declared.instruction.Rotation.{Rotation}
use Rattle.i80_base.specs.declared.instruction.Rotation.TheVariants as rotation
use Rattle.i80_base.specs.declared.instruction.Vector.{Vector}
use Rattle.i80_base.specs.declared.instruction.Vector.TheVariants as vector

-- a register as what a register code may name
abbrev pub reg_of : Register → Reg
reg_of register.B = reg.B
reg_of register.C = reg.C
reg_of register.D = reg.D
reg_of register.E = reg.E
reg_of register.H = reg.H
reg_of register.L = reg.L
reg_of register.A = reg.A

abbrev pub reg_code : Reg → ℕ
reg_code reg.B = 0
reg_code reg.C = 1
reg_code reg.D = 2
reg_code reg.E = 3
reg_code reg.H = 4
reg_code reg.L = 5
reg_code reg.M = 6
reg_code reg.A = 7

abbrev pub pair_code : Pair → ℕ
pair_code pair.B = 0
pair_code pair.D = 1
pair_code pair.H = 2
pair_code pair.Sp = 3

abbrev pub stack_pair_code : StackPair → ℕ
stack_pair_code stack.B = 0
stack_pair_code stack.D = 1
stack_pair_code stack.H = 2
stack_pair_code stack.Psw = 3

abbrev pub index_pair_code : IndexPair → ℕ
index_pair_code index.B = 0
index_pair_code index.D = 1

abbrev pub cond_code : Cond → ℕ
cond_code cond.NotZero = 0
cond_code cond.Zero = 1
cond_code cond.NoCarry = 2
cond_code cond.Carry = 3
cond_code cond.ParityOdd = 4
cond_code cond.ParityEven = 5
cond_code cond.Plus = 6
cond_code cond.Minus = 7

abbrev pub operation_code : Operation → ℕ
operation_code operation.Add = 0
operation_code operation.Adc = 1
operation_code operation.Sub = 2
operation_code operation.Sbb = 3
operation_code operation.Ana = 4
operation_code operation.Xra = 5
operation_code operation.Ora = 6
operation_code operation.Cmp = 7

abbrev pub rotation_code : Rotation → ℕ
rotation_code rotation.Rlc = 0
rotation_code rotation.Rrc = 1
rotation_code rotation.Ral = 2
rotation_code rotation.Rar = 3

-- the n of RST n
abbrev pub vector_code : Vector → ℕ
vector_code vector.V0 = 0
vector_code vector.V1 = 1
vector_code vector.V2 = 2
vector_code vector.V3 = 3
vector_code vector.V4 = 4
vector_code vector.V5 = 5
vector_code vector.V6 = 6
vector_code vector.V7 = 7
