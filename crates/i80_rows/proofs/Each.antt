-- What each register, each pair and so on has, they all have.
use Rattle.i80_base.specs.declared.instruction.Reg.{Reg}
use Rattle.i80_base.specs.declared.instruction.Reg.TheVariants as reg
use Rattle.i80_base.specs.declared.instruction.Register.{Register}
use Rattle.i80_base.specs.declared.instruction.Register.TheVariants as register
use Rattle.i80_base.specs.declared.instruction.Pair.{Pair}
use Rattle.i80_base.specs.declared.instruction.Pair.TheVariants as pair
use Rattle.i80_base.specs.declared.instruction.StackPair.{StackPair}
use Rattle.i80_base.specs.declared.instruction.StackPair.TheVariants as stack
use Rattle.i80_base.specs.declared.instruction.IndexPair.{IndexPair}
use Rattle.i80_base.specs.declared.instruction.IndexPair.TheVariants as index
use Rattle.i80_base.specs.declared.instruction.Cond.{Cond}
use Rattle.i80_base.specs.declared.instruction.Cond.TheVariants as cond
use Rattle.i80_base.specs.declared.instruction.Operation.{Operation}
use Rattle.i80_base.specs.declared.instruction.Operation.TheVariants as operation
use Rattle.i80_base.specs.declared.instruction.Rotation.{Rotation}
use Rattle.i80_base.specs.declared.instruction.Rotation.TheVariants as rotation
use Rattle.i80_base.specs.declared.instruction.Vector.{Vector}
use Rattle.i80_base.specs.declared.instruction.Vector.TheVariants as vector

pub each_reg : (P : Reg → Type 0) → P reg.B → P reg.C → P reg.D → P reg.E
    → P reg.H → P reg.L → P reg.M → P reg.A → (x : Reg) → P x
each_reg P b c d e h l m a reg.B = b
each_reg P b c d e h l m a reg.C = c
each_reg P b c d e h l m a reg.D = d
each_reg P b c d e h l m a reg.E = e
each_reg P b c d e h l m a reg.H = h
each_reg P b c d e h l m a reg.L = l
each_reg P b c d e h l m a reg.M = m
each_reg P b c d e h l m a reg.A = a

pub each_register : (P : Register → Type 0) → P register.B → P register.C → P register.D
    → P register.E → P register.H → P register.L → P register.A → (x : Register) → P x
each_register P b c d e h l a register.B = b
each_register P b c d e h l a register.C = c
each_register P b c d e h l a register.D = d
each_register P b c d e h l a register.E = e
each_register P b c d e h l a register.H = h
each_register P b c d e h l a register.L = l
each_register P b c d e h l a register.A = a

pub each_pair : (P : Pair → Type 0) → P pair.B → P pair.D → P pair.H → P pair.Sp → (x : Pair) → P x
each_pair P b d h sp pair.B = b
each_pair P b d h sp pair.D = d
each_pair P b d h sp pair.H = h
each_pair P b d h sp pair.Sp = sp

pub each_index : (P : IndexPair → Type 0) → P index.B → P index.D → (x : IndexPair) → P x
each_index P b d index.B = b
each_index P b d index.D = d

pub each_stack : (P : StackPair → Type 0) → P stack.B → P stack.D → P stack.H → P stack.Psw
    → (x : StackPair) → P x
each_stack P b d h psw stack.B = b
each_stack P b d h psw stack.D = d
each_stack P b d h psw stack.H = h
each_stack P b d h psw stack.Psw = psw

pub each_cond : (P : Cond → Type 0) → P cond.NotZero → P cond.Zero → P cond.NoCarry → P cond.Carry
    → P cond.ParityOdd → P cond.ParityEven → P cond.Plus → P cond.Minus → (x : Cond) → P x
each_cond P nz z nc c po pe p m cond.NotZero = nz
each_cond P nz z nc c po pe p m cond.Zero = z
each_cond P nz z nc c po pe p m cond.NoCarry = nc
each_cond P nz z nc c po pe p m cond.Carry = c
each_cond P nz z nc c po pe p m cond.ParityOdd = po
each_cond P nz z nc c po pe p m cond.ParityEven = pe
each_cond P nz z nc c po pe p m cond.Plus = p
each_cond P nz z nc c po pe p m cond.Minus = m

pub each_operation : (P : Operation → Type 0) → P operation.Add → P operation.Adc → P operation.Sub
    → P operation.Sbb → P operation.Ana → P operation.Xra → P operation.Ora → P operation.Cmp
    → (x : Operation) → P x
each_operation P add adc sub sbb ana xra ora cmp operation.Add = add
each_operation P add adc sub sbb ana xra ora cmp operation.Adc = adc
each_operation P add adc sub sbb ana xra ora cmp operation.Sub = sub
each_operation P add adc sub sbb ana xra ora cmp operation.Sbb = sbb
each_operation P add adc sub sbb ana xra ora cmp operation.Ana = ana
each_operation P add adc sub sbb ana xra ora cmp operation.Xra = xra
each_operation P add adc sub sbb ana xra ora cmp operation.Ora = ora
each_operation P add adc sub sbb ana xra ora cmp operation.Cmp = cmp

pub each_rotation : (P : Rotation → Type 0) → P rotation.Rlc → P rotation.Rrc → P rotation.Ral
    → P rotation.Rar → (x : Rotation) → P x
each_rotation P rlc rrc ral rar rotation.Rlc = rlc
each_rotation P rlc rrc ral rar rotation.Rrc = rrc
each_rotation P rlc rrc ral rar rotation.Ral = ral
each_rotation P rlc rrc ral rar rotation.Rar = rar

pub each_vector : (P : Vector → Type 0) → P vector.V0 → P vector.V1 → P vector.V2 → P vector.V3
    → P vector.V4 → P vector.V5 → P vector.V6 → P vector.V7 → (x : Vector) → P x
each_vector P v0 v1 v2 v3 v4 v5 v6 v7 vector.V0 = v0
each_vector P v0 v1 v2 v3 v4 v5 v6 v7 vector.V1 = v1
each_vector P v0 v1 v2 v3 v4 v5 v6 v7 vector.V2 = v2
each_vector P v0 v1 v2 v3 v4 v5 v6 v7 vector.V3 = v3
each_vector P v0 v1 v2 v3 v4 v5 v6 v7 vector.V4 = v4
each_vector P v0 v1 v2 v3 v4 v5 v6 v7 vector.V5 = v5
each_vector P v0 v1 v2 v3 v4 v5 v6 v7 vector.V6 = v6
each_vector P v0 v1 v2 v3 v4 v5 v6 v7 vector.V7 = v7
