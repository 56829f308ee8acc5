-- The registers and the operation that the bits of an opcode of 40 to BF name.
use Rattle.std.specs.Prelude.{ℕ, [], ◌∷◌, slice_index_or}
use Rattle.i80_base.specs.declared.instruction.Reg.{Reg}
use Rattle.i80_base.specs.declared.instruction.Reg.TheVariants as reg
use Rattle.i80_base.specs.declared.instruction.Operation.{Operation}
use Rattle.i80_base.specs.declared.instruction.Operation.TheVariants as operation

-- the register of a code of three bits, or the byte in memory at HL
abbrev pub reg_at : ℕ → Reg
reg_at code = slice_index_or (reg.B ∷ reg.C ∷ reg.D ∷ reg.E ∷ reg.H ∷ reg.L ∷ reg.M ∷ []) code reg.A

-- the operation of a code of three bits
abbrev pub operation_at : ℕ → Operation
operation_at code =
    slice_index_or (operation.Add ∷ operation.Adc ∷ operation.Sub ∷ operation.Sbb ∷ operation.Ana
    ∷ operation.Xra ∷ operation.Ora ∷ []) code operation.Cmp
