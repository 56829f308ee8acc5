-- The values of operands, where names have these values and `$` is here.
use Rattle.std.specs.Prelude.{ℕ, ◌%◌, List, ◌||◌, ◌==◌, Option, Some, None, Result, Ok, Err, if◌then◌else◌}
use Rattle.std.specs.Prelude.{nat_lt, nat_le}
use Rattle.asm_expr.specs.Value.{value_of}
use Rattle.asm_expr.specs.declared.evaluation.ExprFault.{ExprFault}
use Rattle.asm_expr.specs.declared.evaluation.ExprFault.TheVariants as expr
use Rattle.i80_base.specs.declared.instruction.Vector.{Vector}
use Rattle.i80_base.specs.declared.instruction.Vector.TheVariants.{V0, V1, V2, V3, V4, V5, V6, V7}
use Rattle.asm_syntax.specs.declared.fault.FaultKind.{FaultKind}
use Rattle.asm_syntax.specs.declared.fault.FaultKind.TheVariants as fault
use Rattle.asm_syntax.specs.declared.statement.Operand.{Operand}
use Rattle.asm_syntax.specs.Outcome.{Fault, ◌>>=◌}

-- a value, or why there is none: if a name has none, this fault
abbrev pub or_fault : FaultKind → ℕ → Result ℕ ExprFault → Result ℕ Fault
or_fault missing column (Ok v) = Ok v
or_fault missing column (Err expr.Undefined) = Err (column, missing)
or_fault missing column (Err expr.Divisor) = Err (column, fault.Divisor)

-- a byte operand: its low byte, in 0 to FFh or FF00h to FFFFh
abbrev pub as_byte : ℕ → ℕ → Result ℕ Fault
as_byte column v =
    if nat_lt v 256 || nat_le 65280 v then Ok (v % 256) else Err (column, fault.ByteRange)

-- the vector of a restart
abbrev pub vector : ℕ → Option Vector
vector v =
    if v == 0 then Some V0 else
    if v == 1 then Some V1 else
    if v == 2 then Some V2 else
    if v == 3 then Some V3 else
    if v == 4 then Some V4 else
    if v == 5 then Some V5 else
    if v == 6 then Some V6 else
    if v == 7 then Some V7 else None

-- a vector, else ByteRange
abbrev pub as_vector : ℕ → Option Vector → Result Vector Fault
as_vector column None = Err (column, fault.ByteRange)
as_vector column (Some n) = Ok n

module _ (names : List ℕ → Option ℕ) (here : ℕ) where
  -- an operand's value
  abbrev pub number : Operand → Result ℕ Fault
  number o = or_fault fault.Undefined o.column (value_of names here o.expr)

  -- an operand that is a byte
  abbrev pub byte : Operand → Result ℕ Fault
  byte o = do
    v ← number o
    as_byte o.column v

  -- an operand that is a vector
  abbrev pub restart : Operand → Result Vector Fault
  restart o = do
    v ← number o
    as_vector o.column (vector v)
