-- The table of 256 rows (8080 User's Manual, chapter 4 and the opcode table), and what bytes read as by it.
use Rattle.std.specs.Prelude.{
  ℕ,
  ◌+◌,
  ◌*◌,
  List,
  [],
  ◌∷◌,
  ◌++◌,
  Bool,
  true,
  false,
  Result,
  Ok,
  Err,
  slice_index_or,
}
use Rattle.i80_base.specs.declared.instruction.Instr.{Instr}
use Rattle.i80_base.specs.declared.instruction.Instr.TheVariants.{
  Nop,
  Lxi,
  Stax,
  Ldax,
  Shld,
  Lhld,
  Sta,
  Lda,
  Inx,
  Dcx,
  Dad,
  Inr,
  Dcr,
  Mvi,
  Rotate,
  Daa,
  Cma,
  Stc,
  Cmc,
  Mov,
  MovFromM,
  MovToM,
  Hlt,
  Alu,
  AluImmediate,
  Jmp,
  JumpIf,
  Call,
  CallIf,
  Ret,
  RetIf,
  Rst,
  Push,
  Pop,
  Xthl,
  Xchg,
  Pchl,
  Sphl,
  Out,
  In,
  Di,
  Ei,
}
use Rattle.i80_base.specs.declared.instruction.Reg.TheVariants as reg
use Rattle.i80_base.specs.declared.instruction.Register.TheVariants as register
use Rattle.i80_base.specs.declared.instruction.Pair.TheVariants as pair
use Rattle.i80_base.specs.declared.instruction.StackPair.TheVariants as stack
use Rattle.i80_base.specs.declared.instruction.IndexPair.TheVariants as index
use Rattle.i80_base.specs.declared.instruction.Cond.TheVariants as cond
use Rattle.i80_base.specs.declared.instruction.Operation.TheVariants.{Add, Adc, Sub, Sbb, Ana, Xra, Ora, Cmp}
use Rattle.i80_base.specs.declared.instruction.Rotation.TheVariants.{Rlc, Rrc, Ral, Rar}
use Rattle.i80_base.specs.declared.instruction.Vector.TheVariants.{V0, V1, V2, V3, V4, V5, V6, V7}
use Rattle.i80_base.specs.declared.instruction.DecodeFault.{DecodeFault}
use Rattle.i80_base.specs.declared.instruction.DecodeFault.TheVariants as fault

-- an undefined row, or an instruction that stands alone, with a byte after it, or with a word
pub data Row : Type 0 where
  Undefined : Row
  Alone : Instr → Row
  Byte : (ℕ → Instr) → Row
  Word : (ℕ → Instr) → Row

abbrev pub row_0 : List Row
row_0 =
    (Alone Nop) ∷ (Word (Lxi pair.B)) ∷ (Alone (Stax index.B)) ∷ (Alone (Inx pair.B)) ∷
    (Alone (Inr reg.B)) ∷ (Alone (Dcr reg.B)) ∷ (Byte (Mvi reg.B)) ∷ (Alone (Rotate Rlc)) ∷
    Undefined ∷ (Alone (Dad pair.B)) ∷ (Alone (Ldax index.B)) ∷ (Alone (Dcx pair.B)) ∷
    (Alone (Inr reg.C)) ∷ (Alone (Dcr reg.C)) ∷ (Byte (Mvi reg.C)) ∷ (Alone (Rotate Rrc)) ∷ []

abbrev pub row_1 : List Row
row_1 =
    Undefined ∷ (Word (Lxi pair.D)) ∷ (Alone (Stax index.D)) ∷ (Alone (Inx pair.D)) ∷
    (Alone (Inr reg.D)) ∷ (Alone (Dcr reg.D)) ∷ (Byte (Mvi reg.D)) ∷ (Alone (Rotate Ral)) ∷
    Undefined ∷ (Alone (Dad pair.D)) ∷ (Alone (Ldax index.D)) ∷ (Alone (Dcx pair.D)) ∷
    (Alone (Inr reg.E)) ∷ (Alone (Dcr reg.E)) ∷ (Byte (Mvi reg.E)) ∷ (Alone (Rotate Rar)) ∷ []

abbrev pub row_2 : List Row
row_2 =
    Undefined ∷ (Word (Lxi pair.H)) ∷ (Word Shld) ∷ (Alone (Inx pair.H)) ∷
    (Alone (Inr reg.H)) ∷ (Alone (Dcr reg.H)) ∷ (Byte (Mvi reg.H)) ∷ (Alone Daa) ∷
    Undefined ∷ (Alone (Dad pair.H)) ∷ (Word Lhld) ∷ (Alone (Dcx pair.H)) ∷
    (Alone (Inr reg.L)) ∷ (Alone (Dcr reg.L)) ∷ (Byte (Mvi reg.L)) ∷ (Alone Cma) ∷ []

abbrev pub row_3 : List Row
row_3 =
    Undefined ∷ (Word (Lxi pair.Sp)) ∷ (Word Sta) ∷ (Alone (Inx pair.Sp)) ∷
    (Alone (Inr reg.M)) ∷ (Alone (Dcr reg.M)) ∷ (Byte (Mvi reg.M)) ∷ (Alone Stc) ∷
    Undefined ∷ (Alone (Dad pair.Sp)) ∷ (Word Lda) ∷ (Alone (Dcx pair.Sp)) ∷
    (Alone (Inr reg.A)) ∷ (Alone (Dcr reg.A)) ∷ (Byte (Mvi reg.A)) ∷ (Alone Cmc) ∷ []

abbrev pub row_4 : List Row
row_4 =
    (Alone (Mov register.B register.B)) ∷ (Alone (Mov register.B register.C)) ∷
    (Alone (Mov register.B register.D)) ∷ (Alone (Mov register.B register.E)) ∷
    (Alone (Mov register.B register.H)) ∷ (Alone (Mov register.B register.L)) ∷
    (Alone (MovFromM register.B)) ∷ (Alone (Mov register.B register.A)) ∷
    (Alone (Mov register.C register.B)) ∷ (Alone (Mov register.C register.C)) ∷
    (Alone (Mov register.C register.D)) ∷ (Alone (Mov register.C register.E)) ∷
    (Alone (Mov register.C register.H)) ∷ (Alone (Mov register.C register.L)) ∷
    (Alone (MovFromM register.C)) ∷ (Alone (Mov register.C register.A)) ∷ []

abbrev pub row_5 : List Row
row_5 =
    (Alone (Mov register.D register.B)) ∷ (Alone (Mov register.D register.C)) ∷
    (Alone (Mov register.D register.D)) ∷ (Alone (Mov register.D register.E)) ∷
    (Alone (Mov register.D register.H)) ∷ (Alone (Mov register.D register.L)) ∷
    (Alone (MovFromM register.D)) ∷ (Alone (Mov register.D register.A)) ∷
    (Alone (Mov register.E register.B)) ∷ (Alone (Mov register.E register.C)) ∷
    (Alone (Mov register.E register.D)) ∷ (Alone (Mov register.E register.E)) ∷
    (Alone (Mov register.E register.H)) ∷ (Alone (Mov register.E register.L)) ∷
    (Alone (MovFromM register.E)) ∷ (Alone (Mov register.E register.A)) ∷ []

abbrev pub row_6 : List Row
row_6 =
    (Alone (Mov register.H register.B)) ∷ (Alone (Mov register.H register.C)) ∷
    (Alone (Mov register.H register.D)) ∷ (Alone (Mov register.H register.E)) ∷
    (Alone (Mov register.H register.H)) ∷ (Alone (Mov register.H register.L)) ∷
    (Alone (MovFromM register.H)) ∷ (Alone (Mov register.H register.A)) ∷
    (Alone (Mov register.L register.B)) ∷ (Alone (Mov register.L register.C)) ∷
    (Alone (Mov register.L register.D)) ∷ (Alone (Mov register.L register.E)) ∷
    (Alone (Mov register.L register.H)) ∷ (Alone (Mov register.L register.L)) ∷
    (Alone (MovFromM register.L)) ∷ (Alone (Mov register.L register.A)) ∷ []

abbrev pub row_7 : List Row
row_7 =
    (Alone (MovToM register.B)) ∷ (Alone (MovToM register.C)) ∷
    (Alone (MovToM register.D)) ∷ (Alone (MovToM register.E)) ∷
    (Alone (MovToM register.H)) ∷ (Alone (MovToM register.L)) ∷ (Alone Hlt) ∷ (Alone (MovToM register.A)) ∷
    (Alone (Mov register.A register.B)) ∷ (Alone (Mov register.A register.C)) ∷
    (Alone (Mov register.A register.D)) ∷ (Alone (Mov register.A register.E)) ∷
    (Alone (Mov register.A register.H)) ∷ (Alone (Mov register.A register.L)) ∷
    (Alone (MovFromM register.A)) ∷ (Alone (Mov register.A register.A)) ∷ []

abbrev pub row_8 : List Row
row_8 =
    (Alone (Alu Add reg.B)) ∷ (Alone (Alu Add reg.C)) ∷ (Alone (Alu Add reg.D)) ∷ (Alone (Alu Add reg.E)) ∷
    (Alone (Alu Add reg.H)) ∷ (Alone (Alu Add reg.L)) ∷ (Alone (Alu Add reg.M)) ∷ (Alone (Alu Add reg.A)) ∷
    (Alone (Alu Adc reg.B)) ∷ (Alone (Alu Adc reg.C)) ∷ (Alone (Alu Adc reg.D)) ∷ (Alone (Alu Adc reg.E)) ∷
    (Alone (Alu Adc reg.H)) ∷ (Alone (Alu Adc reg.L)) ∷ (Alone (Alu Adc reg.M)) ∷ (Alone (Alu Adc reg.A)) ∷ []

abbrev pub row_9 : List Row
row_9 =
    (Alone (Alu Sub reg.B)) ∷ (Alone (Alu Sub reg.C)) ∷ (Alone (Alu Sub reg.D)) ∷ (Alone (Alu Sub reg.E)) ∷
    (Alone (Alu Sub reg.H)) ∷ (Alone (Alu Sub reg.L)) ∷ (Alone (Alu Sub reg.M)) ∷ (Alone (Alu Sub reg.A)) ∷
    (Alone (Alu Sbb reg.B)) ∷ (Alone (Alu Sbb reg.C)) ∷ (Alone (Alu Sbb reg.D)) ∷ (Alone (Alu Sbb reg.E)) ∷
    (Alone (Alu Sbb reg.H)) ∷ (Alone (Alu Sbb reg.L)) ∷ (Alone (Alu Sbb reg.M)) ∷ (Alone (Alu Sbb reg.A)) ∷ []

abbrev pub row_a : List Row
row_a =
    (Alone (Alu Ana reg.B)) ∷ (Alone (Alu Ana reg.C)) ∷ (Alone (Alu Ana reg.D)) ∷ (Alone (Alu Ana reg.E)) ∷
    (Alone (Alu Ana reg.H)) ∷ (Alone (Alu Ana reg.L)) ∷ (Alone (Alu Ana reg.M)) ∷ (Alone (Alu Ana reg.A)) ∷
    (Alone (Alu Xra reg.B)) ∷ (Alone (Alu Xra reg.C)) ∷ (Alone (Alu Xra reg.D)) ∷ (Alone (Alu Xra reg.E)) ∷
    (Alone (Alu Xra reg.H)) ∷ (Alone (Alu Xra reg.L)) ∷ (Alone (Alu Xra reg.M)) ∷ (Alone (Alu Xra reg.A)) ∷ []

abbrev pub row_b : List Row
row_b =
    (Alone (Alu Ora reg.B)) ∷ (Alone (Alu Ora reg.C)) ∷ (Alone (Alu Ora reg.D)) ∷ (Alone (Alu Ora reg.E)) ∷
    (Alone (Alu Ora reg.H)) ∷ (Alone (Alu Ora reg.L)) ∷ (Alone (Alu Ora reg.M)) ∷ (Alone (Alu Ora reg.A)) ∷
    (Alone (Alu Cmp reg.B)) ∷ (Alone (Alu Cmp reg.C)) ∷ (Alone (Alu Cmp reg.D)) ∷ (Alone (Alu Cmp reg.E)) ∷
    (Alone (Alu Cmp reg.H)) ∷ (Alone (Alu Cmp reg.L)) ∷ (Alone (Alu Cmp reg.M)) ∷ (Alone (Alu Cmp reg.A)) ∷ []

abbrev pub row_c : List Row
row_c =
    (Alone (RetIf cond.NotZero)) ∷ (Alone (Pop stack.B)) ∷ (Word (JumpIf cond.NotZero)) ∷ (Word Jmp) ∷
    (Word (CallIf cond.NotZero)) ∷ (Alone (Push stack.B)) ∷ (Byte (AluImmediate Add)) ∷ (Alone (Rst V0)) ∷
    (Alone (RetIf cond.Zero)) ∷ (Alone Ret) ∷ (Word (JumpIf cond.Zero)) ∷ Undefined ∷
    (Word (CallIf cond.Zero)) ∷ (Word Call) ∷ (Byte (AluImmediate Adc)) ∷ (Alone (Rst V1)) ∷ []

abbrev pub row_d : List Row
row_d =
    (Alone (RetIf cond.NoCarry)) ∷ (Alone (Pop stack.D)) ∷ (Word (JumpIf cond.NoCarry)) ∷ (Byte Out) ∷
    (Word (CallIf cond.NoCarry)) ∷ (Alone (Push stack.D)) ∷ (Byte (AluImmediate Sub)) ∷ (Alone (Rst V2)) ∷
    (Alone (RetIf cond.Carry)) ∷ Undefined ∷ (Word (JumpIf cond.Carry)) ∷ (Byte In) ∷
    (Word (CallIf cond.Carry)) ∷ Undefined ∷ (Byte (AluImmediate Sbb)) ∷ (Alone (Rst V3)) ∷ []

abbrev pub row_e : List Row
row_e =
    (Alone (RetIf cond.ParityOdd)) ∷ (Alone (Pop stack.H)) ∷ (Word (JumpIf cond.ParityOdd)) ∷ (Alone Xthl) ∷
    (Word (CallIf cond.ParityOdd)) ∷ (Alone (Push stack.H)) ∷ (Byte (AluImmediate Ana)) ∷ (Alone (Rst V4)) ∷
    (Alone (RetIf cond.ParityEven)) ∷ (Alone Pchl) ∷ (Word (JumpIf cond.ParityEven)) ∷ (Alone Xchg) ∷
    (Word (CallIf cond.ParityEven)) ∷ Undefined ∷ (Byte (AluImmediate Xra)) ∷ (Alone (Rst V5)) ∷ []

abbrev pub row_f : List Row
row_f =
    (Alone (RetIf cond.Plus)) ∷ (Alone (Pop stack.Psw)) ∷ (Word (JumpIf cond.Plus)) ∷ (Alone Di) ∷
    (Word (CallIf cond.Plus)) ∷ (Alone (Push stack.Psw)) ∷ (Byte (AluImmediate Ora)) ∷ (Alone (Rst V6)) ∷
    (Alone (RetIf cond.Minus)) ∷ (Alone Sphl) ∷ (Word (JumpIf cond.Minus)) ∷ (Alone Ei) ∷
    (Word (CallIf cond.Minus)) ∷ Undefined ∷ (Byte (AluImmediate Cmp)) ∷ (Alone (Rst V7)) ∷ []

-- rows 00 to FF
abbrev pub rows : List Row
rows = row_0 ++ row_1 ++ row_2 ++ row_3 ++ row_4 ++ row_5 ++ row_6 ++ row_7 ++ row_8 ++ row_9 ++ row_a
    ++ row_b ++ row_c ++ row_d ++ row_e ++ row_f

unfoldable pub row : ℕ → Row
row opcode = slice_index_or rows opcode Undefined

-- no instruction has this row's opcode
abbrev pub is_undefined : Row → Bool
is_undefined Undefined = true
is_undefined _ = false

-- what bytes after an opcode of this row read as: the instruction and its length; words stand low byte first
abbrev pub read_row : Row → List ℕ → Result (Instr × ℕ) DecodeFault
read_row Undefined rest = Err fault.Undefined
read_row (Alone i) rest = Ok (i, 1)
read_row (Byte f) [] = Err (fault.Short 2)
read_row (Byte f) (b ∷ rest) = Ok (f b, 2)
read_row (Word f) [] = Err (fault.Short 3)
read_row (Word f) (low ∷ []) = Err (fault.Short 3)
read_row (Word f) (low ∷ (high ∷ rest)) = Ok (f (low + 256 * high), 3)

-- what bytes begin with
abbrev pub first_instruction : List ℕ → Result (Instr × ℕ) DecodeFault
first_instruction [] = Err (fault.Short 1)
first_instruction (opcode ∷ rest) = read_row (row opcode) rest
