-- What operations say with their operands (8080/8085 Assembly Language Programming Manual, chapters 3
-- and 4): each mnemonic and directive has one form, and other operands don't fit it.
use Rattle.std.specs.Prelude.{ℕ, List, [], ◌∷◌, Bool, Option, Some, None, Result, Ok, Err, if◌then◌else◌}
use Rattle.std.specs.Prelude.{◌||◌, is_some, option_and_then}
use Rattle.std.specs.List.{list_all}
use Rattle.i80_base.specs.declared.instruction.Instr.{Instr}
use Rattle.i80_base.specs.declared.instruction.Instr.TheVariants as instr
use Rattle.i80_base.specs.declared.instruction.Reg.{Reg}
use Rattle.i80_base.specs.declared.instruction.Register.{Register}
use Rattle.i80_base.specs.declared.instruction.Pair.{Pair}
use Rattle.i80_base.specs.declared.instruction.IndexPair.{IndexPair}
use Rattle.i80_base.specs.declared.instruction.StackPair.{StackPair}
use Rattle.asm_syntax.specs.declared.fault.FaultKind.TheVariants.{Operands}
use Rattle.asm_syntax.specs.declared.keyword.RegisterWord.{RegisterWord}
use Rattle.asm_syntax.specs.declared.keyword.RegisterOperation.{RegisterOperation}
use Rattle.asm_syntax.specs.declared.keyword.RegisterOperation.TheVariants as register_op
use Rattle.asm_syntax.specs.declared.keyword.PairOperation.{PairOperation}
use Rattle.asm_syntax.specs.declared.keyword.PairOperation.TheVariants as pair_op
use Rattle.asm_syntax.specs.declared.keyword.IndexOperation.{IndexOperation}
use Rattle.asm_syntax.specs.declared.keyword.IndexOperation.TheVariants as index_op
use Rattle.asm_syntax.specs.declared.keyword.StackOperation.{StackOperation}
use Rattle.asm_syntax.specs.declared.keyword.StackOperation.TheVariants as stack_op
use Rattle.asm_syntax.specs.declared.keyword.Mnemonic.{Mnemonic}
use Rattle.asm_syntax.specs.declared.keyword.Mnemonic.TheVariants as mnemonic
use Rattle.asm_syntax.specs.declared.keyword.Directive.{Directive}
use Rattle.asm_syntax.specs.declared.keyword.Directive.TheVariants as directive
use Rattle.asm_syntax.specs.declared.statement.Data.{Data}
use Rattle.asm_syntax.specs.declared.statement.Data.TheVariants as data_of_bytes
use Rattle.i80_base.specs.declared.instruction.ByteOperation.TheVariants.{Mvi}
use Rattle.i80_base.specs.declared.instruction.WordOperation.TheVariants.{Lxi}
use Rattle.asm_syntax.specs.declared.statement.Instruction.{Instruction}
use Rattle.asm_syntax.specs.declared.statement.Instruction.TheVariants as instruction
use Rattle.asm_syntax.specs.declared.statement.Operand.{Operand}
use Rattle.asm_syntax.specs.declared.statement.Action.{Action}
use Rattle.asm_syntax.specs.declared.statement.Action.TheVariants as action
use Rattle.asm_syntax.specs.Lexemes.{Piece}
use Rattle.asm_syntax.specs.Outcome.{Fault, ◌>>=◌}
use Rattle.asm_lex.specs.Commas.{split_commas, single, pair, register_of, text_of}
use Rattle.asm_lex.specs.Shape.{is_expression}
use Rattle.asm_lex.specs.Climb.{expression}
use Rattle.asm_text.specs.Registers as word

-- a value that fits, or the fault of an operation at this column
abbrev pub fitting : {A : Type 0} → ℕ → Option A → Result A Fault
fitting column None = Err (column, Operands)
fitting column (Some x) = Ok x

-- a value, where no operand stands after the operation
abbrev pub no_operand : {A : Type 0} → ℕ → A → List Piece → Result A Fault
no_operand column x [] = Ok x
no_operand column x (p ∷ ps) = Err (column, Operands)

-- the only operand
abbrev pub one_operand : ℕ → List Piece → Result (List Piece) Fault
one_operand column ps = fitting column (single (split_commas ps))

-- both operands
abbrev pub two_operands : ℕ → List Piece → Result (List Piece × List Piece) Fault
two_operands column ps = fitting column (pair (split_commas ps))

-- the expression that an operation's only operand is
abbrev pub only_expression : ℕ → List Piece → Result Operand Fault
only_expression column ps = do
  o ← one_operand column ps
  expression column o

-- an operand that is a word which stands for something here
abbrev pub named_by : {A : Type 0} → ℕ → (RegisterWord → Option A) → List Piece → Result A Fault
named_by column meaning o = fitting column (option_and_then meaning (register_of o))

-- what the word stands for here that an operation's only operand is
abbrev pub only_named : {A : Type 0} → ℕ → (RegisterWord → Option A) → List Piece → Result A Fault
only_named column meaning ps = do
  o ← one_operand column ps
  named_by column meaning o

-- ---- instructions

-- an operation on a register or M
abbrev pub register_instruction : RegisterOperation → Reg → Instr
register_instruction register_op.Increment r = instr.Inr r
register_instruction register_op.Decrement r = instr.Dcr r
register_instruction (register_op.Alu op) r = instr.Alu op r

-- an operation on a pair or SP
abbrev pub pair_instruction : PairOperation → Pair → Instr
pair_instruction pair_op.Increment p = instr.Inx p
pair_instruction pair_op.Decrement p = instr.Dcx p
pair_instruction pair_op.Add p = instr.Dad p

-- an operation at the address that a pair holds
abbrev pub index_instruction : IndexOperation → IndexPair → Instr
index_instruction index_op.Store p = instr.Stax p
index_instruction index_op.Load p = instr.Ldax p

-- an operation on the stack
abbrev pub stack_instruction : StackOperation → StackPair → Instr
stack_instruction stack_op.Push p = instr.Push p
stack_instruction stack_op.Pop p = instr.Pop p

-- MOV to the first from the second, of which one at most is M
abbrev pub move_between : Option Register → Option Register → Option Instr
move_between (Some to) (Some from) = Some (instr.Mov to from)
move_between (Some to) None = Some (instr.MovFromM to)
move_between None (Some from) = Some (instr.MovToM from)
move_between None None = None

-- MOV with these operands
abbrev pub move_of : ℕ → List Piece × List Piece → Result Instr Fault
move_of column p = do
  to ← named_by column word.reg_of p.0
  from ← named_by column word.reg_of p.1
  fitting column (move_between (word.register_of to) (word.register_of from))

-- what a mnemonic says with its operands
unfoldable pub instruction_of : ℕ → Mnemonic → List Piece → Result Instruction Fault
instruction_of column (mnemonic.Alone i) ps = no_operand column (instruction.Alone i) ps
instruction_of column (mnemonic.Register op) ps = do
  r ← only_named column word.reg_of ps
  Ok (instruction.Alone (register_instruction op r))
instruction_of column mnemonic.Move ps = do
  os ← two_operands column ps
  i ← move_of column os
  Ok (instruction.Alone i)
instruction_of column mnemonic.MoveImmediate ps = do
  os ← two_operands column ps
  r ← named_by column word.reg_of os.0
  e ← expression column os.1
  Ok (instruction.Byte (Mvi r) e)
instruction_of column mnemonic.LoadPair ps = do
  os ← two_operands column ps
  p ← named_by column word.pair_of os.0
  e ← expression column os.1
  Ok (instruction.Word (Lxi p) e)
instruction_of column (mnemonic.Pair op) ps = do
  p ← only_named column word.pair_of ps
  Ok (instruction.Alone (pair_instruction op p))
instruction_of column (mnemonic.Index op) ps = do
  p ← only_named column word.index_of ps
  Ok (instruction.Alone (index_instruction op p))
instruction_of column (mnemonic.Stack op) ps = do
  p ← only_named column word.stack_of ps
  Ok (instruction.Alone (stack_instruction op p))
instruction_of column (mnemonic.Byte op) ps = do
  e ← only_expression column ps
  Ok (instruction.Byte op e)
instruction_of column (mnemonic.Word op) ps = do
  e ← only_expression column ps
  Ok (instruction.Word op e)
instruction_of column mnemonic.Restart ps = do
  e ← only_expression column ps
  Ok (instruction.Restart e)

-- ---- directives

-- an operand of DB: a string alone, or an expression
abbrev pub is_data : List Piece → Bool
is_data o = is_some (text_of o) || is_expression o

-- an operand of DB by its text, if it is one string
abbrev pub data_by : ℕ → List Piece → Option (List ℕ) → Result Data Fault
data_by column o (Some t) = Ok (data_of_bytes.Text t)
data_by column o None = do
  e ← expression column o
  Ok (data_of_bytes.Byte e)

-- what an operand of DB says
abbrev pub data_at : ℕ → List Piece → Result Data Fault
data_at column o = data_by column o (text_of o)

-- each operand's meaning, up to the first fault
unfoldable pub each_of : {A : Type 0} → (List Piece → Result A Fault) → List (List Piece)
    → Result (List A) Fault
each_of f [] = Ok []
each_of f (o ∷ os) = do
  x ← f o
  xs ← each_of f os
  Ok (x ∷ xs)

-- one operand or more, each of which has this form, and what they mean
abbrev pub some_operands : {A : Type 0} → ℕ → (List Piece → Bool) → (List Piece → Result A Fault)
    → List Piece → Result (List A) Fault
some_operands column fits f [] = Err (column, Operands)
some_operands column fits f (p ∷ ps) =
    if list_all fits (split_commas (p ∷ ps))
    then each_of f (split_commas (p ∷ ps))
    else Err (column, Operands)

-- the operand of END, if it has one
abbrev pub end_of : ℕ → List Piece → Result (Option Operand) Fault
end_of column [] = Ok None
end_of column (p ∷ ps) = do
  e ← only_expression column (p ∷ ps)
  Ok (Some e)

-- what a directive without a name before it says
unfoldable pub directive_of : ℕ → Directive → List Piece → Result Action Fault
directive_of column directive.Origin ps = do
  e ← only_expression column ps
  Ok (action.Origin e)
directive_of column directive.Bytes ps = do
  ds ← some_operands column is_data (data_at column) ps
  Ok (action.Bytes ds)
directive_of column directive.Words ps = do
  es ← some_operands column is_expression (expression column) ps
  Ok (action.Words es)
directive_of column directive.Space ps = do
  e ← only_expression column ps
  Ok (action.Space e)
directive_of column directive.Equate ps = Err (column, Operands)
directive_of column directive.Set ps = Err (column, Operands)
directive_of column directive.If ps = do
  e ← only_expression column ps
  Ok (action.If e)
directive_of column directive.Else ps = no_operand column action.Else ps
directive_of column directive.EndIf ps = no_operand column action.EndIf ps
directive_of column directive.End ps = do
  e ← end_of column ps
  Ok (action.End e)
