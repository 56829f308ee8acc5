-- The bytes of an action, where names have these values and `$` is here.
use Rattle.std.specs.Prelude.{ℕ, ◌/◌, ◌%◌, List, [], ◌∷◌, ◌++◌, Option, Some, Result, Ok}
use Rattle.i80_base.specs.declared.instruction.Instr.TheVariants.{Rst}
use Rattle.i80_rows.specs.Encoding.{encoding_of}
use Rattle.i80_base.specs.Instructions.{byte_instruction, word_instruction}
use Rattle.asm_syntax.specs.declared.statement.Operand.{Operand}
use Rattle.asm_syntax.specs.declared.statement.Instruction.{Instruction}
use Rattle.asm_syntax.specs.declared.statement.Instruction.TheVariants as instruction
use Rattle.asm_syntax.specs.declared.statement.Data.{Data}
use Rattle.asm_syntax.specs.declared.statement.Data.TheVariants as datum
use Rattle.asm_syntax.specs.declared.statement.Action.{Action}
use Rattle.asm_syntax.specs.declared.statement.Action.TheVariants as action
use Rattle.asm_syntax.specs.Outcome.{Fault, ◌>>=◌}
use Rattle.asm_encode.specs.Values as value

-- the bytes of each in turn, up to the first fault
abbrev pub all_bytes : {A : Type 0} → (A → Result (List ℕ) Fault) → List A → Result (List ℕ) Fault
all_bytes f [] = Ok []
all_bytes f (x ∷ xs) = do
  bs ← f x
  more ← all_bytes f xs
  Ok (bs ++ more)

-- bytes after those that are there
abbrev pub append_to : List ℕ → Result (List ℕ) Fault → Result (List ℕ) Fault
append_to front r = do
  bs ← r
  Ok (front ++ bs)

module _ (names : List ℕ → Option ℕ) (here : ℕ) where
  -- an instruction's bytes
  abbrev pub instruction_bytes : Instruction → Result (List ℕ) Fault
  instruction_bytes (instruction.Alone i) = Ok (encoding_of i)
  instruction_bytes (instruction.Byte op o) = do
    b ← value.byte names here o
    Ok (encoding_of (byte_instruction op b))
  instruction_bytes (instruction.Word op o) = do
    w ← value.number names here o
    Ok (encoding_of (word_instruction op w))
  instruction_bytes (instruction.Restart o) = do
    n ← value.restart names here o
    Ok (encoding_of (Rst n))

  -- an operand of DB
  abbrev pub datum_bytes : Data → Result (List ℕ) Fault
  datum_bytes (datum.Text t) = Ok t
  datum_bytes (datum.Byte o) = do
    b ← value.byte names here o
    Ok (b ∷ [])

  -- an operand of DW, low byte first
  abbrev pub word_bytes : Operand → Result (List ℕ) Fault
  word_bytes o = do
    w ← value.number names here o
    Ok (w % 256 ∷ (w / 256 ∷ []))

  -- an action's bytes
  abbrev pub bytes_of : Action → Result (List ℕ) Fault
  bytes_of (action.Instruction i) = instruction_bytes i
  bytes_of (action.Bytes ds) = all_bytes datum_bytes ds
  bytes_of (action.Words os) = all_bytes word_bytes os
  bytes_of _ = Ok []

  -- END's operand is the start
  abbrev pub start_of : Option ℕ → Action → Result (Option ℕ) Fault
  start_of before (action.End (Some o)) = do
    v ← value.number names here o
    Ok (Some v)
  start_of before _ = Ok before
