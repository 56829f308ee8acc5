-- What a line says, as a relation of its fields and its statement (8080/8085 Assembly Language
-- Programming Manual, chapters 2 to 4). How deep its expressions are isn't asked here.
use Rattle.std.specs.Prelude.{◌≡◌, ◌⊎◌, ℕ, List, [], ◌∷◌, Bool, false, Option, Some, None, is_some}
use Rattle.i80_base.specs.declared.instruction.Instr.{Instr}
use Rattle.i80_base.specs.declared.instruction.IndexPair.{IndexPair}
use Rattle.i80_base.specs.declared.instruction.Pair.{Pair}
use Rattle.i80_base.specs.declared.instruction.Reg.{Reg}
use Rattle.i80_base.specs.declared.instruction.StackPair.{StackPair}
use Rattle.asm_syntax.specs.declared.keyword.Directive.{Directive}
use Rattle.asm_syntax.specs.declared.keyword.Directive.TheVariants as directive
use Rattle.asm_syntax.specs.declared.keyword.Keyword.TheVariants as keyword
use Rattle.asm_syntax.specs.declared.keyword.Mnemonic.{Mnemonic}
use Rattle.asm_syntax.specs.declared.keyword.Mnemonic.TheVariants as mnemonic
use Rattle.asm_syntax.specs.declared.keyword.RegisterWord.{RegisterWord}
use Rattle.asm_syntax.specs.declared.statement.Action.{Action}
use Rattle.asm_syntax.specs.declared.statement.Action.TheVariants as action
use Rattle.i80_base.specs.declared.instruction.ByteOperation.TheVariants.{Mvi}
use Rattle.asm_syntax.specs.declared.statement.Data.{Data}
use Rattle.asm_syntax.specs.declared.statement.Data.TheVariants as datum
use Rattle.asm_syntax.specs.declared.statement.Instruction.{Instruction}
use Rattle.asm_syntax.specs.declared.statement.Instruction.TheVariants as instruction
use Rattle.asm_syntax.specs.declared.statement.Label.{Label}
use Rattle.asm_syntax.specs.declared.statement.Operand.{Operand}
use Rattle.asm_syntax.specs.declared.statement.Operation.{Operation}
use Rattle.asm_syntax.specs.declared.statement.Statement.{Statement}
use Rattle.i80_base.specs.declared.instruction.WordOperation.TheVariants.{Lxi}
use Rattle.asm_syntax.specs.Lexemes.{Lexeme, Piece, Name, Keyword, Text}
use Rattle.asm_lex.specs.Spelling.{Spells}
use Rattle.asm_lex.specs.Climb.{first_column}
use Rattle.asm_lex.specs.Reading.{IsTreeOf}
use Rattle.asm_text.specs.Fields.{Field, Empty, Defines, Does, operands_in, label_of, operation_of}
use Rattle.asm_text.specs.Forms.{register_instruction, pair_instruction, index_instruction}
use Rattle.asm_text.specs.Forms.{stack_instruction, move_between}
use Rattle.asm_text.specs.Lines.{defined_by}
use Rattle.asm_text.specs.Registers as register

-- ---- operands

-- an operand is a word that names this register, pair or code
abbrev pub Names : {A : Type 0} → (RegisterWord → Option A) → A → List Piece → Type 0
Names meaning a o =
    (column : ℕ) × (r : RegisterWord)
    × (o ≡ (column, Keyword (keyword.Register r)) ∷ []) × (meaning r ≡ Some a)

-- an operand is this expression, which begins at this column
abbrev pub Tells : Operand → List Piece → Type 0
Tells e o = (e.column ≡ first_column o) × IsTreeOf e.expr o

-- an operand is one string
abbrev pub IsText : List ℕ → List Piece → Type 0
IsText characters o = (column : ℕ) × (o ≡ (column, Text characters) ∷ [])

-- an operand of DB: a string alone, or an expression
abbrev pub TellsData : Data → List Piece → Type 0
TellsData (datum.Text t) o = IsText t o
TellsData (datum.Byte e) o = Tells e o × ((t : List ℕ) → IsText t o → ⊥)

-- the only operand
abbrev pub Only : (List Piece → Type 0) → List (List Piece) → Type 0
Only says (o ∷ []) = says o
Only says _ = ⊥

-- two operands
abbrev pub Both : (List Piece → Type 0) → (List Piece → Type 0) → List (List Piece) → Type 0
Both says tells (o ∷ p ∷ []) = says o × tells p
Both says tells _ = ⊥

-- each operand by its part of a list
abbrev pub Each : {A : Type 0} → (A → List Piece → Type 0) → List A → List (List Piece) → Type 0
Each says [] [] = Unit {0}
Each says (a ∷ xs) (o ∷ os) = says a o × Each says xs os
Each says _ _ = ⊥

-- ---- operations

-- a mnemonic with its operands says an instruction
abbrev pub InstructionSays : Mnemonic → List (List Piece) → Instruction → Type 0
InstructionSays (mnemonic.Alone i) os said = (os ≡ []) × (said ≡ instruction.Alone i)
InstructionSays (mnemonic.Register op) os said =
    (r : Reg) × Only (Names register.reg_of r) os × (said ≡ instruction.Alone (register_instruction op r))
InstructionSays mnemonic.Move os said =
    (to : Reg) × (from : Reg) × (i : Instr) × Both (Names register.reg_of to) (Names register.reg_of from) os
    × (move_between (register.register_of to) (register.register_of from) ≡ Some i)
    × (said ≡ instruction.Alone i)
InstructionSays mnemonic.MoveImmediate os said =
    (r : Reg) × (e : Operand) × Both (Names register.reg_of r) (Tells e) os
    × (said ≡ instruction.Byte (Mvi r) e)
InstructionSays mnemonic.LoadPair os said =
    (p : Pair) × (e : Operand) × Both (Names register.pair_of p) (Tells e) os
    × (said ≡ instruction.Word (Lxi p) e)
InstructionSays (mnemonic.Pair op) os said =
    (p : Pair) × Only (Names register.pair_of p) os × (said ≡ instruction.Alone (pair_instruction op p))
InstructionSays (mnemonic.Index op) os said =
    (p : IndexPair) × Only (Names register.index_of p) os
    × (said ≡ instruction.Alone (index_instruction op p))
InstructionSays (mnemonic.Stack op) os said =
    (p : StackPair) × Only (Names register.stack_of p) os
    × (said ≡ instruction.Alone (stack_instruction op p))
InstructionSays (mnemonic.Byte op) os said =
    (e : Operand) × Only (Tells e) os × (said ≡ instruction.Byte op e)
InstructionSays (mnemonic.Word op) os said =
    (e : Operand) × Only (Tells e) os × (said ≡ instruction.Word op e)
InstructionSays mnemonic.Restart os said =
    (e : Operand) × Only (Tells e) os × (said ≡ instruction.Restart e)

-- a directive that no name stands before, with its operands, says an action. EQU and SET need a name
abbrev pub DirectiveSays : Directive → List (List Piece) → Action → Type 0
DirectiveSays directive.Origin os said = (e : Operand) × Only (Tells e) os × (said ≡ action.Origin e)
DirectiveSays directive.Bytes os said =
    (ds : List Data) × Each TellsData ds os × (os ≡ [] → ⊥) × (said ≡ action.Bytes ds)
DirectiveSays directive.Words os said =
    (es : List Operand) × Each Tells es os × (os ≡ [] → ⊥) × (said ≡ action.Words es)
DirectiveSays directive.Space os said = (e : Operand) × Only (Tells e) os × (said ≡ action.Space e)
DirectiveSays directive.Equate os said = ⊥
DirectiveSays directive.Set os said = ⊥
DirectiveSays directive.If os said = (e : Operand) × Only (Tells e) os × (said ≡ action.If e)
DirectiveSays directive.Else os said = (os ≡ []) × (said ≡ action.Else)
DirectiveSays directive.EndIf os said = (os ≡ []) × (said ≡ action.EndIf)
DirectiveSays directive.End os said =
    ((os ≡ []) × (said ≡ action.End None))
    ⊎ ((e : Operand) × Only (Tells e) os × (said ≡ action.End (Some e)))

-- the word of an operation with its operands says an action
abbrev pub ActionSays : Lexeme → List (List Piece) → Action → Type 0
ActionSays (Keyword (keyword.Mnemonic m)) os said =
    (i : Instruction) × InstructionSays m os i × (said ≡ action.Instruction i)
ActionSays (Keyword (keyword.Directive d)) os said = DirectiveSays d os said
ActionSays _ os said = ⊥

-- ---- lines

-- a name where one must stand
abbrev pub NameSays : Label → Piece → Type 0
NameSays x p = p ≡ (x.column, Name x.name)

-- a label field says a label
abbrev pub LabelSays : Option Piece → Option Label → Type 0
LabelSays None said = said ≡ None
LabelSays (Some p) said = (x : Label) × NameSays x p × (said ≡ Some x)

-- what stands after a label or after none says an operation. EQU and SET can't bear a label
abbrev pub OperationSays : Bool → Field → Option Operation → Type 0
OperationSays labelled Empty said = said ≡ None
OperationSays labelled (Defines p column d rest) said =
    (x : Label) × (e : Operand) × NameSays x p × (labelled ≡ false)
    × Only (Tells e) (operands_in (Defines p column d rest))
    × (said ≡ Some (record { column = column; action = defined_by d x e }))
OperationSays labelled (Does p rest) said =
    (a : Action) × ActionSays p.1 (operands_in (Does p rest)) a
    × (said ≡ Some (record { column = p.0; action = a }))

-- a line's pieces say a statement
abbrev pub Says : List Piece → Statement → Type 0
Says ps s =
    LabelSays (label_of ps) s.label
    × OperationSays (is_some (label_of ps)) (operation_of ps) s.operation

-- and a line says the statement that the pieces which it spells do
abbrev pub LineSays : List ℕ → Statement → Type 0
LineSays line s = (ps : List Piece) × Spells 1 ps line × Says ps s
