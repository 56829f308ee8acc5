-- What a line says (8080/8085 Assembly Language Programming Manual, chapter 2): a label, an
-- operation with operands, or a name with EQU or SET, each part optional; or what is wrong with it:
-- characters, numbers and strings first, then words that can't stand where they do, then operands
-- that don't fit, then expressions that are too deep.
use Rattle.std.specs.Prelude.{ℕ, List, [], ◌∷◌, Bool, Option, Some, None, Result, Ok, Err}
use Rattle.std.specs.Prelude.{if◌then◌else◌, is_some}
use Rattle.asm_syntax.specs.declared.fault.FaultKind.TheVariants.{Name, Mnemonic, Operands}
use Rattle.asm_syntax.specs.declared.keyword.Keyword.TheVariants as keyword
use Rattle.asm_syntax.specs.declared.keyword.Directive.TheVariants as directive
use Rattle.asm_syntax.specs.declared.statement.Label.{Label}
use Rattle.asm_syntax.specs.declared.statement.Action.{Action}
use Rattle.asm_syntax.specs.declared.statement.Action.TheVariants as action
use Rattle.asm_syntax.specs.declared.statement.Operand.{Operand}
use Rattle.asm_syntax.specs.declared.statement.Operation.{Operation}
use Rattle.asm_syntax.specs.declared.statement.Statement.{Statement}
use Rattle.asm_syntax.specs.Ascii.{colon}
use Rattle.asm_syntax.specs.Lexemes as lexeme
use Rattle.asm_syntax.specs.Lexemes.{Lexeme, Piece}
use Rattle.asm_syntax.specs.Outcome.{Fault, ◌>>=◌}
use Rattle.asm_lex.specs.Tokens.{tokens_of}
use Rattle.asm_lex.specs.Operators.{is_sign}
use Rattle.asm_lex.specs.Words.{misplaced_word}
use Rattle.asm_text.specs.declared.lines.Definition.{Definition}
use Rattle.asm_text.specs.declared.lines.Definition.TheVariants as definition
use Rattle.asm_text.specs.Forms.{instruction_of, directive_of, only_expression}

-- ---- the label

-- a word that stands where a name must: it is one, or can't be
abbrev pub name_at : ℕ → Lexeme → Result (Option Label) Fault
name_at column (lexeme.Name x) = Ok (Some (record { column = column; name = x }))
name_at column (lexeme.Keyword k) = Err (column, Name)
name_at column lexeme.Overlong = Err (column, Name)
name_at column _ = Ok None

-- a label and the rest, or no label and all pieces
abbrev pub after_label : List Piece → List Piece → Option Label → Option Label × List Piece
after_label all rest None = (None, all)
after_label all rest (Some l) = (Some l, rest)

-- the label of a line, and what stands after it
unfoldable pub label_at : List Piece → Result (Option Label × List Piece) Fault
label_at (p ∷ q ∷ rest) =
    if is_sign colon q.1
    then (do
      l ← name_at p.0 p.1
      Ok (after_label (p ∷ q ∷ rest) rest l))
    else Ok (None, p ∷ q ∷ rest)
label_at ps = Ok (None, ps)

-- ---- the operation

-- pieces, unless a word at this column is misplaced
abbrev pub unless_misplaced : List Piece → Option ℕ → Result (List Piece) Fault
unless_misplaced ps None = Ok ps
unless_misplaced ps (Some column) = Err (column, Name)

-- pieces in which each word may stand where it does
abbrev pub placed_well : List Piece → Result (List Piece) Fault
placed_well ps = unless_misplaced ps (misplaced_word ps)

-- EQU or SET
abbrev pub definition_in : Lexeme → Option Definition
definition_in (lexeme.Keyword (keyword.Directive directive.Equate)) = Some definition.Equate
definition_in (lexeme.Keyword (keyword.Directive directive.Set)) = Some definition.Set
definition_in _ = None

-- the definition of a name by an operand
abbrev pub defined_by : Definition → Label → Operand → Action
defined_by definition.Equate x e = action.Equate x e
defined_by definition.Set x e = action.Set x e

-- a name, else Mnemonic
abbrev pub or_mnemonic : ℕ → Option Label → Result Label Fault
or_mnemonic column None = Err (column, Mnemonic)
or_mnemonic column (Some l) = Ok l

-- a label can't stand before EQU and SET
abbrev pub only_operand : Bool → ℕ → List Piece → Result Operand Fault
only_operand is_labelled column ps =
    if is_labelled then Err (column, Operands) else only_expression column ps

-- a name, EQU or SET at this column, and what stands after it
unfoldable pub definition_at : Bool → Piece → ℕ → Definition → List Piece → Result Operation Fault
definition_at is_labelled p column d rest = do
  l ← name_at p.0 p.1
  x ← or_mnemonic p.0 l
  ps ← placed_well rest
  e ← only_operand is_labelled column ps
  Ok (record { column = column; action = defined_by d x e })

-- what the word of an operation says with the operands after it
unfoldable pub action_of : ℕ → Lexeme → List Piece → Result Action Fault
action_of column (lexeme.Keyword (keyword.Mnemonic m)) rest = do
  ps ← placed_well rest
  i ← instruction_of column m ps
  Ok (action.Instruction i)
action_of column (lexeme.Keyword (keyword.Directive d)) rest = do
  ps ← placed_well rest
  directive_of column d ps
action_of column _ rest = Err (column, Mnemonic)

-- an operation by its first piece's word
abbrev pub plain_at : Piece → List Piece → Result Operation Fault
plain_at p rest = do
  a ← action_of p.0 p.1 rest
  Ok (record { column = p.0; action = a })

-- an operation by its second piece, which is EQU, SET or neither
abbrev pub operation_by : Bool → Piece → Piece → List Piece → Option Definition → Result Operation Fault
operation_by is_labelled p q rest None = plain_at p (q ∷ rest)
operation_by is_labelled p q rest (Some d) = definition_at is_labelled p q.0 d rest

-- the operation after a label, or after none
unfoldable pub operation_at : Bool → List Piece → Result (Option Operation) Fault
operation_at is_labelled [] = Ok None
operation_at is_labelled (p ∷ []) = do
  o ← plain_at p []
  Ok (Some o)
operation_at is_labelled (p ∷ q ∷ rest) = do
  o ← operation_by is_labelled p q rest (definition_in q.1)
  Ok (Some o)

-- ---- the line

-- the statement of a line
unfoldable pub line_of : List ℕ → Result Statement Fault
line_of bytes = do
  ps ← tokens_of bytes
  l ← label_at ps
  o ← operation_at (is_some l.0) l.1
  Ok (record { label = l.0; operation = o })
