-- What is wrong with a line (8080/8085 Assembly Language Programming Manual, chapters 2 to 4): for
-- each fault, what is at the column that it names, and which of several faults is reported.
use Rattle.std.specs.Prelude.{◌≡◌, ◌<◌, ◌⊎◌, ℕ, List, [], ◌∷◌, ◌++◌, Bool, true, Option, Some, None, is_some}
use Rattle.asm_expr.specs.Tree.{Tree, depth_of}
use Rattle.asm_syntax.specs.declared.fault.FaultKind.{FaultKind}
use Rattle.asm_syntax.specs.declared.fault.FaultKind.TheVariants as kind
use Rattle.asm_syntax.specs.declared.keyword.Keyword.TheVariants as keyword
use Rattle.asm_syntax.specs.declared.statement.Action.{Action}
use Rattle.asm_syntax.specs.declared.statement.Operand.{Operand}
use Rattle.asm_syntax.specs.Lexemes.{Lexeme, Piece, Name, Keyword, Overlong}
use Rattle.asm_syntax.specs.Outcome.{Fault, ComesBefore}
use Rattle.asm_lex.specs.Spelling.{Spells, Breaks}
use Rattle.asm_lex.specs.Climb.{first_column}
use Rattle.asm_lex.specs.Commas.{is_comma}
use Rattle.asm_lex.specs.Reading.{IsTreeOf}
use Rattle.asm_lex.specs.Words.{leads, is_misplaced}
use Rattle.asm_text.specs.Fields.{Field, Empty, Defines, Does, operands_in, operand_pieces}
use Rattle.asm_text.specs.Fields.{label_of, operation_of}
use Rattle.asm_text.specs.Grammar.{Only, Tells, ActionSays}

-- ---- words

-- where a name must stand: a word that can't be one is Name, what is no word is Mnemonic
abbrev pub IsNoName : Lexeme → FaultKind → Type 0
IsNoName (Name x) k = ⊥
IsNoName (Keyword w) k = k ≡ kind.Name
IsNoName Overlong k = k ≡ kind.Name
IsNoName _ k = k ≡ kind.Mnemonic

-- what is neither a mnemonic nor a directive
abbrev pub IsNoOperation : Lexeme → Type 0
IsNoOperation (Keyword (keyword.Mnemonic m)) = ⊥
IsNoOperation (Keyword (keyword.Directive d)) = ⊥
IsNoOperation _ = Unit {0}

-- whether the last of some pieces passes; if there are none, this
abbrev pub ends_with : (Lexeme → Bool) → Bool → List Piece → Bool
ends_with test none [] = none
ends_with test none (p ∷ ps) = ends_with test (test p.1) ps

-- among the operands' pieces a word at this column can't stand where it does: after a comma an
-- operand begins, and after what leads to one an atom
abbrev pub IsMisplaced : List Piece → ℕ → Type 0
IsMisplaced ps column =
    (before : List Piece) × (p : Piece) × (after : List Piece)
    × (ps ≡ before ++ (p ∷ after)) × (column ≡ p.0)
    × (is_misplaced (ends_with is_comma true before) (ends_with leads true before) p.1 after ≡ true)

-- what should be a label
abbrev pub WrongLabel : Option Piece → Fault → Type 0
WrongLabel None f = ⊥
WrongLabel (Some p) f = (f.0 ≡ p.0) × IsNoName p.1 f.1

-- what should be a name or an operation
abbrev pub WrongHead : Field → Fault → Type 0
WrongHead Empty f = ⊥
WrongHead (Defines p column d rest) f = (f.0 ≡ p.0) × IsNoName p.1 f.1
WrongHead (Does p rest) f = (f ≡ (p.0, kind.Mnemonic)) × IsNoOperation p.1

-- a word of the operands' that can't stand where it does
abbrev pub WrongWord : List Piece → Fault → Type 0
WrongWord ps f = (f.1 ≡ kind.Name) × IsMisplaced ps f.0

-- ---- operands

-- operands that an operation, at the column of its word, doesn't have
abbrev pub WrongOperands : Bool → Field → Fault → Type 0
WrongOperands labelled Empty f = ⊥
WrongOperands labelled (Defines p column d rest) f =
    (f ≡ (column, kind.Operands))
    × ((labelled ≡ true) ⊎ ((e : Operand) → Only (Tells e) (operands_in (Defines p column d rest)) → ⊥))
WrongOperands labelled (Does p rest) f =
    (f ≡ (p.0, kind.Operands)) × (IsNoOperation p.1 → ⊥)
    × ((a : Action) → ActionSays p.1 (operands_in (Does p rest)) a → ⊥)

-- an operand that begins at this column is an expression deeper than 64
abbrev pub IsDeep : List (List Piece) → ℕ → Type 0
IsDeep [] column = ⊥
IsDeep (o ∷ os) column =
    ((column ≡ first_column o) × (t : Tree) × IsTreeOf t o × (64 < depth_of t)) ⊎ IsDeep os column

-- an expression that is too deep
abbrev pub WrongDepth : List (List Piece) → Fault → Type 0
WrongDepth os f = (f.1 ≡ kind.Nesting) × IsDeep os f.0

-- ---- lines

-- a fault stands after a label or after none
abbrev pub StandsAfter : Bool → Field → Fault → Type 0
StandsAfter labelled field f =
    WrongHead field f ⊎ (WrongWord (operand_pieces field) f
    ⊎ (WrongOperands labelled field f ⊎ WrongDepth (operands_in field) f))

-- in a line's pieces
abbrev pub StandsIn : List Piece → Fault → Type 0
StandsIn ps f = WrongLabel (label_of ps) f ⊎ StandsAfter (is_some (label_of ps)) (operation_of ps) f

-- and in a line: its text breaks there, or is pieces in which it stands
abbrev pub StandsOn : List ℕ → Fault → Type 0
StandsOn line f = Breaks 1 line f ⊎ ((ps : List Piece) × Spells 1 ps line × StandsIn ps f)

-- in a line characters, numbers and strings come first, then words, operands, depth, IFs
abbrev pub rank : FaultKind → ℕ
rank kind.Name = 1
rank kind.Mnemonic = 1
rank kind.Operands = 2
rank kind.Nesting = 3
rank (kind.Conditional e) = 4
rank _ = 0

-- and of one rank the leftmost: this is where a fault comes in its line
abbrev pub order_in_line : Fault → List ℕ
order_in_line f = rank f.1 ∷ f.0 ∷ []

-- what is so and comes before all others that are, in this order
abbrev pub StandsFirst : {F : Type 0} → (F → List ℕ) → (F → Type 0) → F → Type 0
StandsFirst {F} order represents f =
    represents f × ((g : F) → represents g → (g ≡ f) ⊎ ComesBefore (order f) (order g))

-- a fault that stands and comes before each other one of its line
abbrev pub IsFirst : (Fault → Type 0) → Fault → Type 0
IsFirst represents f = StandsFirst order_in_line represents f
