-- What a statement says by itself (8080/8085 Assembly Language Programming Manual, chapters 2
-- and 4).
use Rattle.std.specs.Prelude.{ℕ, List, [], ◌∷◌, Bool, true, false, Option, Some, None}
use Rattle.std.specs.Option.{option_map_or}
use Rattle.std.specs.List.{flat_map}
use Rattle.asm_expr.specs.Tree.{names_of}
use Rattle.asm_syntax.specs.declared.statement.Operand.{Operand}
use Rattle.asm_syntax.specs.declared.statement.Label.{Label}
use Rattle.asm_syntax.specs.declared.statement.Instruction.{Instruction}
use Rattle.asm_syntax.specs.declared.statement.Instruction.TheVariants as instruction
use Rattle.asm_syntax.specs.declared.statement.Data.{Data}
use Rattle.asm_syntax.specs.declared.statement.Data.TheVariants as datum
use Rattle.asm_syntax.specs.declared.statement.Action.{Action}
use Rattle.asm_syntax.specs.declared.statement.Action.TheVariants as action
use Rattle.asm_syntax.specs.declared.statement.Statement.{Statement}
use Rattle.asm_build.specs.declared.symbols.SymbolKind.{SymbolKind}
use Rattle.asm_build.specs.declared.symbols.SymbolKind.TheVariants as kind

-- what an action says, and what is said where a line has none
abbrev pub on_action : {A : Type 0} → (Action → A) → A → Statement → A
on_action f none s = option_map_or (λ o. f o.action) s.operation none

-- END
abbrev pub is_end : Action → Bool
is_end (action.End o) = true
is_end _ = false

-- ---- names

-- a label's name
abbrev pub as_label : Option Label → Option (Label × SymbolKind)
as_label None = None
as_label (Some l) = Some (l, kind.Label)

-- what an action defines: EQU and SET their name, any other what its label defines
abbrev pub defined_by_action : Option Label → Action → Option (Label × SymbolKind)
defined_by_action label (action.Equate l o) = Some (l, kind.Equ)
defined_by_action label (action.Set l o) = Some (l, kind.Set)
defined_by_action label _ = as_label label

-- the name that a statement defines, and as what
abbrev pub definition_of : Statement → Option (Label × SymbolKind)
definition_of s = on_action (defined_by_action s.label) (as_label s.label) s

-- SET
abbrev pub is_set : SymbolKind → Bool
is_set kind.Set = true
is_set kind.Label = false
is_set kind.Equ = false

-- ---- operands

-- the operand that the layout needs: of ORG, DS, EQU, SET and IF
abbrev pub early_in : Action → Option Operand
early_in (action.Origin o) = Some o
early_in (action.Space o) = Some o
early_in (action.Equate l o) = Some o
early_in (action.Set l o) = Some o
early_in (action.If o) = Some o
early_in _ = None

-- the operand of an instruction, if it has one
abbrev pub operands_in_instruction : Instruction → List Operand
operands_in_instruction (instruction.Alone i) = []
operands_in_instruction (instruction.Byte op o) = o ∷ []
operands_in_instruction (instruction.Word op o) = o ∷ []
operands_in_instruction (instruction.Restart o) = o ∷ []

-- the operands of DB that are no strings
abbrev pub operands_in_data : List Data → List Operand
operands_in_data [] = []
operands_in_data (datum.Text t ∷ ds) = operands_in_data ds
operands_in_data (datum.Byte o ∷ ds) = o ∷ operands_in_data ds

-- those whose values only the bytes and the start need
abbrev pub late_in : Action → List Operand
late_in (action.Instruction i) = operands_in_instruction i
late_in (action.Bytes ds) = operands_in_data ds
late_in (action.Words os) = os
late_in (action.End (Some o)) = o ∷ []
late_in _ = []

-- the names in operands
abbrev pub names_in : List Operand → List (List ℕ)
names_in os = flat_map (λ o. names_of o.expr) os

-- the names in an operand of DB
abbrev pub names_in_datum : Data → List (List ℕ)
names_in_datum (datum.Text t) = []
names_in_datum (datum.Byte o) = names_of o.expr

-- the names in an early operand
abbrev pub names_in_early : Option Operand → List (List ℕ)
names_in_early None = []
names_in_early (Some o) = names_of o.expr
