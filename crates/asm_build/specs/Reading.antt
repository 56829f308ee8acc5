-- What a consistent reading of a cell is: a condition, however it is found.
use Rattle.std.specs.Prelude.{◌≡◌, ℕ, ◌+◌, ◌%◌, List, [], ◌∷◌, Bool, true, false, not, ◌&&◌, ◌==◌, Option}
use Rattle.std.specs.Prelude.{Some, None, Ok, if◌then◌else◌}
use Rattle.std.specs.Str.{bytes_eq}
use Rattle.std.specs.List.{list_all, list_any}
use Rattle.std.specs.Map.{lookup}
use Rattle.asm_expr.specs.Value.{value_of}
use Rattle.asm_syntax.specs.declared.statement.Label.{Label}
use Rattle.asm_syntax.specs.declared.statement.Operand.{Operand}
use Rattle.asm_syntax.specs.declared.statement.Action.{Action}
use Rattle.asm_syntax.specs.declared.statement.Action.TheVariants as action
use Rattle.asm_syntax.specs.declared.statement.Statement.{Statement}
use Rattle.asm_encode.specs.Lengths.{length_of}
use Rattle.asm_build.specs.declared.symbols.SymbolKind.{SymbolKind}
use Rattle.asm_build.specs.declared.symbols.SymbolKind.TheVariants as kind
use Rattle.asm_build.specs.declared.symbols.Symbol.{Symbol}
use Rattle.asm_build.specs.declared.laid.Laid.{Laid}
use Rattle.asm_build.specs.Statements.{on_action, is_end, definition_of, is_set, early_in}

-- names with their values
abbrev pub Entries : Type 0
Entries = List (List ℕ × Symbol)

-- the symbol of a name
abbrev pub symbol_at : Entries → List ℕ → Option Symbol
symbol_at es x = lookup (bytes_eq x) es

-- statements and how each is laid out, the latest first
abbrev pub Lines : Type 0
Lines = List (Statement × Laid)

-- the first of two, else the second
abbrev pub or_else : {A : Type 0} → Option A → Option A → Option A
or_else (Some v) o = Some v
or_else None o = o

-- a symbol's value
abbrev pub value_in : Option Symbol → Option ℕ
value_in None = None
value_in (Some d) = Some d.value

-- ---- names

-- a label has its place modulo 65,536 as its value, an EQU or SET name its operand
abbrev pub given_as : SymbolKind → Laid → Symbol
given_as kind.Label r = record { value = r.place % 65536; kind = kind.Label }
given_as kind.Equ r = record { value = r.value; kind = kind.Equ }
given_as kind.Set r = record { value = r.value; kind = kind.Set }

-- what a definition gives this name
abbrev pub given_by : Option (Label × SymbolKind) → Laid → List ℕ → Option Symbol
given_by None r x = None
given_by (Some d) r x = if bytes_eq x d.0.name then Some (given_as d.1 r) else None

-- what a line defines a name as: only assembled lines define
abbrev pub defined_on : Statement × Laid → List ℕ → Option Symbol
defined_on p x = if p.1.is_assembled then given_by (definition_of p.0) p.1 x else None

-- the latest definition of a name
abbrev pub last_definition : Lines → List ℕ → Option Symbol
last_definition [] x = None
last_definition (p ∷ ps) x = or_else (defined_on p x) (last_definition ps x)

-- a symbol, where a SET defined it
abbrev pub only_set : Option Symbol → Option Symbol
only_set None = None
only_set (Some d) = if is_set d.kind then Some d else None

-- the latest SET of a name
abbrev pub last_set : Lines → List ℕ → Option Symbol
last_set [] x = None
last_set (p ∷ ps) x = or_else (only_set (defined_on p x)) (last_set ps x)

-- for ORG, DS, EQU, SET and IF: the definition earlier in the cell, else what was kept
abbrev pub early_value : Entries → Lines → List ℕ → Option ℕ
early_value kept earlier x = value_in (or_else (last_definition earlier x) (symbol_at kept x))

-- for any other operand: what a label or an EQU of the cell gives, wherever it stands; of a SET
-- name the latest SET, else what was kept
abbrev pub late_symbol : Option Symbol → Option Symbol → Option Symbol → Option Symbol
late_symbol None set was = was
late_symbol (Some d) set was = if is_set d.kind then or_else set was else Some d

-- the value of a name for an operand after these lines of the cell
abbrev pub late_value : Entries → Lines → Lines → List ℕ → Option ℕ
late_value kept all earlier x =
    value_in (late_symbol (last_definition all x) (last_set earlier x) (symbol_at kept x))

-- ---- places

-- the place after an action
abbrev pub place_past : Laid → Action → ℕ
place_past r (action.Origin o) = r.value
place_past r a = r.place + length_of a r.value

-- the place after a statement
abbrev pub next_place : Statement × Laid → ℕ
next_place p = if p.1.is_assembled then on_action (place_past p.1) p.1.place p.0 else p.1.place

-- the place of a statement after these
abbrev pub place_after : Lines → ℕ
place_after [] = 0
place_after (p ∷ ps) = next_place p

-- ---- parts: for each open IF whether this is its selected part, the innermost first

-- an ELSE switches the innermost IF to its other part
abbrev pub switch_innermost : List Bool → List Bool
switch_innermost [] = []
switch_innermost (b ∷ bs) = not b ∷ bs

-- the parts around the innermost IF
abbrev pub outer : List Bool → List Bool
outer [] = []
outer (b ∷ bs) = bs

-- the parts after an action
abbrev pub parts_past : List Bool → ℕ → Action → List Bool
parts_past parts value (action.If o) = not (value == 0) ∷ parts
parts_past parts value action.Else = switch_innermost parts
parts_past parts value action.EndIf = outer parts
parts_past parts value _ = parts

-- the parts after these lines
abbrev pub parts_after : Lines → List Bool
parts_after [] = []
parts_after (p ∷ ps) = on_action (parts_past (parts_after ps) p.1.value) (parts_after ps) p.0

-- an ELSE or ENDIF is outside of its own IF
abbrev pub parts_around : List Bool → Action → List Bool
parts_around parts action.Else = outer parts
parts_around parts action.EndIf = outer parts
parts_around parts _ = parts

-- one of these lines has END
abbrev pub has_ended : Lines → Bool
has_ended ps = list_any (λ p. on_action is_end false p.0) ps

-- a statement is assembled: no END came before it, and each IF selects the part that it is in
abbrev pub is_selected : Bool → List Bool → Statement → Bool
is_selected ended parts s = not ended && list_all (λ b. b) (on_action (parts_around parts) parts s)

-- ---- readings

-- the value of an early operand, 0 where there is none
abbrev pub EarlyIs : Entries → Lines → Laid → Option Operand → Type 0
EarlyIs kept earlier r None = r.value ≡ 0
EarlyIs kept earlier r (Some o) =
    value_of (early_value kept earlier) (r.place % 65536) o.expr ≡ Ok r.value

-- the same of an assembled statement; any other has the value 0
abbrev pub ValueIs : Entries → Lines → Laid → Option Operand → Bool → Type 0
ValueIs kept earlier r o true = EarlyIs kept earlier r o
ValueIs kept earlier r o false = r.value ≡ 0

-- a statement is laid out so after these lines
pub record Fits (kept : Entries) (earlier : Lines) (s : Statement) (r : Laid) : Type 0 where
  pub place : r.place ≡ place_after earlier
  pub assembled : r.is_assembled ≡ is_selected (has_ended earlier) (parts_after earlier) s
  pub value : ValueIs kept earlier r (on_action early_in None s) r.is_assembled

-- the statements, each laid out as it fits after those before it, give these lines
abbrev pub LaysOut : Entries → Lines → List Statement → Lines → Type 0
LaysOut kept earlier [] lines = lines ≡ earlier
LaysOut kept earlier (s ∷ ss) lines =
    (r : Laid) × Fits kept earlier s r × LaysOut kept ((s, r) ∷ earlier) ss lines

-- the lines are a consistent reading of the statements over the symbols that were kept
abbrev pub IsReading : Entries → List Statement → Lines → Type 0
IsReading kept ss lines = LaysOut kept [] ss lines
