-- What the lines of a text say, what is wrong with it, and which of several faults is reported
-- (8080/8085 Assembly Language Programming Manual, chapters 2 and 4). END ends the text wherever it is,
-- also in a part that an IF leaves out.
use Rattle.std.specs.Prelude.{◌≡◌, ◌<◌, ◌≤◌, ◌⊎◌, ℕ, ◌+◌, List, [], ◌∷◌, true, false, Option, Some, None}
use Rattle.std.specs.Prelude.{length, MatchBool}
use Rattle.std.specs.Str.Lines.{lines}
use Rattle.asm_syntax.specs.declared.fault.FaultKind.{FaultKind}
use Rattle.asm_syntax.specs.declared.fault.FaultKind.TheVariants as kind
use Rattle.asm_syntax.specs.declared.statement.Action.{Action}
use Rattle.asm_syntax.specs.declared.statement.Action.TheVariants as action
use Rattle.asm_syntax.specs.declared.statement.Operation.{Operation}
use Rattle.asm_syntax.specs.declared.statement.Statement.{Statement}
use Rattle.asm_syntax.specs.Outcome.{Fault, CellFault}
use Rattle.asm_text.specs.declared.open_if.OpenIf.{OpenIf}
use Rattle.asm_text.specs.Conditionals.{with_else}
use Rattle.asm_text.specs.Faults.{StandsOn, StandsFirst, order_in_line}
use Rattle.asm_text.specs.Grammar.{LineSays}
use Rattle.asm_text.specs.Statements.{is_end_action}

-- lines say statements, one for each up to the one with END
abbrev pub LinesSay : List (List ℕ) → List Statement → Type 0
LinesSay [] [] = Unit {0}
LinesSay (l ∷ ls) (s ∷ ss) = LineSays l s × MatchBool (is_end_action s.operation) (ss ≡ []) (LinesSay ls ss)
LinesSay _ _ = ⊥

-- ---- faults of one line

-- a line ends the text
abbrev pub EndsText : List ℕ → Type 0
EndsText l = (s : Statement) × LineSays l s × (is_end_action s.operation ≡ true)

-- a fault stands on one of the lines, of which the first has this number, up to the one with END
abbrev pub LineFault : ℕ → List (List ℕ) → CellFault → Type 0
LineFault n [] g = ⊥
LineFault n (l ∷ ls) g =
    ((g.0 ≡ n) × StandsOn l (g.1, g.2)) ⊎ ((EndsText l → ⊥) × LineFault (n + 1) ls g)

-- ---- faults of IF, ELSE and ENDIF

-- the IFs that are open after an action at this line and column, where these were, the innermost first
abbrev pub open_past : ℕ → ℕ → Action → List OpenIf → List OpenIf
open_past line column (action.If e) os = record { line = line; column = column; has_else = false } ∷ os
open_past line column action.Else (o ∷ os) = with_else o ∷ os
open_past line column action.EndIf (o ∷ os) = os
open_past line column _ os = os

-- and after a statement
abbrev pub left_open : ℕ → Option Operation → List OpenIf → List OpenIf
left_open line None os = os
left_open line (Some o) os = open_past line o.column o.action os

-- ELSE or ENDIF where no IF is open, a second ELSE, an IF where sixteen are open
abbrev pub IsUnmatched : List OpenIf → Action → Type 0
IsUnmatched os (action.If e) = 16 ≤ length os
IsUnmatched [] action.Else = Unit {0}
IsUnmatched (o ∷ os) action.Else = o.has_else ≡ true
IsUnmatched [] action.EndIf = Unit {0}
IsUnmatched os _ = ⊥

-- such a word, at its column
abbrev pub Unmatched : List OpenIf → Option Operation → Fault → Type 0
Unmatched os None f = ⊥
Unmatched os (Some o) f = (f ≡ (o.column, kind.Conditional false)) × IsUnmatched os o.action

-- the innermost IF that is open at the end lacks its ENDIF
abbrev pub Unclosed : List OpenIf → CellFault → Type 0
Unclosed [] g = ⊥
Unclosed (o ∷ os) g = g ≡ (o.line, o.column, kind.Conditional true)

-- such a fault stands on lines, where these IFs are open before them
abbrev pub IfFault : ℕ → List OpenIf → List (List ℕ) → CellFault → Type 0
IfFault n os [] g = Unclosed os g
IfFault n os (l ∷ ls) g =
    (s : Statement) × LineSays l s
    × (((g.0 ≡ n) × Unmatched os s.operation (g.1, g.2))
    ⊎ MatchBool (is_end_action s.operation) (Unclosed (left_open n s.operation os) g)
    (IfFault (n + 1) (left_open n s.operation os) ls g))

-- ---- texts

-- more bytes or lines than a cell has
abbrev pub IsTooLong : List ℕ → Type 0
IsTooLong text = (1048576 < length text) ⊎ (65537 < length (lines text))

-- a fault stands in a text
abbrev pub StandsInText : List ℕ → CellFault → Type 0
StandsInText text g =
    (IsTooLong text × (g ≡ (1, 1, kind.TooLong)))
    ⊎ (LineFault 1 (lines text) g ⊎ IfFault 1 [] (lines text) g)

-- first that the text is too long, last that an IF lacks its ENDIF; else line by line
abbrev pub stage : FaultKind → ℕ
stage kind.TooLong = 0
stage (kind.Conditional true) = 2
stage _ = 1

-- where a fault comes: stage, line, and where it does in its line
abbrev pub order : CellFault → List ℕ
order g = stage g.2 ∷ g.0 ∷ order_in_line (g.1, g.2)

-- a text's fault: it stands, and comes before each other that does
abbrev pub IsFaultOf : List ℕ → CellFault → Type 0
IsFaultOf text g = StandsFirst order (StandsInText text) g
