-- IF, ELSE and ENDIF in a text (8080/8085 Assembly Language Programming Manual, chapter 4,
-- "Conditional assembly"): at most sixteen open, one ELSE each, none open at the end.
use Rattle.std.specs.Prelude.{ℕ, List, [], ◌∷◌, true, false, Option, Some, None, Result, Ok, Err}
use Rattle.std.specs.Prelude.{if◌then◌else◌, nat_lt, length}
use Rattle.asm_syntax.specs.Outcome.{Fault, CellFault}
use Rattle.asm_syntax.specs.declared.fault.FaultKind.TheVariants.{Conditional}
use Rattle.asm_syntax.specs.declared.statement.Action.{Action}
use Rattle.asm_syntax.specs.declared.statement.Action.TheVariants as action
use Rattle.asm_syntax.specs.declared.statement.Operation.{Operation}
use Rattle.asm_text.specs.declared.open_if.OpenIf.{OpenIf}

-- an IF whose ELSE came
abbrev pub with_else : OpenIf → OpenIf
with_else o = record o { has_else = true }

-- an ELSE at this column: the innermost IF has none yet
abbrev pub at_else : ℕ → List OpenIf → Result (List OpenIf) Fault
at_else column [] = Err (column, Conditional false)
at_else column (o ∷ os) = if o.has_else then Err (column, Conditional false) else Ok (with_else o ∷ os)

-- an ENDIF at this column closes the innermost IF
abbrev pub at_endif : ℕ → List OpenIf → Result (List OpenIf) Fault
at_endif column [] = Err (column, Conditional false)
at_endif column (o ∷ os) = Ok os

-- an IF at this line and column
abbrev pub at_if : ℕ → ℕ → List OpenIf → Result (List OpenIf) Fault
at_if line column os =
    if nat_lt (length os) 16
    then Ok (record { line = line; column = column; has_else = false } ∷ os)
    else Err (column, Conditional false)

-- the IFs that are open after an action of a line, the innermost first
abbrev pub open_after_action : ℕ → ℕ → Action → List OpenIf → Result (List OpenIf) Fault
open_after_action line column (action.If e) os = at_if line column os
open_after_action line column action.Else os = at_else column os
open_after_action line column action.EndIf os = at_endif column os
open_after_action line column _ os = Ok os

-- and after a statement
abbrev pub open_after : ℕ → Option Operation → List OpenIf → Result (List OpenIf) Fault
open_after line None os = Ok os
open_after line (Some o) os = open_after_action line o.column o.action os

-- at the end of the text the innermost IF that is still open lacks its ENDIF
abbrev pub all_closed : {A : Type 0} → A → List OpenIf → Result A CellFault
all_closed x [] = Ok x
all_closed x (o ∷ os) = Err (o.line, o.column, Conditional true)
