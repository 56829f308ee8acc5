-- The statements of a text, or its first fault: a text that is too long; else the first line with a
-- fault of its own; else an IF without its ENDIF.
use Rattle.std.specs.Prelude.{ℕ, ◌+◌, List, [], ◌∷◌, Bool, true, false, Option, Some, None, Result, Ok, Err}
use Rattle.std.specs.Prelude.{if◌then◌else◌, nat_lt, ◌||◌, length, map}
use denote.Ref.{Bor}
use Rattle.std.specs.Str.Lines.{lines}
use Rattle.asm_syntax.specs.declared.fault.FaultKind.TheVariants.{TooLong}
use Rattle.asm_syntax.specs.declared.statement.Action.{Action}
use Rattle.asm_syntax.specs.declared.statement.Action.TheVariants.{End}
use Rattle.asm_syntax.specs.declared.statement.Operation.{Operation}
use Rattle.asm_syntax.specs.declared.statement.Statement.{Statement}
use Rattle.asm_syntax.specs.Outcome.{Fault, CellFault, ◌>>=◌, at_line}
use Rattle.asm_text.specs.declared.open_if.OpenIf.{OpenIf}
use Rattle.asm_text.specs.Conditionals.{open_after, all_closed}
use Rattle.asm_text.specs.Lines.{line_of}

-- END
abbrev pub is_end : Action → Bool
is_end (End e) = true
is_end _ = false

-- a statement's operation is END
abbrev pub is_end_action : Option Operation → Bool
is_end_action None = false
is_end_action (Some o) = is_end o.action

-- the statement of a line with this number, and the IFs that are open after it
abbrev pub with_open : ℕ → List OpenIf → Statement → Result (Statement × List OpenIf) Fault
with_open n ifs s = do
  os ← open_after n s.operation ifs
  Ok (s, os)

-- the same of a line's text
abbrev pub line_step_of : ℕ → List OpenIf → List ℕ → Result (Statement × List OpenIf) Fault
line_step_of n ifs l = do
  s ← line_of l
  with_open n ifs s

-- its fault at this line
unfoldable pub step_of : ℕ → List OpenIf → List ℕ → Result (Statement × List OpenIf) CellFault
step_of n ifs l = at_line n (line_step_of n ifs l)

-- a statement and those on the lines that follow, or only itself where it is END
abbrev pub then_lines : Statement × List OpenIf → Result (List Statement) CellFault
    → Result (List Statement) CellFault
then_lines r more =
    if is_end_action r.0.operation
    then all_closed (r.0 ∷ []) r.1
    else (do
      ss ← more
      Ok (r.0 ∷ ss))

-- The statements on lines, of which the first has this number, where these IFs are open: one for
-- each line, up to the one with END. What stands after END isn't read.
unfoldable pub statements_from : ℕ → List OpenIf → List (List ℕ) → Result (List Statement) CellFault
statements_from n ifs [] = all_closed [] ifs
statements_from n ifs (l ∷ ls) = do
  r ← step_of n ifs l
  then_lines r (statements_from (n + 1) r.1 ls)

-- the statements of a text
unfoldable pub statements_of : List ℕ → Result (List Statement) CellFault
statements_of text =
    if nat_lt 1048576 (length text) || nat_lt 65537 (length (lines text)) then Err (1, 1, TooLong)
    else statements_from 1 [] (lines text)

-- the texts of references
abbrev pub texts_of : List (Bor (List ℕ)) → List (List ℕ)
texts_of ls = map (λ l. l.now) ls
