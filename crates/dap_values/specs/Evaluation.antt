-- The value of an expression as an editor shows it (Debug Adapter Protocol, `evaluate`).
use Rattle.std.specs.Prelude.{ℕ, Bool, not, ◌&&◌, ◌==◌, Option, Some, None, Result, Ok, Err, length}
use Rattle.std.specs.Prelude.{if◌then◌else◌}
use Rattle.std.specs.List.{list_any}
use Rattle.std.specs.Str.{trim}
use Rattle.base_text.specs.Bytes.{Text}
use Rattle.asm_expr.specs.declared.evaluation.ExprFault.{ExprFault}
use Rattle.asm_syntax.specs.Outcome.{Fault, ◌>>=◌}
use Rattle.lab_core.specs.Board.{Board}
use Rattle.dap_expr.specs.declared.expression.Expression.{Expression}
use Rattle.dap_expr.specs.Expressions.{expression_of}
use Rattle.dap_expr.specs.Values.{value_on}
use Rattle.dap_messages.specs.declared.message.ShownValue.{ShownValue}
use Rattle.dap_messages.specs.declared.message.ValueFormat.{ValueFormat}
use Rattle.dap_values.specs.declared.target.Target.{Target}
use Rattle.dap_values.specs.Targets.{target_on}
use Rattle.dap_values.specs.declared.fault.LookFault.{LookFault}
use Rattle.dap_values.specs.declared.fault.LookFault.TheVariants as fault
use Rattle.dap_values.specs.Shown.{shown_at, value_shown}

-- ---- what is read

abbrev pub contains : Text → ℕ → Bool
contains text c = list_any (λ d. d == c) text

-- it isn't empty, and has neither LF nor CR
abbrev pub is_one_line : Text → Bool
is_one_line text = not (length text == 0) && not (contains text 10) && not (contains text 13)

abbrev pub or_syntax : Result Expression Fault → Result Expression LookFault
or_syntax (Ok e) = Ok e
or_syntax (Err (column, kind)) = Err (fault.Syntax column kind)

abbrev pub read_trimmed : Text → Result Expression LookFault
read_trimmed text = if is_one_line text then or_syntax (expression_of text) else Err fault.NoExpression

-- the expression that a text is, without the white space at its ends
unfoldable pub expression_read : Text → Result Expression LookFault
expression_read text = read_trimmed (trim text)

-- ---- its value

abbrev pub or_fault : Result ℕ ExprFault → Result ℕ LookFault
or_fault (Ok value) = Ok value
or_fault (Err why) = Err (fault.Value why)

-- the value of the expression that a text is
abbrev pub value_read : Board → Text → Result ℕ LookFault
value_read b text = expression_read text >>= λ e. or_fault (value_on b e)

-- as the place that it names holds it, if it names one
abbrev pub shown_in : Board → Expression → Option Target → ValueFormat → Result ShownValue LookFault
shown_in b e (Some t) format = Ok (shown_at b.machine t format)
shown_in b e None format = or_fault (value_on b e) >>= λ value. Ok (value_shown value format)

abbrev pub expression_shown : Board → Expression → ValueFormat → Result ShownValue LookFault
expression_shown b e format = shown_in b e (target_on b e) format

-- the value of the expression that a text is, as it is shown
abbrev pub evaluation_of : Board → Text → ValueFormat → Result ShownValue LookFault
evaluation_of b text format = expression_read text >>= λ e. expression_shown b e format
