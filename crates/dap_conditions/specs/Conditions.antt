-- The conditions, hit conditions and log messages of breakpoints on a program's board (Debug Adapter
-- Protocol, "SourceBreakpoint").
use Rattle.std.specs.Prelude.{ℕ, List, ◌++◌, Bool, Option, Some, None, Result, Ok, Err, codes, decimal}
use Rattle.std.specs.Prelude.{◌==◌, option_and_then, option_map, if◌then◌else◌}
use Rattle.std.specs.List.{filter_map, list_any}
use Rattle.base_text.specs.Bytes.{Text}
use Rattle.asm_expr.specs.declared.evaluation.ExprFault.{ExprFault}
use Rattle.asm_expr.specs.declared.evaluation.ExprFault.TheVariants.{Undefined}
use Rattle.asm_syntax.specs.Faults.{fault_name}
use Rattle.asm_syntax.specs.Outcome.{Fault, ◌>>=◌}
use Rattle.lab_core.specs.Board.{Board}
use Rattle.dap_expr.specs.declared.expression.Expression.{Expression}
use Rattle.dap_expr.specs.Expressions.{expression_of}
use Rattle.dap_expr.specs.Values.{value_on}
use Rattle.dap_log.specs.declared.message.LogFault.{LogFault}
use Rattle.dap_log.specs.declared.message.LogFault.TheVariants as log
use Rattle.dap_log.specs.declared.message.LogMessage.{LogMessage}
use Rattle.dap_log.specs.Messages.{message_of, is_undefined_on}
use Rattle.dap_slice.specs.declared.conditions.LogPoint.{LogPoint}
use Rattle.dap_slice.specs.declared.conditions.ConditionalBreakpoint.{ConditionalBreakpoint}
use Rattle.dap_slice.specs.declared.conditions.Trigger.{Trigger}
use Rattle.dap_slice.specs.declared.conditions.Trigger.TheVariants.{Address, Line}
use Rattle.dap_slice.specs.declared.hits.HitCondition.{HitCondition}
use Rattle.dap_slice.specs.declared.hits.Hits.{Hits}
use Rattle.dap_messages.specs.declared.message.BreakpointNote.{BreakpointNote}
use Rattle.dap_messages.specs.declared.message.BreakpointNote.TheVariants.{Wrong, NotText}
use Rattle.dap_messages.specs.declared.message.BreakpointOptions.{BreakpointOptions}
use Rattle.dap_messages.specs.declared.message.GotoTarget.{GotoTarget}
use Rattle.dap_messages.specs.declared.message.PlacedBreakpoint.{PlacedBreakpoint}
use Rattle.dap_points.specs.Boards.{is_plain, verified_line}
use Rattle.dap_conditions.specs.HitConditions.{hit_condition_of}
use Rattle.dap_disassembly.specs.Targets.{first_target}

-- ---- what there is to object to a breakpoint's condition

abbrev pub fault_text : Fault → Text
fault_text (column, kind) =
    codes "condition, column " ++ (decimal column ++ (codes ": " ++ fault_name kind))

-- Names have a value on every board of the program, or on none. A division by zero may come to have one.
abbrev pub value_objection : Result ℕ ExprFault → Option BreakpointNote
value_objection (Err Undefined) = Some (Wrong (codes "condition: Undefined"))
value_objection other = None

abbrev pub expression_objection : Board → Result Expression Fault → Option BreakpointNote
expression_objection b (Err fault) = Some (Wrong (fault_text fault))
expression_objection b (Ok e) = value_objection (value_on b e)

abbrev pub condition_objection : Board → Option Text → Option BreakpointNote
condition_objection b None = None
condition_objection b (Some text) = expression_objection b (expression_of text)

-- ---- and to its log message

abbrev pub log_fault_text : LogFault → Text
log_fault_text log.OutOfMemory = codes "out of memory"
log_fault_text (log.OpenBrace column) =
    codes "log message, column " ++ (decimal column ++ codes ": open brace")
log_fault_text (log.At column kind) =
    codes "log message, column " ++ (decimal column ++ (codes ": " ++ fault_name kind))

abbrev pub message_objection : Board → Result LogMessage LogFault → Option BreakpointNote
message_objection b (Err fault) = Some (Wrong (log_fault_text fault))
message_objection b (Ok m) =
    if is_undefined_on b m then Some (Wrong (codes "log message: Undefined")) else None

abbrev pub log_objection : Board → Option Text → Option BreakpointNote
log_objection b None = None
log_objection b (Some text) = message_objection b (message_of text)

-- ---- and to its hit condition

abbrev pub hit_fault_text : Text
hit_fault_text = codes "hit condition: expected one like 5, >= 5 or % 5"

abbrev pub hit_objection_to : Option HitCondition → Option BreakpointNote
hit_objection_to None = Some (Wrong hit_fault_text)
hit_objection_to (Some condition) = None

abbrev pub hit_objection : Option Text → Option BreakpointNote
hit_objection None = None
hit_objection (Some text) = hit_objection_to (hit_condition_of text)

-- ---- and to all

-- the second one is made only if there is no first one
abbrev pub first_objection : Option BreakpointNote → Option BreakpointNote → Option BreakpointNote
first_objection None second = second
first_objection (Some first) second = Some first

-- by its options, and whether they are texts
abbrev pub objection : Board → BreakpointOptions → Bool → Option BreakpointNote
objection b o has_texts =
    if has_texts then
    first_objection (condition_objection b o.condition)
    (first_objection (hit_objection o.hit_condition) (log_objection b o.log_message))
    else Some NotText

-- ---- breakpoints with options

-- what is read of an option, if there is one
abbrev pub condition_read : Option Text → Result (Option Expression) Fault
condition_read None = Ok None
condition_read (Some text) = expression_of text >>= λ condition. Ok (Some condition)

-- a hit condition, if there is one; without a value if it can't be read
abbrev pub hits_read : Option Text → Option (Option HitCondition)
hits_read None = Some None
hits_read (Some text) = option_map Some (hit_condition_of text)

abbrev pub log_read : Option Text → Result (Option LogMessage) LogFault
log_read None = Ok None
log_read (Some text) = message_of text >>= λ message. Ok (Some message)

abbrev pub log_point : Text → GotoTarget → LogMessage → LogPoint
log_point path target message = record { message = message; path = path; line = target.line }

-- with no hits yet
abbrev pub unhit : HitCondition → Hits
unhit condition = record { condition = condition; count = 0 }

-- one that stops the run there, and was never hit
abbrev pub stop_at : ℕ → Trigger → Option Expression → Option HitCondition → ConditionalBreakpoint
stop_at id trigger condition hits = record {
  id = id;
  trigger = trigger;
  condition = condition;
  hits = option_map unhit hits;
  log = None;
}

-- if what is read of its options has no fault
abbrev pub stop_with : ℕ → Trigger → Option Text → Result (Option Expression) Fault
    → Option ConditionalBreakpoint
stop_with id trigger hits (Ok condition) = option_map (stop_at id trigger condition) (hits_read hits)
stop_with id trigger hits (Err fault) = None

abbrev pub stop_by : ℕ → Trigger → BreakpointOptions → Option ConditionalBreakpoint
stop_by id trigger o = stop_with id trigger o.hit_condition (condition_read o.condition)

-- with a log message on the target's line of the source with this path
abbrev pub with_log : Text → GotoTarget → Result (Option LogMessage) LogFault → ConditionalBreakpoint
    → Option ConditionalBreakpoint
with_log path target (Ok message) p = Some (record p { log = option_map (log_point path target) message })
with_log path target (Err fault) p = None

-- where a statement of that source begins
abbrev pub breakpoint_at : ℕ → Text → BreakpointOptions → Option GotoTarget → Option ConditionalBreakpoint
breakpoint_at id path o None = None
breakpoint_at id path o (Some target) =
    option_and_then (with_log path target (log_read o.log_message)) (stop_by id (Address target.address) o)

-- where the board itself stops
abbrev pub own_stop : ℕ → ℕ → ConditionalBreakpoint
own_stop id line = stop_at id (Line line) None None

-- One without options is the board's own, if it is on one of these lines, which the board takes. If it isn't,
-- it is where the first statement of its line begins.
abbrev pub plain_point : Text → List ℕ → Board → PlacedBreakpoint → Option ℕ → Option ConditionalBreakpoint
plain_point path taken b p None = None
plain_point path taken b p (Some line) =
    if list_any (λ l. l == line) taken then Some (own_stop p.id line)
    else breakpoint_at p.id path p.options (first_target b line)

-- One with options is always there.
abbrev pub conditional_point : Text → List ℕ → Board → PlacedBreakpoint → Option ConditionalBreakpoint
conditional_point path taken b p =
    if is_plain p.options then plain_point path taken b p (verified_line p)
    else breakpoint_at p.id path p.options (option_and_then (first_target b) p.line)

abbrev pub conditional_points : Text → List ℕ → Board → List PlacedBreakpoint → List ConditionalBreakpoint
conditional_points path taken b points = filter_map (conditional_point path taken b) points
