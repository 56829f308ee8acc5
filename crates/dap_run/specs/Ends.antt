-- The end of a run, and of its program (Debug Adapter Protocol, `exited` and `stopped`).
use Rattle.std.specs.Prelude.{ℕ, Bool, Option, Some, None, if◌then◌else◌}
use Rattle.lab_core.specs.declared.answer.End.{End}
use Rattle.lab_core.specs.declared.answer.End.TheVariants as end
use Rattle.lab_core.specs.declared.answer.SliceOutcome.{SliceOutcome}
use Rattle.lab_core.specs.declared.answer.SliceOutcome.TheVariants as outcome
use Rattle.lab_core.specs.Board.{Board}
use Rattle.lab_core.specs.Moments.{after_hold}
use Rattle.dap_messages.specs.declared.message.UndefinedOpcode.{UndefinedOpcode}
use Rattle.dap_messages.specs.declared.message.EditorStop.{EditorStop}
use Rattle.dap_messages.specs.declared.message.EditorStop.TheVariants as stop
use Rattle.dap_requests.specs.declared.request.ExceptionFilters.{ExceptionFilters}
use Rattle.dap_run.specs.declared.end.EndPolicy.{EndPolicy}
use Rattle.dap_run.specs.declared.end.EndPolicy.TheVariants.{Exit, Hold}

-- the exit code of a program whose run ended so
abbrev pub exit_code : End → ℕ
exit_code end.Halted = 0
exit_code (end.Undefined opcode pc) = 1

-- the opcode that ended a run, if one did
abbrev pub exception_at : End → Option UndefinedOpcode
exception_at end.Halted = None
exception_at (end.Undefined opcode pc) = Some (record { opcode = opcode; pc = pc })

abbrev pub stop_by : Option UndefinedOpcode → EditorStop
stop_by None = stop.Halted
stop_by (Some undefined) = stop.Exception undefined

-- why an editor shows a program as stopped whose run ended so
abbrev pub stop_at : End → EditorStop
stop_at e = stop_by (exception_at e)

-- whether the run is held that ended so
abbrev pub is_held_at : ExceptionFilters → End → Bool
is_held_at held end.Halted = held.halt
is_held_at held (end.Undefined opcode pc) = held.undefined

abbrev pub policy_at : ExceptionFilters → End → EndPolicy
policy_at held e = if is_held_at held e then Hold else Exit

-- the board after its run ended
abbrev pub left_at_end : EndPolicy → Board → Board
left_at_end Exit b = b
left_at_end Hold b = after_hold b

-- the board after a slice with this outcome: a run that is to be held at this end is stopped there
abbrev pub held_at_end : ExceptionFilters → SliceOutcome → Board → Board
held_at_end held outcome.More b = b
held_at_end held outcome.Waiting b = b
held_at_end held (outcome.Stop s) b = b
held_at_end held (outcome.End e) b = left_at_end (policy_at held e) b
