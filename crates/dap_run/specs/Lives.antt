-- How far a program is, and what its run's end makes of it (Debug Adapter Protocol, `terminated`).
use Rattle.std.specs.Prelude.{Bool, true, false, not, ◌&&◌, ◌||◌, Option, Some, None, option_and_then}
use Rattle.lab_core.specs.declared.answer.End.{End}
use Rattle.dap_messages.specs.declared.message.UndefinedOpcode.{UndefinedOpcode}
use Rattle.dap_requests.specs.declared.request.ExceptionFilters.{ExceptionFilters}
use Rattle.dap_requests.specs.declared.request.Launch.{Launch}
use Rattle.dap_requests.specs.Filters.{no_filters}
use Rattle.dap_run.specs.declared.end.EndPolicy.{EndPolicy}
use Rattle.dap_run.specs.declared.end.EndPolicy.TheVariants.{Exit, Hold}
use Rattle.dap_run.specs.Ends.{exception_at, policy_at}
use Rattle.dap_run.specs.declared.program.Phase.{Phase}
use Rattle.dap_run.specs.declared.program.Phase.TheVariants as phase
use Rattle.dap_run.specs.declared.program.Program.{Program}

abbrev pub in_phase : Phase → Program → Program
in_phase to p = record p { phase = to }

abbrev pub is_over : Phase → Bool
is_over phase.Loaded = false
is_over phase.Begun = false
is_over (phase.Held how) = false
is_over phase.Over = true

-- a program was launched, and isn't over
abbrev pub is_live : Option Program → Bool
is_live None = false
is_live (Some p) = not (is_over p.phase)

-- ---- the end of its run

-- The ends at which a launch's run is held, by the filters that are set: only for a debugger.
abbrev pub held_for : ExceptionFilters → Launch → ExceptionFilters
held_for filters l = record {
  undefined = l.is_debugged && (l.stops_at_end || filters.undefined);
  halt = l.is_debugged && (l.stops_at_end || filters.halt);
}

abbrev pub held_ends : ExceptionFilters → Option Program → ExceptionFilters
held_ends filters None = no_filters
held_ends filters (Some p) = held_for filters p.launch

-- what becomes of the program if its run ends so
abbrev pub policy_of : ExceptionFilters → Option Program → End → EndPolicy
policy_of filters program how = policy_at (held_ends filters program) how

abbrev pub ended_phase : EndPolicy → End → Phase
ended_phase Exit how = phase.Over
ended_phase Hold how = phase.Held how

abbrev pub ended_program : ExceptionFilters → End → Program → Program
ended_program filters how p = in_phase (ended_phase (policy_at (held_for filters p.launch) how) how) p

-- a run that is held there is one like any other again
abbrev pub released_phase : Phase → Phase
released_phase (phase.Held how) = phase.Begun
released_phase other = other

abbrev pub released_program : Program → Program
released_program p = in_phase (released_phase p.phase) p

-- how the run ended that is held there
abbrev pub end_in : Phase → Option End
end_in (phase.Held how) = Some how
end_in other = None

abbrev pub end_of : Option Program → Option End
end_of None = None
end_of (Some p) = end_in p.phase

-- the opcode that ended the run that is held there
abbrev pub exception_of : Option Program → Option UndefinedOpcode
exception_of program = option_and_then exception_at (end_of program)
