-- What executions ask of the board.
use Rattle.std.specs.Prelude.{ℕ, Bool, true, false, Some, Ok, Err, if◌then◌else◌}
use Rattle.base_text.specs.Bytes.{Text}
use Rattle.lab_core.specs.declared.run_state.RunState.{RunState}
use Rattle.lab_core.specs.declared.run_state.RunState.TheVariants.{NoRun, Running, Stopped}
use Rattle.lab_core.specs.declared.event.Event.TheVariants.{Load}
use Rattle.lab_core.specs.declared.answer.Answer.{Answer}
use Rattle.lab_core.specs.declared.answer.Answer.TheVariants.{Loaded}
use Rattle.lab_core.specs.declared.fault.EventFault.{EventFault}
use Rattle.lab_core.specs.declared.fault.EventFault.TheVariants as fault
use Rattle.lab_core.specs.Board.{Board}
use Rattle.lab_core.specs.Events.{EventResult, result_of, after_end as run_ended}
use Rattle.dap_answers.specs.Murmur.{cell_path}
use Rattle.kern_post.specs.declared.content.Cause.{Cause}
use Rattle.kern_post.specs.declared.content.Cause.TheVariants as cause
use Rattle.kern_post.specs.declared.content.Ending.TheVariants.{Done, Failed}
use Rattle.kern_exec.specs.declared.loading.Loading.{Loading}
use Rattle.kern_exec.specs.declared.loading.Loading.TheVariants.{Starts, Ends}

abbrev pub is_run : RunState → Bool
is_run NoRun = false
is_run Running = true
is_run Stopped = true

abbrev pub board_after : Board → EventResult → Board
board_after b (Ok (a, b')) = b'
board_after b (Err f) = b

-- ---- a cell

-- a cell is loaded and kept under the path that frontends know
abbrev pub cell_given : Text → Board → EventResult
cell_given text b = result_of (Load (cell_path text) text) b

-- without a run there are no other refusals
abbrev pub cause_of : EventFault → Cause
cause_of (fault.Assembly f) = cause.Assembly f
cause_of fault.SourceNameTaken = cause.SourceNameTaken
cause_of _ = cause.SourcesFull

abbrev pub loading_by : Answer → Loading
loading_by (Loaded (Some address)) = Starts address
loading_by _ = Ends Done

abbrev pub loading_of : EventResult → Loading
loading_of (Ok (a, b)) = loading_by a
loading_of (Err f) = Ends (Failed (cause_of f))

-- ---- a run

-- the run ends, if there is one
abbrev pub end_run_if_any : Board → Board
end_run_if_any b = if is_run b.run then run_ended b else b
