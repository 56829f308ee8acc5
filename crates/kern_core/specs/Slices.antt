-- What a Slice does: the next slice of the run, its start, or loading the next cell.
use Rattle.std.specs.Prelude.{ℕ, List, [], ◌∷◌, Option, Some, None, if◌then◌else◌}
use Rattle.lab_core.specs.declared.run_state.RunState.{RunState}
use Rattle.lab_core.specs.declared.run_state.RunState.TheVariants.{NoRun, Running, Stopped}
use Rattle.lab_core.specs.declared.answer.SliceOutcome.{SliceOutcome}
use Rattle.lab_core.specs.declared.answer.SliceOutcome.TheVariants as outcome
use Rattle.lab_core.specs.Slices.{traffic_of}
use Rattle.lab_core.specs.Events.{EventResult, after_start}
use Rattle.i80_base.specs.declared.ports.PortOperation.{PortOperation}
use Rattle.kern_post.specs.declared.post.Letter.{Letter}
use Rattle.kern_peers.specs.Connections.{Connections}
use Rattle.kern_exec.specs.declared.execution.Execution.{Execution}
use Rattle.kern_exec.specs.declared.execution.Current.{Current}
use Rattle.kern_exec.specs.Executions.{Work, current_of, load_first, clear_pending, clear_current}
use Rattle.kern_exec.specs.Ends.{loading_letters, slice_letters}
use Rattle.lab_core.specs.SliceEnds.{slice_end, after_slice}
use Rattle.kern_exec.specs.Boards.{cell_given, loading_of, board_after}
use Rattle.kern_calls.specs.declared.call.Reply.{Reply}
use Rattle.kern_calls.specs.declared.call.Reply.TheVariants.{More, Idle, Ended}
use Rattle.kern_core.specs.States.{KernelState, Turn, turn_without_posts, posting}

-- ---- a slice of the run

abbrev pub letters_of : Connections → Option Current → List PortOperation → SliceOutcome → List Letter
letters_of connections None traffic ending = []
letters_of connections (Some c) traffic ending = slice_letters connections c traffic ending

abbrev pub work_after : SliceOutcome → Work → Work
work_after (outcome.End e) w = clear_current w
work_after _ w = w

-- a run that waits for an interrupt has nothing to do
abbrev pub reply_of : SliceOutcome → Reply
reply_of outcome.Waiting = Idle
reply_of _ = More

abbrev pub running_to : ℕ × SliceOutcome → ℕ → KernelState → Turn
running_to (k, ending) unix_seconds s = posting (reply_of ending) unix_seconds
    (letters_of s.connections s.work.current (traffic_of k s.board) ending)
    (record s { board = after_slice s.board; work = work_after ending s.work })

abbrev pub running : ℕ → KernelState → Turn
running unix_seconds s = running_to (slice_end s.board) unix_seconds s

-- ---- it starts

abbrev pub beginning : ℕ → KernelState → Turn
beginning address s = turn_without_posts More
    (record s { board = after_start address s.board; work = clear_pending s.work })

-- ---- the next cell

abbrev pub loading_as : ℕ → Execution → List Execution → EventResult → KernelState → Turn
loading_as unix_seconds x rest g s = posting More unix_seconds
    (loading_letters s.connections (current_of x s.work.count) (loading_of g))
    (record s { board = board_after s.board g; work = load_first x rest (loading_of g) s.work })

abbrev pub loading : ℕ → List Execution → KernelState → Turn
loading unix_seconds [] s = turn_without_posts Idle s
loading unix_seconds (x ∷ rest) s = loading_as unix_seconds x rest (cell_given x.request.code s.board) s

-- ---- any slice

abbrev pub by_start : Option ℕ → ℕ → KernelState → Turn
by_start None unix_seconds s = loading unix_seconds s.work.queue s
by_start (Some address) unix_seconds s = beginning address s

abbrev pub by_run : RunState → ℕ → KernelState → Turn
by_run Running unix_seconds s = running unix_seconds s
by_run Stopped unix_seconds s = turn_without_posts Idle s
by_run NoRun unix_seconds s = by_start s.work.pending unix_seconds s

abbrev pub slicing : ℕ → KernelState → Turn
slicing unix_seconds s = if s.is_shut then turn_without_posts Ended s else by_run s.board.run unix_seconds s
