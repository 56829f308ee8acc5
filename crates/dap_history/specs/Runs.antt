-- The board that a run has after any number of steps, by its inputs.
use Rattle.std.specs.Prelude.{◌≡◌, ℕ, ◌-◌, List, [], ◌∷◌, false, nat_le, Option, None}
use Rattle.std.specs.Prelude.{Result, Ok, Err}
use Rattle.std.specs.Prelude.{if◌then◌else◌}
use Rattle.i80_base.specs.declared.ports.PortOperation.{PortOperation}
use Rattle.lab_core.specs.declared.answer.Answer.{Answer}
use Rattle.lab_core.specs.declared.answer.Answer.TheVariants as answer
use Rattle.lab_core.specs.declared.answer.SliceOutcome.{SliceOutcome}
use Rattle.lab_core.specs.declared.fault.EventFault.{EventFault}
use Rattle.lab_core.specs.declared.event.Event.{Event}
use Rattle.lab_core.specs.declared.event.Event.TheVariants as event
use Rattle.lab_core.specs.declared.run_state.RunState.TheVariants.{Running}
use Rattle.lab_core.specs.Board.{Board}
use Rattle.lab_core.specs.Slices.{after_steps}
use Rattle.lab_core.specs.Events.{EventResult, result_of}
use Rattle.lab_core.specs.Changes.{after_write, after_registers}
use Rattle.lab_core.specs.Labs.{LabState, RepresentsBoard}
use Rattle.lab_core.specs.Moments.{put_back, after_hold}
use Rattle.dap_history.specs.declared.input.Input.{Input}
use Rattle.dap_history.specs.declared.input.Input.TheVariants as input
use Rattle.dap_history.specs.declared.input.Recorded.{Recorded}

-- ---- the inputs

-- a refused event leaves the board unchanged
abbrev pub board_of : Board → EventResult → Board
board_of b (Ok (answer, b')) = b'
board_of b (Err fault) = b

abbrev pub after_event : Event → Board → Board
after_event e b = board_of b (result_of e b)

abbrev pub after_input : Input → Board → Board
after_input (input.Typed bytes) b = after_event (event.Typed bytes) b
after_input (input.Switches byte) b = after_event (event.Switches byte) b
after_input (input.Press n) b = after_event (event.Press n) b
after_input (input.Registers registers) b = after_registers registers b
after_input (input.Write address bytes) b = after_write address bytes b

-- the answer to a slice that made all of its n steps and ended so
abbrev pub IsWholeSlice : ℕ → Result Answer EventFault → SliceOutcome → Type 0
IsWholeSlice n reply outcome = (traffic : List PortOperation) × (reply ≡ Ok (answer.Sliced n traffic outcome))

-- ---- the run

-- The board after n steps of a run that had this board after c steps and these inputs since, each after its
-- count of steps. Inputs after n steps are included.
abbrev pub at_from : ℕ → Board → List Recorded → ℕ → Board
at_from c b [] n = after_steps (n - c) b
at_from c b (r ∷ rs) n =
    if nat_le r.count n
    then at_from r.count (after_input r.input (after_steps (r.count - c) b)) rs n
    else after_steps (n - c) b

-- the same from the run's start
abbrev pub board_at : Board → List Recorded → ℕ → Board
board_at start log n = at_from 0 start log n

-- ---- the same run on another board

-- The board `now` with the run of `was`, running and with no debugger attached, and with this place in the
-- trace as its last Resume. Texts, symbols, loads and breakpoints are those of `now`.
abbrev pub detached_run : Option ℕ → Board → Board → Board
detached_run resumed was now = record now {
  machine = was.machine;
  past = was.past;
  trace = was.trace;
  is_attached = false;
  run = Running;
  resumed = resumed;
  request = None;
}

-- the lab represents such a board
abbrev pub RunsDetached : Board → Board → LabState → Type 0
RunsDetached was now lab = (resumed : Option ℕ) × RepresentsBoard lab (detached_run resumed was now)

-- the board `now` with the run of `was`, stopped there with a debugger attached
abbrev pub after_rewind : Board → Board → Board
after_rewind was now = after_hold (put_back was now)

-- The lab represents a board that is as this one but for its run: texts, symbols, loads and breakpoints are
-- the same.
pub record KeepsRest (b : Board) (lab : LabState) : Type 0 where
  pub now : Board
  pub represents : RepresentsBoard lab now
  pub loads : now.loads ≡ b.loads
  pub symbols : now.symbols ≡ b.symbols
  pub sources : now.sources ≡ b.sources
  pub breakpoints : now.breakpoints ≡ b.breakpoints

-- the same for every board that the old lab represents
abbrev pub OnlyRunChanges : LabState → LabState → Type 0
OnlyRunChanges old new = (b : Board) → RepresentsBoard old b → KeepsRest b new
