-- The board, and its steps: instructions and accepted interrupt requests.
use Rattle.std.specs.Prelude.{ℕ, List, [], ◌∷◌, ◌++◌, Option, Some, None, Bool, false}
use Rattle.i80_exec.specs.State.{MachineState, power_on}
use Rattle.i80_exec.specs.Effect.{Outcome}
use Rattle.i80_devs.specs.Past.{Operation}
use Rattle.asm_build.specs.Reading.{Entries}
use Rattle.lab_frames.specs.Live.{BoardStep, Instruction, Acceptance, Change, Entry, Step}
use Rattle.lab_frames.specs.Steps.{acceptance_due, outcome, operations}
use Rattle.lab_image.specs.Loads.{Load}
use Rattle.lab_image.specs.declared.lists.BreakpointList.{BreakpointList}
use Rattle.lab_core.specs.declared.run_state.RunState.{RunState}
use Rattle.lab_core.specs.declared.run_state.RunState.TheVariants.{NoRun}
use Rattle.lab_core.specs.declared.event.StepRequest.{StepRequest}
use Rattle.lab_image.specs.declared.sources.Source.{Source}

pub record Board : Type 0 where
  pub machine : MachineState
  -- all operations on the devices since power-on or the last Reset
  pub past : List Operation
  -- all loads since then
  pub loads : List Load
  -- the symbols of the cells loaded so far
  pub symbols : Entries
  -- the stored texts, each at the index that is its number
  pub sources : List Source
  -- the nonempty lists of breakpoints, in the order in which each became so
  pub breakpoints : List BreakpointList
  pub is_attached : Bool
  pub run : RunState
  -- the steps and changes by hand since the last Start, even after the run has ended
  pub trace : List Entry
  -- the length of the trace at the run's last Resume or Step, if it had one
  pub resumed : Option ℕ
  -- the pending Step
  pub request : Option StepRequest

-- the board after power-on
abbrev pub opening : Board
opening = record {
  machine = power_on;
  past = [];
  loads = [];
  symbols = [];
  sources = [];
  breakpoints = [];
  is_attached = false;
  run = NoRun;
  trace = [];
  resumed = None;
  request = None;
}

-- what the next step does to the machine
abbrev pub next_change : Board → Change
next_change b =
    let o = outcome b.machine b.past in
    record { before = b.machine; answer = o.answer; operation = o.operation; after = o.after }

abbrev pub as_step : Option Outcome → Change → BoardStep
as_step (Some accepted) change = Acceptance change
as_step None change = Instruction change

-- the next step
abbrev pub next_step : Board → BoardStep
next_step b = as_step (acceptance_due b.machine b.past) (next_change b)

-- the board after the next step
abbrev pub after_next_step : Board → Board
after_next_step b = record b {
  machine = (next_change b).after;
  past = b.past ++ operations b.machine b.past;
  trace = b.trace ++ Step (next_step b) ∷ [];
}
