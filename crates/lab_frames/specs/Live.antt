-- The live frames of a run: which of its calls have not ended.
use Rattle.std.specs.Prelude.{ℕ, List, [], ◌∷◌, ◌++◌, Option, Bool, true, false, not, ◌||◌, ◌&&◌, ◌==◌}
use Rattle.std.specs.Prelude.{nat_lt, nat_le}
use Rattle.std.specs.List.{filter}
use Rattle.i80_exec.specs.declared.registers.Stepped.{Stepped}
use Rattle.i80_exec.specs.declared.registers.Stepped.TheVariants.{Called, Returned}
use Rattle.i80_base.specs.declared.ports.PortOperation.{PortOperation}
use Rattle.i80_exec.specs.State.{MachineState}
use Rattle.lab_frames.specs.declared.frame.Frame.{Frame}

-- what was done to the machine: the machine before it, what was reported, the port operation, and the machine
-- after it
pub record Change : Type 0 where
  pub before : MachineState
  pub answer : Stepped
  pub operation : Option PortOperation
  pub after : MachineState

-- one step of a board: an instruction, or the acceptance of a request
pub data BoardStep : Type 0 where
  Instruction : Change → BoardStep
  Acceptance : Change → BoardStep

abbrev pub change_of : BoardStep → Change
change_of (Instruction change) = change
change_of (Acceptance change) = change

-- an entry of a run's trace: a step, or a change of the machine by hand, which is no step
pub data Entry : Type 0 where
  Step : BoardStep → Entry
  -- the machine before and after
  Poke : MachineState → MachineState → Entry

-- the frame of a call that was made at this site; no other answer makes one
abbrev pub made_by : Stepped → ℕ → List Frame
made_by (Called slot target) site = record { slot = slot; target = target; site = site } ∷ []
made_by answer site = []

-- PC before the step is the site: the call instruction's address, or the PC that an acceptance pushes
abbrev pub frames_by_entry : Entry → List Frame
frames_by_entry (Step step) = made_by (change_of step).answer (change_of step).before.regs.pc
frames_by_entry (Poke before after) = []

-- by a taken return from the slot, or by a call with a slot at or above it
abbrev pub returned_or_covered : Stepped → ℕ → Bool
returned_or_covered (Called called target) slot = nat_le slot called
returned_or_covered (Returned from) slot = slot == from
returned_or_covered answer slot = false

-- or by a step that leaves SP above the slot
abbrev pub ended_by : Stepped → ℕ → ℕ → Bool
ended_by answer sp slot = nat_lt slot sp || returned_or_covered answer slot

-- a change by hand ends none, wherever it puts SP
abbrev pub ends : Entry → Frame → Bool
ends (Step step) frame = ended_by (change_of step).answer (change_of step).after.regs.sp frame.slot
ends (Poke before after) frame = false

-- none of the later entries ends it
abbrev pub stays : List Entry → Frame → Bool
stays [] frame = true
stays (entry ∷ later) frame = not (ends entry frame) && stays later frame

-- the frames that these entries make and that no later one of them ends, oldest first
abbrev pub live : List Entry → List Frame
live [] = []
live (entry ∷ later) = filter (stays later) (frames_by_entry entry) ++ live later
