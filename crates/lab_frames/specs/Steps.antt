-- One step of the processor with its devices, told by their past.
use Rattle.std.specs.Prelude.{◌≡◌, ℕ, List, [], ◌∷◌, ◌++◌, map, Option, Some, None}
use Rattle.i80_exec.specs.declared.registers.Stepped.{Stepped}
use Rattle.i80_exec.specs.State.{MachineState}
use Rattle.i80_exec.specs.Effect.{Outcome}
use Rattle.i80_exec.specs.Step.{instruction, acceptance, operation_list}
use Rattle.i80_devs.specs.Past.{Operation, Port, Taken, DeviceState, RepresentsPast, answer, panel_after}

abbrev pub acceptance_of : Option ℕ → MachineState → Option Outcome
acceptance_of None m = None
acceptance_of (Some n) m = acceptance n m

-- the acceptance of the latched request, if there is one and interrupts are on
abbrev pub acceptance_due : MachineState → List Operation → Option Outcome
acceptance_due m past = acceptance_of (panel_after past).latched m

abbrev pub or_instruction : Option Outcome → List Operation → MachineState → Outcome
or_instruction (Some o) past m = o
or_instruction None past m = instruction (answer (panel_after past)) m

-- one step: the acceptance, or else the instruction at PC, whose IN is answered by the devices
abbrev pub outcome : MachineState → List Operation → Outcome
outcome m past = or_instruction (acceptance_due m past) past m

abbrev pub taken_or_done : Option Outcome → Outcome → List Operation
taken_or_done (Some _) o = Taken ∷ []
taken_or_done None o = map Port (operation_list o.operation)

-- what the step does to the devices: an acceptance takes the request, an instruction may do an IN or OUT
abbrev pub operations : MachineState → List Operation → List Operation
operations m past = taken_or_done (acceptance_due m past) (outcome m past)

-- machine and devices did the step, if this was the devices' past, and it reported this answer
pub record IsBoardStep (past : List Operation) (old : MachineState) (devices : DeviceState)
    (new : MachineState) (devices' : DeviceState) (answer : Stepped) : Type 0 where
  pub after_is : new ≡ (outcome old past).after
  pub answer_is : answer ≡ (outcome old past).answer
  pub represents : RepresentsPast devices' (past ++ operations old past)
  pub traffic_is : devices'.operations ≡ devices.operations ++ operation_list (outcome old past).operation
