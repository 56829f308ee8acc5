-- What a step of a board promises, whatever the past of its devices.
use Rattle.std.specs.Prelude.{◌≡◌, ◌≤◌, ◌+◌, List, None}
use Rattle.i80_exec.specs.declared.registers.Kind.{Kind}
use Rattle.i80_exec.specs.declared.registers.Stepped.{Stepped}
use Rattle.i80_exec.specs.State.{MachineState}
use Rattle.i80_exec.specs.Step.{answer_of, Settles, is_moved, is_at_move, PortDevices, devices_by}
use Rattle.i80_devs.specs.Past.{Operation, PanelState, DeviceState, RepresentsPast, after}
use Rattle.i80_devs.specs.Past.{answer as port_answer}
use Rattle.lab_frames.specs.Frames.{TellsSp}
use Rattle.lab_frames.specs.Steps.{IsBoardStep}

-- a step that reported this answer, from the one machine and devices to the other
abbrev pub StepsBoard : MachineState × MachineState → DeviceState × DeviceState → Stepped → Type 0
StepsBoard machine devices answer = (past : List Operation) → RepresentsPast devices.0 past
    → IsBoardStep past machine.0 devices.0 machine.1 devices.1 answer

-- A step of this kind without a request: SP is as its answer tells, there is room for at most one port
-- operation less, and no request is latched after it either. It is `Moved` exactly where the instruction
-- moves SP.
pub record StepsWithoutRequest (machine : MachineState × MachineState) (devices : DeviceState × DeviceState)
    (kind : Kind) : Type 0 where
  pub step : StepsBoard machine devices (answer_of kind machine.1)
  pub sp : TellsSp (answer_of kind machine.1) machine.0.regs.sp machine.1.regs.sp
  pub settles : Settles kind machine.0 machine.1
  pub moved : is_moved kind ≡ is_at_move machine.0
  pub spare : devices.0.spare ≤ devices.1.spare + 1
  pub unlatched : devices.1.panel.latched ≡ None

-- the board's devices, as those at the processor's ports
abbrev pub at_ports : DeviceState → PortDevices PanelState
at_ports d = devices_by port_answer after (λ (d : DeviceState). d.operations) (λ (d : DeviceState). d.panel)
    (λ (d : DeviceState). d.spare) d
