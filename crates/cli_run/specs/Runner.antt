-- What a runner represents.
use Rattle.std.specs.Prelude.{◌≡◌, ℕ, Option}
use Rattle.i80_exec.specs.declared.registers.Stepped.{Stepped}
use Rattle.i80_exec.specs.State.{MachineState}
use Rattle.i80_devs.specs.Past as devices
use Rattle.cli_run.specs.declared.ending.Ending.{Ending}
use Rattle.cli_run.specs.Computer.{Computer, next, after, end_at, run_length}

pub record RunnerState : Type 0 where
  pub machine : MachineState
  pub devices : devices.DeviceState
  pub last : Stepped

-- the runner has the computer's machine and last outcome, and devices with the computer's past
pub record RepresentsComputer (r : RunnerState) (b : Computer) : Type 0 where
  pub machine : r.machine ≡ b.machine
  pub devices : devices.RepresentsPast r.devices b.past
  pub last : r.last ≡ b.last

-- whatever computer the old one represents, the new one represents that computer after one instruction
abbrev pub Steps : RunnerState → RunnerState → Type 0
Steps old new = (b : Computer) → RepresentsComputer old b → RepresentsComputer new (next b)

-- the runner has done a run of at most limit steps from this computer, which ended so
pub record HasRun (limit : ℕ) (start : Computer) (r : RunnerState) (ending : Option Ending) : Type 0 where
  pub represents : RepresentsComputer r (after (run_length limit start) start)
  pub ending_is : ending ≡ end_at limit start (run_length limit start)
