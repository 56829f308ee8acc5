-- Changes of the machine by hand, in any state of the run.
use Rattle.std.specs.Prelude.{ℕ, ◌+◌, List, [], ◌∷◌, Bool, Option, None, nat_lt, if◌then◌else◌}
use Rattle.i80_exec.specs.declared.registers.Registers.{Registers}
use Rattle.i80_exec.specs.State.{MachineState, with_byte, with_regs}
use Rattle.lab_core.specs.declared.event.StepRequest.{StepRequest}
use Rattle.lab_core.specs.Board.{Board}
use Rattle.lab_core.specs.Events.{changed_to}

-- the machine with these bytes from an address on, wrapping from FFFFH to 0000H
abbrev pub with_bytes : ℕ → List ℕ → MachineState → MachineState
with_bytes address [] m = m
with_bytes address (byte ∷ bytes) m = with_bytes (address + 1) bytes (with_byte m address byte)

abbrev pub after_write : ℕ → List ℕ → Board → Board
after_write address bytes b = changed_to (with_bytes address bytes b.machine) b

-- A pending Step is canceled if SP rises, since a frame that was made during the Step may then be below SP.
abbrev pub request_left : Bool → Option StepRequest → Option StepRequest
request_left rises request = if rises then None else request

abbrev pub request_after : Registers → Board → Option StepRequest
request_after registers b = request_left (nat_lt b.machine.regs.sp registers.sp) b.request

abbrev pub after_registers : Registers → Board → Board
after_registers registers b =
    record (changed_to (with_regs b.machine registers) b) { request = request_after registers b }
