-- A computer: a machine with the past of its devices; and the run of a program from its load to its end.
use Rattle.std.specs.Prelude.{ℕ, suc, zero, ◌+◌, List, [], ◌∷◌, ◌++◌, map, Bool, Option, Some, None, is_some}
use Rattle.std.specs.Prelude.{◌==◌, if◌then◌else◌}
use Rattle.i80_base.specs.Rows.{is_undefined}
use Rattle.i80_base.specs.AliasRows.{row_on}
use Rattle.i80_exec.specs.declared.registers.Stepped.{Stepped}
use Rattle.i80_exec.specs.declared.registers.Stepped.TheVariants as stepped
use Rattle.i80_exec.specs.declared.registers.Interrupts.{Interrupts}
use Rattle.i80_exec.specs.declared.registers.Interrupts.TheVariants.{Off, Arming, On}
use Rattle.i80_exec.specs.State.{MachineState, byte_at, with_byte, power_on}
use Rattle.i80_exec.specs.Step.{instruction, is_halt, operation_list}
use Rattle.i80_devs.specs.Past.{Operation, Port, answer, panel_after}
use Rattle.cli_run.specs.declared.ending.Ending.{Ending}
use Rattle.cli_run.specs.declared.ending.Ending.TheVariants as ending

-- the machine, all operations on its devices so far, and the outcome of the last step
pub record Computer : Type 0 where
  pub machine : MachineState
  pub past : List Operation
  pub last : Stepped

-- the bytes stored from an address on
abbrev pub stored_from : ℕ → List ℕ → MachineState → MachineState
stored_from address [] m = m
stored_from address (byte ∷ bytes) m = stored_from (address + 1) bytes (with_byte m address byte)

-- a machine with new devices
abbrev pub fresh : MachineState → Computer
fresh m = record { machine = m; past = []; last = stepped.Done }

-- a computer after power-on, with these bytes stored from address 0 on
abbrev pub computer_with : List ℕ → Computer
computer_with bytes = fresh (stored_from 0 bytes power_on)

-- one instruction, whose IN is answered by the past
abbrev pub next : Computer → Computer
next b =
    let o = instruction (answer (panel_after b.past)) b.machine in
    record { machine = o.after; past = b.past ++ map Port (operation_list o.operation); last = o.answer }

-- the computer after k instructions
unfoldable pub after : ℕ → Computer → Computer
after zero b = b
after (suc k) b = next (after k b)

-- HLT ends a run for good where interrupts are off; else the processor waits for a request
abbrev pub halted_in : Interrupts → Ending
halted_in Off = ending.Halted
halted_in Arming = ending.Waiting
halted_in On = ending.Waiting

-- How a run with this outcome of its last step ends at this machine, if it does: after HLT, after as many
-- steps as it may have, or before an undefined opcode.
abbrev pub end_of : Bool → Stepped → MachineState → Option Ending
end_of is_last last m =
    if (is_halt last) then (Some (halted_in m.regs.interrupts)) else
    (if is_last then (Some ending.Limit) else
    (if (is_undefined (row_on m.board (byte_at m m.regs.pc))) then
    (Some (ending.Undefined (byte_at m m.regs.pc)))
    else None))

-- the same after k of at most limit steps
unfoldable pub end_at : ℕ → Computer → ℕ → Option Ending
end_at limit start k = end_of (k == limit) (after k start).last (after k start).machine

-- the least number from k on, and k + n at most, at which there is something
unfoldable pub least_from : {A : Type 0} → (ℕ → Option A) → ℕ → ℕ → ℕ
least_from f k zero = k
least_from f k (suc n) = if (is_some (f k)) then k else (least_from f (k + 1) n)

-- the number of steps of a run of at most limit steps
abbrev pub run_length : ℕ → Computer → ℕ
run_length limit start = least_from (end_at limit start) 0 limit
