-- Slices: how many steps a run makes at a time, and why it stops there.
use Rattle.std.specs.Prelude.{◌≡◌, ℕ, zero, suc, ◌<◌, ◌≤◌, List, [], ◌++◌, Bool, true, false, ◌&&◌, Option}
use Rattle.std.specs.Prelude.{Some, None, is_none, unwrap_or, if◌then◌else◌}
use Rattle.std.specs.List.{fold}
use Rattle.std.specs.Option.{option_or}
use Rattle.i80_base.specs.Rows.{is_undefined}
use Rattle.i80_base.specs.AliasRows.{row_on}
use Rattle.i80_exec.specs.declared.registers.Interrupts.{Interrupts}
use Rattle.i80_exec.specs.declared.registers.Interrupts.TheVariants.{Off, Arming, On}
use Rattle.i80_base.specs.declared.ports.PortOperation.{PortOperation}
use Rattle.i80_exec.specs.State.{byte_at}
use Rattle.i80_exec.specs.Step.{operation_list, is_halt}
use Rattle.i80_devs.specs.Past.{panel_after}
use Rattle.lab_frames.specs.Live.{Entry, Step, Poke, change_of}
use Rattle.lab_core.specs.declared.answer.SliceOutcome.{SliceOutcome}
use Rattle.lab_core.specs.declared.answer.SliceOutcome.TheVariants as outcome
use Rattle.lab_core.specs.declared.answer.End.TheVariants as end
use Rattle.lab_core.specs.declared.run_state.RunState.TheVariants.{NoRun, Stopped}
use Rattle.lab_frames.specs.Steps.{acceptance_due}
use Rattle.lab_core.specs.Board.{Board, next_change, after_next_step}
use Rattle.lab_core.specs.Stops.{at_breakpoint, complete}

-- ---- the reasons to stop

-- whether the last step was HLT, given whether it was before this entry: a change by hand isn't a step
abbrev pub halts : Bool → Entry → Bool
halts before (Step step) = is_halt (change_of step).answer
halts before (Poke machine machine') = before

-- whether the last step was HLT
abbrev pub ends_in_halt : List Entry → Bool
ends_in_halt trace = fold halts false trace

abbrev pub is_off : Interrupts → Bool
is_off Off = true
is_off Arming = false
is_off On = false

abbrev pub is_on : Interrupts → Bool
is_on Off = false
is_on Arming = false
is_on On = true

-- after HLT with interrupts off, the run ends
abbrev pub end_by_halt : Board → Option SliceOutcome
end_by_halt b =
    if ends_in_halt b.trace && is_off b.machine.regs.interrupts
    then Some (outcome.End end.Halted) else None

-- after HLT with interrupts on, it waits until a request is latched
abbrev pub waiting : Board → Option SliceOutcome
waiting b =
    if ends_in_halt b.trace && (is_on b.machine.regs.interrupts && is_none (panel_after b.past).latched)
    then Some outcome.Waiting else None

-- if the opcode at PC is undefined on this board and no request is accepted before it, the run ends
abbrev pub end_by_undefined : Board → Option SliceOutcome
end_by_undefined b =
    let opcode = byte_at b.machine b.machine.regs.pc in
    if is_undefined (row_on b.machine.board opcode) && is_none (acceptance_due b.machine b.past)
    then Some (outcome.End (end.Undefined opcode b.machine.regs.pc)) else None

-- the first reason of those that are checked after a slice's last step too
abbrev pub reason_after_step : Board → Option SliceOutcome
reason_after_step b = option_or (end_by_halt b) (option_or (at_breakpoint b) (complete b))

-- the first reason of those that are known before the opcode at PC is fetched
abbrev pub reason_before_fetch : Board → Option SliceOutcome
reason_before_fetch b = option_or (reason_after_step b) (waiting b)

-- the first reason of all to make no further step
abbrev pub reason : Board → Option SliceOutcome
reason b = option_or (reason_after_step b) (option_or (waiting b) (end_by_undefined b))

-- ---- the slice

abbrev pub after_steps : ℕ → Board → Board
after_steps zero b = b
after_steps (suc k) b = after_next_step (after_steps k b)

-- the port operations of the first k steps
abbrev pub traffic_of : ℕ → Board → List PortOperation
traffic_of zero b = []
traffic_of (suc k) b = traffic_of k b ++ operation_list (next_change (after_steps k b)).operation

-- A slice of n steps ends after k, as `ending` says. No step was made while there was a reason to stop. If
-- k < n, `ending` is the first reason; if k = n, only the reasons known after a step are checked.
pub record IsSlice (n : ℕ) (b : Board) (k : ℕ) (ending : SliceOutcome) : Type 0 where
  pub within : k ≤ n
  pub none_before : (j : ℕ) → j < k → reason (after_steps j b) ≡ None
  pub early : k < n → reason (after_steps k b) ≡ Some ending
  pub last : k ≡ n → ending ≡ unwrap_or (reason_after_step (after_steps n b)) outcome.More

-- An End removes the run, a Stop stops it; both cancel a pending Step.
abbrev pub left_by : SliceOutcome → Board → Board
left_by outcome.More b = b
left_by outcome.Waiting b = b
left_by (outcome.Stop s) b = record b { run = Stopped; request = None }
left_by (outcome.End e) b = record b { run = NoRun; request = None }
