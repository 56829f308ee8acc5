-- A runner after one instruction represents the board after one instruction.
use Rattle.std.proofs.Common.{◌≡◌, List, ◌++◌, map, Option, Some, None, ap, sym, ◌∙◌, append-nil}
use Rattle.i80_base.specs.declared.ports.PortOperation.{PortOperation}
use Rattle.i80_exec.specs.State.{MachineState}
use Rattle.i80_exec.specs.Effect.{Outcome}
use Rattle.i80_exec.specs.Step.{instruction, operation_list, state_after}
use Rattle.i80_devs.specs.Past.{Operation, Port, PanelState, panel_after, answer, after as panel_then}
use Rattle.i80_devs.proofs.PastLemmas.{panel_more}
use Rattle.cli_run.specs.Runner.{RunnerState, Steps}

-- the panel after an operation of a port, or none
panel_performed : (past : List Operation) (o : Option PortOperation)
    → state_after panel_then (panel_after past) o ≡ panel_after (past ++ map Port (operation_list o))
panel_performed past None = ap panel_after (sym (append-nil past))
panel_performed past (Some p) = sym (panel_more past (Port p))

-- what the instruction does on the board
abbrev outcome_on : PanelState → MachineState → Outcome
outcome_on panel m = instruction (answer panel) m

pub stepped : (old new : RunnerState) (panel : PanelState) → panel ≡ old.devices.panel
    → new.machine ≡ (instruction (answer panel) old.machine).after
    → new.last ≡ (instruction (answer panel) old.machine).answer
    → new.devices.panel ≡ state_after panel_then panel (instruction (answer panel) old.machine).operation
    → Steps old new
stepped old new panel same machine last devices b s =
    let panel_is : panel ≡ panel_after b.past = same ∙ s.devices in
    let outcome : outcome_on panel old.machine ≡ outcome_on (panel_after b.past) b.machine =
    ap (λ (p : PanelState). outcome_on p old.machine) panel_is
    ∙ ap (λ (m : MachineState). outcome_on (panel_after b.past) m) s.machine in
    record {
      machine = machine ∙ ap (λ (o : Outcome). o.after) outcome;
      devices = devices ∙ ap (λ (o : Outcome). state_after panel_then panel o.operation) outcome
          ∙ ap (λ (p : PanelState). state_after panel_then p
          (outcome_on (panel_after b.past) b.machine).operation) panel_is
          ∙ panel_performed b.past (outcome_on (panel_after b.past) b.machine).operation;
      last = last ∙ ap (λ (o : Outcome). o.answer) outcome;
    }
