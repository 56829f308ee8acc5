-- A board step, told by the past of the devices.
use Rattle.std.proofs.Common.{◌≡◌, List, ◌++◌, ◌∷◌, [], map, Option, Some, None, append-nil, sym, ap, ◌∙◌}
use Rattle.std.proofs.Common.{refl, subst, drop, length, ◌==◌, ◌≤◌, arith}
use Rattle.std.proofs.lemmas.Bool.{cond_both}
use Rattle.i80_exec.specs.declared.registers.Stepped.{Stepped}
use Rattle.i80_base.specs.declared.ports.PortOperation.{PortOperation}
use Rattle.i80_base.specs.declared.ports.PortOperation.TheVariants.{In, Out}
use Rattle.i80_exec.specs.State.{MachineState}
use Rattle.i80_exec.specs.Effect.{Outcome}
use Rattle.i80_exec.specs.Step.{instruction, operation_list, state_after, IsOutcome, Performs}
use Rattle.i80_devs.specs.Past.{Operation, Port, PanelState, DeviceState, RepresentsPast, answer, after}
use Rattle.i80_devs.specs.Past.{panel_after, panel_next}
use Rattle.lab_frames.specs.BoardSteps.{at_ports}
use Rattle.lab_frames.specs.Steps.{acceptance_due, acceptance_of, or_instruction, taken_or_done, IsBoardStep}

-- a step does one port operation at most
pub few_operations : (o : Option PortOperation) → length (operation_list o) ≤ 1
few_operations None = omega arith
few_operations (Some p) = omega arith

-- what one more operation makes of the panel
abbrev PanelLaw : Type 0
PanelLaw = (past : List Operation) (operation : Operation)
    → panel_after (past ++ operation ∷ []) ≡ panel_next (panel_after past) operation

-- what a port operation, or none, makes of the panel
panel_ported : PanelLaw → (past : List Operation) (o : Option PortOperation)
    → state_after after (panel_after past) o ≡ panel_after (past ++ map Port (operation_list o))
panel_ported law past None = ap panel_after (sym (append-nil past))
panel_ported law past (Some p) = sym (law past (Port p))

-- where no request is accepted, the instruction at PC is the step
pub by_instruction : PanelLaw
    → (past : List Operation) (old new : MachineState) (devices devices' : DeviceState) (did : Stepped)
    → acceptance_due old past ≡ None → RepresentsPast devices past
    → IsOutcome (instruction (answer devices.panel) old) new did
    → Performs (instruction (answer devices.panel) old) (at_ports devices) (at_ports devices')
    → IsBoardStep past old devices new devices' did
by_instruction law past old new devices devices' did none represents o p =
    let P : Option Outcome → Type 0 =
    λ a. devices'.panel ≡ panel_after (past ++ taken_or_done a (or_instruction a past old)) in
    record {
      after_is = rw (none, ← represents) o.after_is;
      answer_is = rw (none, ← represents) o.answer_is;
      represents =
          subst P (sym none) (rw represents at p.state_is ∙ panel_ported law past
          (instruction (answer (panel_after past)) old).operation);
      traffic_is = rw (none, ← represents) p.appended;
    }

-- no operation at a port latches a request
pub stays_unlatched : (p : PanelState) (o : Option PortOperation)
    → (state_after after p o).latched ≡ p.latched
stays_unlatched p None = refl
stays_unlatched p (Some (In port byte)) =
    cond_both (port == 1) (record p { waiting = drop 1 p.waiting }) p (λ q. q.latched ≡ p.latched) (λ _. refl)
    (λ _. refl)
stays_unlatched p (Some (Out port byte)) =
    cond_both (port == 2) (record p { lamps = byte }) p (λ q. q.latched ≡ p.latched) (λ _. refl) (λ _. refl)

-- where none is latched none is accepted
pub unlatched_accepts_none : (m : MachineState) (d : DeviceState) (past : List Operation)
    → RepresentsPast d past
    → d.panel.latched ≡ None → acceptance_due m past ≡ None
unlatched_accepts_none m d past represents unlatched =
    let latched : (panel_after past).latched ≡ None =
    ap (λ (p : PanelState). p.latched) (sym represents) ∙ unlatched in
    ap (λ l. acceptance_of l m) latched
