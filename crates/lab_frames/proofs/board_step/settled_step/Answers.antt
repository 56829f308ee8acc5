use Rattle.std.proofs.Common.{◌∙◌, ap, arith}
use Rattle.i80_exec.specs.Step.{instruction, answer_of}
use Rattle.i80_devs.specs.Past.{PanelState, answer}
use Rattle.lab_frames.proofs.StepLemmas.{instruction-tells}
use Rattle.lab_frames.proofs.BoardLemmas.{by_instruction, few_operations, stays_unlatched}
use Rattle.lab_frames.proofs.BoardLemmas.{unlatched_accepts_none}
use Rattle.lab_frames.proofs.board_step.settled_step.Goals as goal

pub returns : goal.returns
returns c =
    let machine = c.args.machine.now in
    let devices = c.args.devices.now in
    let outcome = c.step_settled.ensures.outcome.0 in
    let performed = c.step_settled.ensures.outcome.1 in
    let room = performed.spare_is in
    let few = few_operations (instruction (answer devices.panel) machine).operation in
    record {
      step = λ past represents.
          by_instruction c.panel_after_one_more.ensures past machine c.step_settled.new.self devices
          c.step_settled.new.ports (answer_of c.step_settled.result c.step_settled.new.self)
          (unlatched_accepts_none machine devices past represents c.requires.unlatched) represents outcome
          performed;
      sp = rw (outcome.answer_is, outcome.after_is) (instruction-tells (answer devices.panel) machine);
      settles = c.step_settled.ensures.settles;
      moved = c.step_settled.ensures.moved;
      spare = omega arith;
      unlatched =
          ap (λ (p : PanelState). p.latched) performed.state_is
          ∙ stays_unlatched devices.panel (instruction (answer devices.panel) machine).operation
          ∙ c.requires.unlatched;
    }
