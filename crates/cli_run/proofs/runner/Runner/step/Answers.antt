use Rattle.std.proofs.Common.{ap, ◌∙◌, subst}
use Rattle.i80_devs.specs.Past.{DeviceState}
use Rattle.cli_run.specs.Runner.{RunnerState, Steps}
use Rattle.cli_run.proofs.RunnerLemmas.{stepped}
use Rattle.cli_run.proofs.runner.Runner.step.Goals as goal

pub returns : goal.returns
returns c =
    let before : RunnerState =
    record {
      machine = c.self.inside.machine;
      devices = c.self.inside.devices;
      last = c.self.inside.last;
    } in
    let now : RunnerState =
    record {
      machine = c.step-self-inside.new.self;
      devices = c.take_out.new.self;
      last = c.step-self-inside.result;
    } in
    subst (λ (r : RunnerState). Steps r now) c.self.view_is
    (stepped before now c.reserve_out.new.self.panel c.in_ok-reserve_out.ensures.panel
    c.step-self-inside.ensures.0.after_is c.step-self-inside.ensures.0.answer_is
    (ap (λ (d : DeviceState). d.panel) c.take_out.ensures.rest ∙ c.step-self-inside.ensures.1.state_is))
