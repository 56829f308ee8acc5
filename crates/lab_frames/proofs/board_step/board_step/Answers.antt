use Rattle.std.proofs.Common.{◌∙◌, ap}
use Rattle.i80_devs.specs.Past.{DeviceState, RepresentsPast}
use Rattle.lab_frames.proofs.BoardLemmas.{by_instruction}
use Rattle.lab_frames.proofs.board_step.board_step.Goals as goal

pub returns-in-None-clause-step : goal.returns-in-None-clause-step
returns-in-None-clause-step c = λ past represents.
    let machine = c.in-None.ensures.unchanged.0 in
    let devices = c.in-None.ensures.unchanged.1 in
    let kept : RepresentsPast c.accept.new.devices past = ap (λ (d : DeviceState). d.panel) devices
    ∙ represents in
    rw (← machine, ← devices) (by_instruction c.panel_after_one_more.ensures past c.accept.new.machine
    c.step.new.self c.accept.new.devices c.step.new.ports c.step.result
    (rw machine (c.in-None.ensures.none past represents)) kept c.step.ensures.0 c.step.ensures.1)
