use Rattle.std.proofs.Common.{◌∙◌, ap}
use Rattle.i80_devs.specs.Past.{DeviceState, panel_next, Taken}
use Rattle.i80_devs.proofs.PastLemmas.{next_after}
use Rattle.i80_devs.proofs.devices.Devices.take_request.Goals as goal

pub returns-clause-past : goal.returns-clause-past
returns-clause-past c past represents =
    let operation = Taken in
    next_after operation c.args.self.now.panel c.set_latched.new.self past
    (c.set_latched.ensures ∙ ap (λ (d : DeviceState). panel_next d.panel operation) c.self.view_is) represents
