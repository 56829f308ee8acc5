use Rattle.std.proofs.Common.{◌∙◌, ap}
use Rattle.i80_devs.specs.Past.{DeviceState, panel_next, Typed}
use Rattle.i80_devs.proofs.PastLemmas.{next_after}
use Rattle.i80_devs.proofs.devices.Devices.type_bytes.Goals as goal

pub returns-clause-ok : goal.returns-clause-ok
returns-clause-ok c past represents =
    let operation = Typed c.args.bytes.now in
    next_after operation c.args.self.now.panel c.type_bytes.new.self past
    (c.in_ok-type_bytes.ensures.ok ∙ ap (λ (d : DeviceState). panel_next d.panel operation) c.self.view_is)
    represents
