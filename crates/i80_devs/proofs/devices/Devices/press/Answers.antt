use Rattle.std.proofs.Common.{◌∙◌, ap, rules}
use Rattle.i80_devs.specs.Past.{DeviceState, panel_next, Press}
use Rattle.i80_devs.proofs.PastLemmas.{next_after}
use Rattle.i80_devs.proofs.devices.Devices.press.Goals as goal

pub returns : goal.returns
returns c = record {
  ok = λ past represents.
      (let operation = Press c.args.n in
      next_after operation c.args.self.now.panel c.set_latched.new.self past
      (c.set_latched.ensures ∙ ap (λ
      (d : DeviceState). panel_next d.panel operation) c.self.view_is) represents);
  ports = search rules;
  vector = search rules;
  latched = search rules;
  err = search rules;
}
