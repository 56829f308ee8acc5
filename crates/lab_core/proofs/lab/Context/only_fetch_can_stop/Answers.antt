use Rattle.std.proofs.Common.{◌≡◌, ◌∙◌, None, sym, rules, arith}
use Rattle.lab_core.proofs.QuietLemmas.{found_latched}
use Rattle.lab_core.proofs.lab.Context.only_fetch_can_stop.Goals as goal

pub returns-clause-only_fetch : goal.returns-clause-only_fetch
returns-clause-only_fetch c = λ none.
    let latched : c.args.self.now.devices.panel.latched ≡ c.request.result =
    found_latched c.args.self.now.devices.panel c.request.result c.request.ensures.value in
    search rules

pub returns-clause-sure : goal.returns-clause-sure
returns-clause-sure c = λ only_fetch.
    let latched : c.args.self.now.devices.panel.latched ≡ c.request.result =
    found_latched c.args.self.now.devices.panel c.request.result c.request.ensures.value in
    let none : c.request.result ≡ None = sym latched ∙ only_fetch.unlatched in
    let is = rw none at c.is_none.ensures in
    grind (arith, is)
