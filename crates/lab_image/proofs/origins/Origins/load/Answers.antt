use Rattle.std.proofs.Common.{◌≡◌, ◌∙◌}
use Rattle.lab_image.specs.Loads.{load_of}
use Rattle.lab_image.proofs.SpanLemmas.{spans_overlay}
use Rattle.lab_image.proofs.TellLemmas.{appends_load, tells_over}
use Rattle.lab_image.proofs.origins.Origins.load.Goals as goal

pub invariant_of-self : goal.invariant_of-self
invariant_of-self c =
    rw (c.in_ok-spans.ensures, c.deref-2.ensures.value, c.deref-3.ensures.value)
    (spans_overlay 0 c.self.inside.spans.items c.in_ok-own.own.items c.self.invariant
    c.in_ok-own.ensures.sorted)

pub returns-clause-past : goal.returns-clause-past
returns-clause-past c =
    let old : c.deref-2.result.now ≡ c.args.self.now = c.deref-2.ensures.value ∙ c.self.view_is in
    let own = rw c.deref.ensures.value at c.in_ok-own.ensures.origins in
    appends_load (load_of c.args.source c.args.built.now) c.args.self.now c.in_ok-spans.spans.items
    (rw (c.in_ok-spans.ensures, old, c.deref-3.ensures.value)
    (tells_over c.args.source c.args.built.now.rows.items c.args.self.now c.in_ok-own.own.items
    c.in_ok-own.ensures.sorted own))
