use Rattle.std.proofs.Common.{◌∙◌, ◌<◌, length, get_or, ap, subst}
use Rattle.dap_slice.specs.Counts.{hits_on}
use Rattle.dap_slice.proofs.CountLemmas.{rehit_more, rehit_marked}
use Rattle.dap_slice.proofs.conditions.ConditionalBreakpoints.keep_counts.Goals as goal

pub loop-point-preserved : goal.loop-point-preserved
loop-point-preserved c =
    let ps = c.loop-point.point-items in
    let i = c.loop-point.point-index in
    let all = c.self.inside.points.items in
    let inside : i < length all =
    subst (λ qs. i < length qs) c.deref_mut-point-items.ensures.value c.loop-point-test.true in
    let is = rw (← c.self.view_is) at c.loop-point.invariant in
    let item = get_or ps i c.point-item.result in
    let one = c.hits_on-point.ensures ∙ ap (λ old. hits_on c.args.number old item) c.points.ensures in
    rw (← c.self.view_is)
    (rehit_more (hits_on c.args.number c.args.old.now) all ps i c.point-item.result c.hits_on-point.result
    inside is one)

pub invariant_of-self : goal.invariant_of-self
invariant_of-self c =
    let is = rw (← c.self.view_is) at c.loop-point.invariant in
    rehit_marked (hits_on c.args.number c.args.old.now) c.self.inside.points.items c.loop-point.point-items
    c.loop-point.point-index c.self.inside.points.len c.self.inside.marks is c.self.inside.points.ok.0
    c.self.invariant
