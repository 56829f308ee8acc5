use Rattle.std.proofs.Common.{◌<◌, length, subst}
use Rattle.dap_slice.specs.Hits.{none_yet}
use Rattle.dap_slice.proofs.CountLemmas.{rehit_more, rehit_marked}
use Rattle.dap_slice.proofs.conditions.ConditionalBreakpoints.forget_hits.Goals as goal

pub loop-point-preserved : goal.loop-point-preserved
loop-point-preserved c =
    let ps = c.loop-point.point-items in
    let i = c.loop-point.point-index in
    let all = c.self.inside.points.items in
    let inside : i < length all =
    subst (λ qs. i < length qs) c.deref_mut-point-items.ensures.value c.loop-point-test.true in
    let is = rw (← c.self.view_is) at c.loop-point.invariant in
    rw (← c.self.view_is)
    (rehit_more (λ p. none_yet p.hits) all ps i c.point-item.result c.none_yet-point.result inside is
    c.none_yet-point.ensures)

pub invariant_of-self : goal.invariant_of-self
invariant_of-self c =
    let is = rw (← c.self.view_is) at c.loop-point.invariant in
    rehit_marked (λ p. none_yet p.hits) c.self.inside.points.items c.loop-point.point-items
    c.loop-point.point-index
    c.self.inside.points.len c.self.inside.marks is c.self.inside.points.ok.0 c.self.invariant
