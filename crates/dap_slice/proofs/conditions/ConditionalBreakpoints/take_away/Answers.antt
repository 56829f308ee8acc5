use Rattle.dap_slice.proofs.TallyLemmas.{taken_marked}
use Rattle.dap_slice.proofs.conditions.ConditionalBreakpoints.take_away.Goals as goal

pub invariant_of-self : goal.invariant_of-self
invariant_of-self c =
    taken_marked c.self.inside.points.items c.take_away.new.points c.deref.result.now c.self.inside.points.len
    c.self.inside.marks (rw c.deref_mut.ensures.value at c.take_away.ensures) c.self.inside.points.ok.0
    c.self.invariant
