use Rattle.std.proofs.Common.{ap}
use Rattle.dap_session.specs.Represents.{SessionFields}
use Rattle.dap_session.proofs.StandsLemmas.{stands_sliced}
use Rattle.dap_session.proofs.session.Session.run_within.Goals as goal

pub invariant_of-self-2 : goal.invariant_of-self-2
invariant_of-self-2 c =
    stands_sliced _ c.args.limit c.held_ends-held.result _ c.args.self.now c.self.inside.lab _
    c.in_ok-slice.slice
    (ap (λ (v : SessionFields). v.lab) c.self.view_is) c.requires.2 c.in_ok-slice.ensures.made
    c.self.invariant
