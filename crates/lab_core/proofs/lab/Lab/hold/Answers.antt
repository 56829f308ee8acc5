use Rattle.std.proofs.Common.{sym, subst}
use Rattle.lab_core.specs.Labs.{LabState, RepresentsBoard}
use Rattle.lab_core.proofs.MomentLemmas.{stands_held}
use Rattle.lab_core.proofs.lab.Lab.hold.Goals as goal

pub returns : goal.returns
returns c = λ b s-now.
    let Q : LabState → Type 0 = λ lab. RepresentsBoard lab b in
    stands_held _ b (subst Q (sym c.self.view_is) s-now)
