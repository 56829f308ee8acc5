use Rattle.std.proofs.Common.{sym, subst}
use Rattle.lab_core.specs.Labs.{LabState, RepresentsBoard}
use Rattle.lab_core.specs.Moments.{MomentState, IsMomentOf}
use Rattle.lab_core.proofs.MomentLemmas.{stands_put_back}
use Rattle.lab_core.proofs.lab.Lab.put_back.Goals as goal

pub returns-clause-ok : goal.returns-clause-ok
returns-clause-ok c = λ was now i s-now.
    let P : MomentState → Type 0 = λ m. IsMomentOf m was in
    let Q : LabState → Type 0 = λ lab. RepresentsBoard lab now in
    stands_put_back _ was now _ c.in_ok-machine.machine c.in_ok-devices.devices c.in_ok-frames.frames
    (subst P (sym c.moment.view_is) i)
    (subst Q (sym c.self.view_is) s-now)
    c.in_ok-machine.ensures
    c.in_ok-devices.ensures
    c.in_ok-frames.ensures
