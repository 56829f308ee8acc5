use Rattle.std.proofs.Common.{subst}
use Rattle.lab_core.specs.Labs.{RepresentsBoard}
use Rattle.lab_core.specs.Slices.{left_by}
use Rattle.dap_slice.proofs.slice.end_at.Goals as goal

pub returns-in-More : goal.returns-in-More
returns-in-More c = λ was b running after represents.
    rw c.in-More.is (c.stop_if_met.ensures was b
    (subst (λ end. RepresentsBoard c.args.lab.now (left_by end b)) c.in-More.is represents) running after)
