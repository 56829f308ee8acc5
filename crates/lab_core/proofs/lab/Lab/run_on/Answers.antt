use Rattle.lab_core.specs.Slices.{after_steps, traffic_of}
use Rattle.lab_core.proofs.lab.Lab.run_on.Goals as goal

pub returns-clause-represents : goal.returns-clause-represents
returns-clause-represents c = λ b s.
    c.leave.ensures (after_steps c.steps-executed.result.0 b) (traffic_of c.steps-executed.result.0 b)
    (c.steps-executed.ensures.represents b s)
