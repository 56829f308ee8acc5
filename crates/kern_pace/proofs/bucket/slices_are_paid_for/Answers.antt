use Rattle.kern_pace.proofs.BucketLemmas.{is_paid_for, is_within_rate}
use Rattle.kern_pace.proofs.bucket.slices_are_paid_for.Goals as goal

pub returns-clause-paid : goal.returns-clause-paid
returns-clause-paid c = is_paid_for

pub returns-clause-rate : goal.returns-clause-rate
returns-clause-rate c = is_within_rate
