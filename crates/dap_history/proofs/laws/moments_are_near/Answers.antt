use Rattle.std.proofs.Common.{arith}
use Rattle.dap_history.proofs.SpacingLemmas.{moment_near, stayed}
use Rattle.dap_history.proofs.laws.moments_are_near.Goals as goal

pub returns-clause-near : goal.returns-clause-near
returns-clause-near c = moment_near

pub returns-clause-stayed : goal.returns-clause-stayed
returns-clause-stayed c = λ unit now later order bound stays.
    stayed unit now later order (omega arith) stays
