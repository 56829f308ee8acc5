use Rattle.dap_laws.proofs.PointLemmas.{verified_met}
use Rattle.dap_laws.proofs.points.verified_is_met.Goals as goal

pub returns : goal.returns
returns c = verified_met
