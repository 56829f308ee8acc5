use Rattle.dap_laws.proofs.PointLemmas.{options_kept}
use Rattle.dap_laws.proofs.points.options_are_kept.Goals as goal

pub returns : goal.returns
returns c = options_kept
