use Rattle.std.proofs.Common.{rules}
use Rattle.dap_conditions.proofs.HitLemmas.{no_sign}
use Rattle.dap_conditions.proofs.hits.equals.Goals as goal

pub returns-in-None : goal.returns-in-None
unfolding lib.Utf8.encode
returns-in-None c = rw (no_sign 61 c.args.text.now c.in-None.ensures.cases) (search rules)
