use Rattle.std.proofs.Common.{rules}
use Rattle.dap_conditions.proofs.HitLemmas.{no_sign}
use Rattle.dap_conditions.proofs.hits.below.Goals as goal

pub returns-in_err-number-in-None : goal.returns-in_err-number-in-None
unfolding lib.Utf8.encode
returns-in_err-number-in-None c = rw (no_sign 61 c.args.text.now c.in-None.ensures.cases) (search rules)

pub returns-in-1 : goal.returns-in-1
unfolding lib.Utf8.encode
returns-in-1 c = rw (no_sign 61 c.args.text.now c.in-None.ensures.cases) (search rules)

pub returns-in_default : goal.returns-in_default
unfolding lib.Utf8.encode
returns-in_default c = rw (no_sign 61 c.args.text.now c.in-None.ensures.cases) (search rules)
