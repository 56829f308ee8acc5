use Rattle.lab80_web.proofs.PostingLemmas.{writes_some, writes_none}
use Rattle.lab80_web.proofs.outputs.send_kept.Goals as goal

pub returns-in-Some-clause-writes : goal.returns-in-Some-clause-writes
returns-in-Some-clause-writes g c =
    writes_some c.args.kernel.now c.args.number c.in-Some.post.now _ _ c.send_post.result c.in-Some.ensures
    c.send_post.ensures

pub returns-in-None-clause-writes : goal.returns-in-None-clause-writes
returns-in-None-clause-writes g c =
    writes_none c.args.kernel.now c.args.number _ c.in-None.ensures c.requires
