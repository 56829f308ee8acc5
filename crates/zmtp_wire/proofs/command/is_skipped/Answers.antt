use Rattle.zmtp_wire.proofs.CommandLemmas.{not_skipped}
use Rattle.zmtp_wire.proofs.command.is_skipped.Goals as goal

pub returns-in-Some-clause-no : goal.returns-in-Some-clause-no
returns-in-Some-clause-no c =
    not_skipped c.ne.result c.args.body.now c.in-Some.named.name.now c.in-Some.named.others.now
    c.as_slice.result.now c.in-Some.ensures.found c.as_slice.ensures c.ne.ensures
