use Rattle.jup_wire.proofs.SealLemmas.{sealed_from}
use Rattle.jup_wire.proofs.sealing.seal.Goals as goal

pub returns : goal.returns
returns c =
    sealed_from c.args.key.now c.args.draft _ _ c.join.result
    c.in_ok-parts.ensures c.in_ok-digits.ensures c.join.ensures
