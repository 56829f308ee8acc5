use Rattle.std.proofs.lemmas.Result.{IfOk-weaker}
use Rattle.jup_wire.proofs.SealLemmas.{opens_again}
use Rattle.jup_wire.proofs.sealing.seal_message.Goals as goal

pub returns : goal.returns
returns c = record {
  sealed = c.seal.ensures;
  opens =
      IfOk-weaker c.seal.result _ _ (λ frames. opens_again c.args.key.now c.args.draft frames)
      c.seal.ensures;
}
