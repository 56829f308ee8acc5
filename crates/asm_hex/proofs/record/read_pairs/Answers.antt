use Rattle.asm_hex.proofs.RecordLemmas.{pair_spelled}
use Rattle.asm_hex.proofs.record.read_pairs.Goals as goal

pub loop-rest-preserved : goal.loop-rest-preserved
loop-rest-preserved c =
    rw c.in_ok-push.ensures.items (pair_spelled c.loop-rest.bytes.items c.split_at.result.0.now
    c.split_at.result.1.now c.loop-rest.rest.now c.in-Some.byte _ c.loop-rest-test.true
    c.split_at.ensures.front
    c.split_at.ensures.back c.in-Some.ensures c.loop-rest.invariant)
