use Rattle.cli_io.proofs.HexLemmas.{paired_more, paired_all}
use Rattle.cli_io.proofs.hex_input.pair_digits.Goals as goal

pub loop-rest-preserved : goal.loop-rest-preserved
loop-rest-preserved c =
    rw (c.in_ok-push.ensures.items, c.split_at.ensures.back, c.split_at.ensures.front)
    (paired_more _ _ _ c.loop-rest.invariant c.loop-rest-test.true)

pub returns : goal.returns
returns c = paired_all _ _ _ c.loop-rest.invariant c.loop-rest-test.false
