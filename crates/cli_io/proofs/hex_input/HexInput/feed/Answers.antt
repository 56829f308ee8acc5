use Rattle.cli_io.proofs.HexLemmas.{bad_at}
use Rattle.cli_io.proofs.hex_input.HexInput.feed.Goals as goal

pub returns-in-Err-clause-bad : goal.returns-in-Err-clause-bad
returns-in-Err-clause-bad c is_bad =
    bad_at c.args.piece.now c.loop-byte.byte-index c.loop-byte-test.true (c.in-Err.ensures.bad is_bad)
