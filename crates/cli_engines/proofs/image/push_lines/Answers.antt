use Rattle.cli_engines.proofs.ImageLemmas.{lines_next, lines_done}
use Rattle.cli_engines.proofs.image.push_lines.Goals as goal

pub loop-address-preserved : goal.loop-address-preserved
loop-address-preserved c =
    lines_next _ _ _ _ c.args.cells.now c.loop-address.address c.loop-address.printed c.in_ok-printed.printed
    c.split_at.ensures.back c.in_ok-printed.ensures c.loop-address.invariant

pub returns : goal.returns
returns c =
    lines_done _ _ c.loop-address.address c.loop-address.printed c.args.cells.now c.loop-address-test.false
    c.loop-address.invariant
