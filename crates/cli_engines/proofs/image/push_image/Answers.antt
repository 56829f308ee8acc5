use Rattle.std.proofs.Common.{arith}
use Rattle.cli_engines.proofs.ImageLemmas.{length-cells_of}
use Rattle.cli_engines.proofs.image.push_image.Goals as goal

pub push_lines-requires : goal.push_lines-requires
push_lines-requires c =
    rw (c.as_slice.ensures.value, c.in_ok-cells.ensures, length-cells_of c.args.image.now) (omega arith)
