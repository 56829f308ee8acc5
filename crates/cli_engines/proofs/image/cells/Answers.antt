use Rattle.cli_engines.proofs.ImageLemmas.{cells_made}
use Rattle.cli_engines.proofs.image.cells.Goals as goal

pub loop-address-init : goal.loop-address-init
loop-address-init c =
    let made =
    cells_made c.args.image.now _ _ _ c.new-cells.ensures.items c.new-cells.ensures.len
    c.in_ok-resize.ensures.items in
    record { count = made.0; same = made.1 }
