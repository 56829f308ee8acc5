use Rattle.asm_hex.proofs.CellsLemmas.{no_bytes_yet}
use Rattle.asm_hex.proofs.memory.cells.Goals as goal

pub loop-address-init : goal.loop-address-init
loop-address-init c =
    let empty =
    no_bytes_yet c.args.bytes.now _ _ _ c.new-cells.ensures.items c.new-cells.ensures.len
    c.in_ok-resize.ensures.items in
    record { count = empty.0; same = empty.1 }
