use Rattle.asm_hex.proofs.WritingLemmas.{records_next, records_done}
use Rattle.asm_hex.proofs.writing.push_records.Goals as goal

pub loop-address-preserved : goal.loop-address-preserved
loop-address-preserved c =
    records_next _ _ _ _ c.args.cells.now c.loop-address.address c.loop-address.covered
    c.in_ok-covered.covered c.split_at.ensures.back c.in_ok-covered.ensures c.loop-address.invariant

pub returns : goal.returns
returns c =
    records_done _ _ c.loop-address.address c.loop-address.covered c.args.cells.now c.loop-address-test.false
    c.loop-address.invariant
