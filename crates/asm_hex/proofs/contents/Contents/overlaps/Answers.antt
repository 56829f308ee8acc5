use Rattle.std.proofs.Common.{length}
use Rattle.asm_hex.proofs.ContentsLemmas.{overlap_here, overlap_next, marked}
use Rattle.asm_hex.proofs.contents.Contents.overlaps.Goals as goal

pub returns-then-index : goal.returns-then-index
returns-then-index c =
    overlap_here c.args.self.now.bytes c.args.address c.loop-offset.offset c.args.bytes.now _
    c.loop-offset-test.true
    (rw (← c.self.view_is)
    (marked c.self.inside.taken.items _ c.index.result.now _ c.args.address c.from.result c.loop-offset.offset
    (length c.args.bytes.now) c.self.invariant c.requires c.loop-offset-test.true c.from.ensures
    c.index.ensures
    c.if-index.true)) c.loop-offset.invariant

pub loop-offset-preserved : goal.loop-offset-preserved
loop-offset-preserved c =
    overlap_next c.args.self.now.bytes c.args.address c.loop-offset.offset c.args.bytes.now _
    c.loop-offset-test.true
    (rw (← c.self.view_is)
    (marked c.self.inside.taken.items _ c.index.result.now _ c.args.address c.from.result c.loop-offset.offset
    (length c.args.bytes.now) c.self.invariant c.requires c.loop-offset-test.true c.from.ensures
    c.index.ensures
    c.if-index.false)) c.loop-offset.invariant
