use Rattle.asm_build.proofs.ImageLemmas.{put_goes, put_ends}
use Rattle.asm_build.proofs.image.Image.append.Goals as goal

pub loop-byte-preserved : goal.loop-byte-preserved
loop-byte-preserved c =
    put_goes c.loop-byte.self _ _ c.args.bytes.now c.loop-byte.byte-index c.loop-byte.next
    c.loop-byte-test.true
    c.in_ok-put.ensures c.loop-byte.invariant

pub returns : goal.returns
returns c =
    put_ends c.loop-byte.self _ c.args.bytes.now c.loop-byte.byte-index c.loop-byte.next
    c.loop-byte-test.false c.loop-byte.invariant
