use Rattle.std.proofs.Common.{true, false, refl, sym}
use Rattle.asm_build.proofs.ImageLemmas.{overlap_goes, overlap_ends}
use Rattle.asm_build.proofs.image.Image.overlaps.Goals as goal

pub loop-init : goal.loop-init
loop-init c = refl

pub returns-then-has : goal.returns-then-has
returns-then-has c =
    overlap_goes c.args.self.now c.args.bytes.now c.loop.index c.loop.next _ true c.loop-test.true
    (sym c.if-has.ensures) c.loop.invariant

pub loop-preserved : goal.loop-preserved
loop-preserved c =
    overlap_goes c.args.self.now c.args.bytes.now c.loop.index c.loop.next _ false c.loop-test.true
    (sym c.if-has.ensures) c.loop.invariant

pub returns : goal.returns
returns c =
    overlap_ends c.args.self.now c.args.bytes.now c.loop.index c.loop.next _ c.loop-test.false
    c.loop.invariant
