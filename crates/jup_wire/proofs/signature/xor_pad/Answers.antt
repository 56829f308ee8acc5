use Rattle.std.proofs.Common.{◌<◌, length, arith}
use Rattle.jup_wire.proofs.SignatureLemmas.{padded_more}
use Rattle.jup_wire.proofs.signature.xor_pad.Goals as goal

pub loop-byte-preserved : goal.loop-byte-preserved
loop-byte-preserved c =
    let inside : c.loop-byte.byte-index < length c.args.block = omega arith in
    padded_more c.args.pad c.args.block _ c.loop-byte.byte-index inside c.loop-byte.invariant
