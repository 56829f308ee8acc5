use Rattle.std.proofs.Common.{◌∙◌, ◌<◌, ◌+◌, drop, length, arith}
use Rattle.std.proofs.lemmas.List.{drop_more}
use Rattle.lab_core.proofs.ChangeLemmas.{bytes-wrapped}
use Rattle.lab_core.proofs.lab.changes.store.Goals as goal

pub loop-byte-preserved : goal.loop-byte-preserved
loop-byte-preserved c =
    let address = c.loop-byte.address in
    let i = c.loop-byte.byte-index in
    let bytes = c.args.bytes.now in
    let inside : i < length bytes = omega arith in
    let one = drop_more bytes i 0 inside in
    bytes-wrapped (address + 1) (drop (i + 1) bytes) c.poke.new.self
    ∙ rw (c.poke.ensures) (rw one at c.loop-byte.invariant)
