use Rattle.std.proofs.Common.{sym}
use Rattle.zmtp_wire.proofs.HeadLemmas.{first_broken-past}
use Rattle.zmtp_wire.proofs.head.+first_broken_from.Goals as goal

pub returns-then-place-ge32 : goal.returns-then-place-ge32
returns-then-place-ge32 t c = sym (first_broken-past c.args.place c.args.bytes.now c.if-place-ge32.true)
