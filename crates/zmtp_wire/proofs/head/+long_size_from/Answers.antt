use Rattle.std.proofs.Common.{sym, ap, ◌∙◌, ◌∷◌, arith, ◌≤◌, ◌*◌, ◌+◌, ◌-◌}
use Rattle.zmtp_wire.specs.Head.{room_at}
use Rattle.zmtp_wire.proofs.HeadLemmas.{long_step}
use Rattle.zmtp_wire.proofs.head.+long_size_from.Goals as goal

pub returns : goal.returns
returns t c =
    let fits : c.args.size * 256 + c.from.result ≤ room_at (c.args.left - 1) =
    rw c.room_with.ensures at c.if-size-room_with.false in
    c.long_size_from.ensures ∙ long_step c.args.kind c.args.left c.args.size c.from.result c.args.bytes.now
    c.in-Some.others.now (c.in-Some.ensures.cases.0 ∙ ap (λ x. x ∷ c.in-Some.others.now)
    (sym c.from.ensures)) (omega arith) fits
