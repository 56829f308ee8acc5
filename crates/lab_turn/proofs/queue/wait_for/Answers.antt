use Rattle.std.proofs.Common.{ap, ◌∙◌, arith}
use Rattle.lab_turn.proofs.Steps.{looks}
use Rattle.lab_turn.proofs.queue.wait_for.Goals as goal

pub load-requires : goal.load-requires
load-requires g c =
    let i = c.loop.invariant in
    let m = i.me in
    let r = c.requires.waits in
    let wide = c.requires.table.1 in (
      i.table ∙ c.requires.table.0,
      omega arith,
      looks _ _ _ _ _ _ c.args.ticket _
          (ap (λ m. m.0.spent) m ∙ r.1) (ap (λ m. m.0.ticket) m ∙ c.requires.ticket)
          (ap (λ m. m.0.found) m ∙ r.0) (ap (λ m. m.1) m ∙ r.2),
    )
