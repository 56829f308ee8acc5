use Rattle.std.proofs.Common.{refl, ap, ◌∙◌, arith}
use Rattle.lab_turn.proofs.Steps.{reads, draws}
use Rattle.lab_turn.proofs.queue.draw.Goals as goal

pub load-tickets-requires : goal.load-tickets-requires
load-tickets-requires g c =
    let i = c.loop.invariant in
    let wide = c.requires.table.1 in (
      i.table ∙ c.requires.table.0,
      omega arith,
      reads _ _ _ _ _ _ _
          (ap (λ m. m.0.spent) i.me ∙ c.requires.idle.spent),
    )

pub compare_exchange-found-requires : goal.compare_exchange-found-requires
compare_exchange-found-requires g c =
    let i = c.loop.invariant in
    let l = c.load-tickets.ensures in
    let m = l.2.1 c.if-tickets.false ∙ i.me in
    let r = c.requires.idle in
    let wide = c.requires.table.1 in
    let small = c.load-tickets.type_inv in
    let not_last = c.if-tickets.false in (
      l.0 ∙ i.table ∙ c.requires.table.0,
      omega arith,
      draws _ _ _ _ _ _ _ _ _ (ap (λ m. m.0.spent) m ∙ r.spent) (ap (λ m. m.0.ticket) m ∙ r.ticket)
          (ap (λ m. m.0.found) m ∙ r.found) (omega arith) refl,
    )

pub loop-preserved : goal.loop-preserved
loop-preserved g c =
    let i = c.loop.invariant in
    let l = c.load-tickets.ensures in
    let x = c.compare_exchange-found.ensures in
    record {
      table = x.0 ∙ (l.0 ∙ i.table);
      id = x.1 ∙ (l.1 ∙ i.id);
      me = x.2.1 c.if-found-tickets.false ∙ (l.2.1 c.if-tickets.false ∙ i.me);
    }
