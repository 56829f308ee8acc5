use Rattle.std.proofs.Common.{Some, ap, ◌∙◌, arith, rules}
use Rattle.lab_turn.proofs.Acts.{on_top, Went, went, passes_turn, ended}
use Rattle.lab_turn.proofs.queue.take_turn.Given.{Over}
use Rattle.lab_turn.proofs.queue.take_turn.Goals as goal
use Rattle.lab_turn.proofs.queue.take_turn.Goals.{After-exchange-left}

pub wait_for-requires : goal.wait_for-requires
wait_for-requires g c =
    let drew = c.in-Some.ensures.drew in
    let idle = c.requires.idle in
    record {
      table = (c.draw.ensures.same.0 ∙ c.requires.table.0, c.requires.table.1);
      ticket = ap (λ m. m.0.ticket) drew;
      waits = (
        ap (λ m. m.0.found) drew ∙ idle.found,
        ap (λ m. m.0.spent) drew ∙ idle.spent,
        ap (λ m. m.1) drew,
      );
    }

pub exchange-found-requires : goal.exchange-found-requires
exchange-found-requires g c =
    let served = c.wait_for.ensures.served in (
      c.wait_for.ensures.same.0 ∙ (c.draw.ensures.same.0 ∙ c.requires.table.0),
      (
        Some served.value,
        on_top c.wait_for.new.token.me.1 0 (Some served.value)
            (ap (λ m. m.1) served.out),
      ),
    )

-- the turn up to the value that is put back
turn_of : (g : Over) (c : After-exchange-left g)
    → Went g.J.Journaled.entries g.J.Journaled.limit g.J.Journaled.answer g.J.Journaled.is_entry
    g.J.Journaled.is_full
    c.args.token.now.me.0 c.in-Some.ticket c.wait_for.new.token.me c.exchange-left.new.seat.me
    c.act-reply.new.self c.args.call c.act-reply.result
turn_of g c =
    let j = g.J.Journaled in
    let e1 = c.exchange-found.ensures in
    let a = c.act-reply.ensures in
    went j.entries j.limit j.answer j.is_entry j.is_full _ _ _ _ _ _ _ _ _ _ _ _ c.in-Some.ensures.drew
    c.wait_for.ensures.served e1.2 c.in-Some-found.is e1.3 c.exchange-left.ensures.3 c.requires.seat
    record {
      limit = a.limit;
      entered = a.entered;
      answered = a.answered;
      room = a.room;
      refused = a.refused;
      full = a.full;
    }

pub fetch_add-requires : goal.fetch_add-requires
fetch_add-requires g c =
    let j = g.J.Journaled in
    let turn = turn_of g (goal.at.fetch_add-requires g c).After-exchange-left in
    let wide = c.requires.table.1 in (
      c.exchange-left.ensures.0 ∙ (c.exchange-found.ensures.0
          ∙ (c.wait_for.ensures.same.0 ∙ (c.draw.ensures.same.0 ∙ c.requires.table.0))),
      omega arith,
      passes_turn j.entries j.limit j.answer j.is_entry j.is_full _ _ _ _ _ _ _ _ _ _ _ c.requires.idle.spent
          turn,
    )

pub returns : goal.returns
returns g c =
    let j = g.J.Journaled in
    let turn = turn_of g (goal.at.returns g c).After-exchange-left in
    record {
      same = search rules;
      idle = search rules;
      ok =
          ended j.entries j.limit j.answer j.is_entry j.is_full c.args.token.now.table_id _ _ _ _
          c.fetch_add.new.seat.me _ _ _ turn c.fetch_add.ensures.2;
      out_of_tickets = tt;
    }
