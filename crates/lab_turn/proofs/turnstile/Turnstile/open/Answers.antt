use Rattle.std.proofs.Common.{[], sym, ap, ◌∙◌, arith}
use Rattle.lab_turn.specs.Turns.{maker_at}
use Rattle.lab_turn.proofs.turnstile.Turnstile.open.Goals as goal

pub issue_passes-requires : goal.issue_passes-requires
issue_passes-requires g c =
    let made = c.in-Ok-table_over.ensures in
    let L = g.J.Journaled.limit in
    let over = sym made.key.1 in
    record {
      table = (made.table, made.shape.0);
      seats = (c.requires.seats.0, sym made.key.0);
      maker = made.token ∙ ap (λ v. (maker_at c.args.seats (L v) 1, [])) over;
      room = (c.in-Ok.ensures.items, omega (arith, c.in-Ok.ensures.capacity));
    }
