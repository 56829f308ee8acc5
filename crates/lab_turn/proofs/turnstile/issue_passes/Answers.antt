use Rattle.std.proofs.Common.{◌≡◌, ◌+◌, ◌∷◌, [], ap, ◌∙◌, arith, length, length-append}
use Rattle.lab_turn.specs.History.{fresh_pass}
use Rattle.lab_turn.specs.Turns.{pass_of}
use Rattle.lab_turn.proofs.Steps.{splits}
use Rattle.lab_turn.proofs.Dealing.{fresh_push, dealt, maker_step}
use Rattle.lab_turn.proofs.turnstile.issue_passes.Goals as goal

pub split_seat-other-requires : goal.split_seat-other-requires
split_seat-other-requires g c =
    let i = c.loop-seat.invariant in
    let r = c.requires in
    let made : c.loop-seat.token.me.0.made ≡ c.loop-seat.seat = ap (λ m. m.0.made) i.me in (
      i.table ∙ r.table.0,
      omega (arith, r.table.1),
      splits _ _ _ _ _ _ (ap (λ m. m.0.spent) i.me)
          (ap (λ m. m.0.makes) i.me) (omega (arith, r.seats.1)),
    )

pub loop-seat-preserved : goal.loop-seat-preserved
loop-seat-preserved g c =
    let i = c.loop-seat.invariant in
    let s = c.split_seat-other.ensures in
    let items = c.in-Ok.ensures.items in
    let table = c.args.table.now.table_id in
    let limit = g.J.Journaled.limit c.args.table.now.key.over.value in
    let cap = c.in-Ok.ensures.capacity in
    let place : c.loop-seat.seat ≡ 1 + length c.loop-seat.passes.items = omega (arith, i.count) in
    let new =
    dealt table c.args.seats limit c.split_seat-other.result.table_id c.loop-seat.seat _ _
    (s.3 ∙ (i.table ∙ c.requires.table.0)) i.me s.4 in
    let len : length c.push.new.self.items ≡ length c.loop-seat.passes.items + 1 =
    omega (
      arith,
      ap length items,
      length-append c.loop-seat.passes.items
          (pass_of c.split_seat-other.result.table_id c.split_seat-other.result.me.0 ∷ []),
    ) in
    record {
      table = s.0 ∙ i.table;
      me = maker_step table c.args.seats limit _ _ _ i.me s.2;
      fresh =
          fresh_push record { table = table; seats = c.args.seats; limit = limit } 1 _ _ _ i.fresh items
          (new ∙ ap (fresh_pass record { table = table; seats = c.args.seats; limit = limit }) place);
      count = omega (arith, i.count);
      room = omega (arith, i.room);
    }
