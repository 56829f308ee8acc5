use Rattle.std.proofs.Common.{◌≡◌, ◌+◌, ◌≤◌, length, vec_capacity, []}
use Rattle.lab_turn.specs.History.{FreshFrom}
use Rattle.lab_turn.specs.Turns.{maker_at}
use Rattle.lab_turn.proofs.turnstile.issue_passes.Given as goal

abbrev pub invariant-loop-seat : goal.invariant-loop-seat
invariant-loop-seat g l = record {
  table : l.token.table_id ≡ l.fn.token.table_id;
  me : l.token.me ≡ (maker_at l.seats (g.J.Journaled.limit l.table.key.over.value) l.seat, []);
  fresh : FreshFrom 1 record {
    table = l.table.table_id;
    seats = l.seats;
    limit = g.J.Journaled.limit l.table.key.over.value;
  } l.passes.items;
  count : length l.passes.items + 1 ≡ l.seat;
  room : l.seats ≤ vec_capacity l.passes;
}
