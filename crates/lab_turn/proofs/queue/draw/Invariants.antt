use Rattle.std.proofs.Common.{◌≡◌}
use Rattle.lab_turn.proofs.queue.draw.Given as goal

abbrev pub invariant-loop : goal.invariant-loop
invariant-loop g l = record {
  table : l.token.table_id ≡ l.initial.token.table_id;
  id : l.token.id ≡ l.initial.token.id;
  me : l.token.me ≡ l.initial.token.me;
}
