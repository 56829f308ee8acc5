use Rattle.std.proofs.Common.{◌≡◌, [], vec_len, All}
use Rattle.lab_turn.specs.Turns.{ReclaimsPasses}
use Rattle.lab_turn.proofs.turnstile.reclaim_passes.Given as goal

abbrev pub invariant-loop-pass : goal.invariant-loop-pass
invariant-loop-pass g l = record {
  table : l.token.table_id ≡ l.fn.token.table_id;
  bare : l.token.me.1 ≡ [];
  rest : All (λ p. p.turnstile.table ≡ l.table.table_id) l.passes.items;
  gathered : ReclaimsPasses l.fn.passes.items l.passes.items l.fn.token.me.0 l.token.me.0;
}

abbrev pub decreases-loop-pass : goal.decreases-loop-pass
decreases-loop-pass g l = vec_len l.passes
