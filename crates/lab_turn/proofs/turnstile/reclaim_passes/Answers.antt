use Rattle.std.proofs.Common.{◌≡◌, ap, ◌∙◌, arith}
use Rattle.lab_turn.specs.History.{PassState}
use Rattle.lab_turn.proofs.Steps.{joins}
use Rattle.lab_turn.proofs.Closing.{of_last, of_front, gathered_more, token_table}
use Rattle.lab_turn.proofs.turnstile.reclaim_passes.Goals as goal

pub join_seat-requires : goal.join_seat-requires
join_seat-requires g c =
    let i = c.loop-pass.invariant in
    let table = c.args.table.now.table_id in
    let is = c.into_token.ensures in
    let here =
    of_last (λ (p : PassState _). p.turnstile.table ≡ table) _ _ _ c.in-Some.ensures.items i.rest in
    let words = c.requires.table.1 in (
      i.table ∙ c.requires.table.0,
      token_table table _ _ is here,
      is.idle.bare,
      omega arith,
      joins _ _ _ _ _ _ _ _ i.gathered.same.5 is.idle.spent is.idle.ticket is.idle.found,
    )

pub loop-pass-preserved : goal.loop-pass-preserved
loop-pass-preserved g c =
    let i = c.loop-pass.invariant in
    let j = c.join_seat.ensures in
    let is = c.into_token.ensures in
    record {
      table = j.0 ∙ i.table;
      bare = ap (λ m. m.1) j.2 ∙ i.bare;
      rest =
          of_front (λ (p : PassState _). p.turnstile.table ≡ c.args.table.now.table_id) _ _ _
          c.in-Some.ensures.items i.rest;
      gathered =
          gathered_more c.into_token.result.table_id _ _ _ _ _ _ c.into_token.result.me.0 _ i.gathered
          c.in-Some.ensures.items is.pass (ap (λ m. m.0) j.2);
    }
