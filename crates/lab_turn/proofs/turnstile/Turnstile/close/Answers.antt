use Rattle.std.proofs.Common.{◌≡◌, ℕ, zero, suc, ◌<◌, Bool, false, List, [], ◌∷◌, get_or, set, Some, refl}
use Rattle.std.proofs.Common.{sym, ap, ◌∙◌, subst, arith, length, All}
use Rattle.std.specs.Slots.{slots_len, slots_filled}
use mathlib.Core.Option.{some-injective}
use Rattle.lab_turn.specs.History.{IsHistoryOf, PassState}
use Rattle.lab_turn.proofs.Closing.{closes, of_last, of_front, token_table}
use Rattle.lab_turn.proofs.turnstile.Turnstile.close.Given.{Over}
use Rattle.lab_turn.proofs.turnstile.Turnstile.close.Goals as goal
use Rattle.lab_turn.proofs.turnstile.Turnstile.close.Goals.{After-take-taken, After-into_token-token}

-- all passes are there
all_there : (g : Over) (c : After-take-taken g) → length c.args.passes.items ≡ c.args.self.seats
all_there g c =
    let n = c.len.ensures in
    let same = c.if-len-self.false in
    omega (arith, ap (λ t. t.seats) c.self.view_is)

-- the value lies in the slot, with the whole history
value_there : (g : Over) (c : After-take-taken g) → (x : g.row.J.Denot) × (c.take-taken.result ≡ Some x)
    × (g.J.Journaled.limit x ≡ c.args.self.limit) × IsHistoryOf c.args.self c.args.passes.items
    (g.J.Journaled.entries x)
value_there g c =
    let E = g.J.Journaled.entries in
    let L = g.J.Journaled.limit in
    let key = c.self.inside.table.shared.key in
    let seats : c.args.self.seats ≡ key.seats = ap (λ t. t.seats) (sym c.self.view_is) ∙ c.self.invariant.2 in
    let limit : c.args.self.limit ≡ L key.over.value = ap (λ t. t.limit) (sym c.self.view_is) in
    let token = c.into_token-token.ensures in
    let h =
    closes E L key.seats (L key.over.value) c.args.self seats limit c.into_token-token.result.table_id _ _
    c.in-Some.last _ _ _ _ _ c.close_with-closed.ensures.values.2 c.in-Some.ensures.items token.pass
    c.reclaim_passes.ensures.all (all_there g c) in
    (h.0, some-injective c.take-taken.result (Some h.0) (sym c.take-taken.ensures.value ∙ h.1), h.2, h.3)

pub unreachable-requires-in_default-taken : goal.unreachable-requires-in_default-taken
unreachable-requires-in_default-taken g c =
    let there = value_there g (goal.at.unreachable-requires-in_default-taken g c).After-take-taken in
    c.in_default-taken.not-Some there.0 there.1

pub returns : goal.returns
returns g c =
    let at = (goal.at.returns g c).After-take-taken in
    let there = value_there g at in
    let full = all_there g at in
    let both : Some there.0 ≡ Some c.in-Some-taken.value = sym there.1 ∙ c.in-Some-taken.is in
    let it : there.0 ≡ c.in-Some-taken.value = cc in
    record {
      history =
          subst (λ (x : g.row.J.Denot). IsHistoryOf c.args.self c.args.passes.items (g.J.Journaled.entries x))
          it there.3;
      limit = ap g.J.Journaled.limit (sym it) ∙ there.2;
      all = full;
      missing = (λ wrong. absurd cc, λ other. absurd (other full));
      err = tt;
    }

pub returns-then-len-self : goal.returns-then-len-self
returns-then-len-self g c =
    let n = c.len.ensures in
    let seats = ap (λ t. t.seats) c.self.view_is in
    record {
      history = tt;
      limit = tt;
      all = tt;
      missing = (λ yes equal. c.if-len-self.true (omega (arith, seats, equal)), λ other. refl);
      err = refl;
    }

-- each pass is of the table
of_table : (g : Over) (c : After-into_token-token g)
    → All (λ p. p.turnstile.table ≡ c.self.inside.table.shared.table_id) c.args.passes.items
of_table g c =
    λ k d inside. ap (λ t. t.table) (c.requires k d inside) ∙ ap (λ t. t.table) (sym c.self.view_is)

-- and so is the token of the last
token_there : (g : Over) (c : After-into_token-token g)
    → c.into_token-token.result.table_id ≡ c.self.inside.table.shared.table_id
token_there g c =
    let table = c.self.inside.table.shared.table_id in
    token_table table _ _ c.into_token-token.ensures
    (of_last (λ (p : PassState _). p.turnstile.table ≡ table) _ _ _ c.in-Some.ensures.items (of_table g c))

pub reclaim_passes-requires : goal.reclaim_passes-requires
reclaim_passes-requires g c =
    let table = c.self.inside.table.shared.table_id in
    let at = (goal.at.reclaim_passes-requires g c).After-into_token-token in
    record {
      table = (token_there g at, c.self.invariant.0);
      idle = c.into_token-token.ensures.idle;
      passes =
          of_front (λ (p : PassState _). p.turnstile.table ≡ table) _ _ _ c.in-Some.ensures.items
          (of_table g at);
    }

pub close_with-closed-requires : goal.close_with-closed-requires
close_with-closed-requires g c =
    c.reclaim_passes.ensures.token.0
    ∙ token_there g (goal.at.close_with-closed-requires g c).After-into_token-token

pub take-taken-requires : goal.take-taken-requires
take-taken-requires g c =
    let closed = c.close_with-closed.ensures in
    let one : slots_len c.close_with-closed.result.slots ≡ 1 = closed.counts.1 ∙ c.self.invariant.1 in
    let inside : 0 < slots_len c.close_with-closed.result.slots = omega (arith, one) in
    (inside, closed.values.1 0 (omega arith) inside)

-- the one slot is empty once its value was taken
emptied : (filled : List Bool) (k : ℕ) → k < 1 → get_or (set filled 0 false) k false ≡ false
emptied [] k below = refl
emptied (x ∷ xs) zero below = refl
emptied (x ∷ xs) (suc k) below = absurd (omega arith)

pub free-requires : goal.free-requires
free-requires g c = λ k below.
    let one : slots_len c.close_with-closed.result.slots ≡ 1 =
    c.close_with-closed.ensures.counts.1 ∙ c.self.invariant.1 in
    let others = c.take-taken.ensures.others in
    let first : k < 1 = omega (arith, below, others.2, one) in
    rw others.1 (emptied (slots_filled c.close_with-closed.result.slots) k first)
