-- What is known of the value when one pass has taken in all the others.
use Rattle.std.proofs.Common.{◌≡◌, ◌≢◌, ℕ, zero, suc, ◌+◌, ◌<◌, ◌≤◌, ◌⊎◌, inl, inr, ⊎_elim, false, List, []}
use Rattle.std.proofs.Common.{◌∷◌, ◌++◌, map, length, Some, None, refl, ap, sym, ◌∙◌, subst, arith, Option}
use Rattle.std.proofs.Common.{length-append, append_assoc, All}
use Rattle.std.proofs.Math.ListN.{get_or-append}
use Rattle.std.proofs.Math.Seq.{get_or-append_seam}
use Rattle.std.proofs.lemmas.List.{length-map, append-nil}
use mathlib.Core.Option.{some, some-injective, some-ne-none}
use mathlib.Core.List.{IsPrefix}
use lib.ListN.{get_elem?}
use Rattle.atomic_table.specs.Seated.{TableId}
use Rattle.atomic_table.specs.Table.{State, Final, Seen}
use Rattle.atomic_table.specs.declared.shared.Seat.{Seat}
use Rattle.atomic_table.proofs.Lists.{at_map}
use Rattle.lab_turn.specs.declared.view.View.{View}
use Rattle.lab_turn.specs.declared.view.Left.{Left}
use Rattle.lab_turn.specs.History.{calls_of, IsLegal, TurnstileState, PassState, IsHistoryOf}
use Rattle.lab_turn.specs.Tickets.{AtHome, Away}
use Rattle.lab_turn.specs.Seen.{spent_view}
use Rattle.lab_turn.specs.Turns.{taker, Ruled, pass_of, left_of, ReclaimsPasses, IsIdleTokenOf}
use Rattle.lab_turn.proofs.HistoryLemmas.{inside, at_end, le_or_lt, of_all, all_of, all_made}
use Rattle.lab_turn.proofs.AllSeats.{pigeon}

module _ {C : Type 0} where
  seat_or : List (Left C) → ℕ → ℕ → ℕ
  seat_or [] id i = id
  seat_or (x ∷ xs) id zero = x.seat
  seat_or (x ∷ xs) id (suc i) = seat_or xs id i

  seat_or_is : (l : List (Left C)) (id i : ℕ) → i < length l + 1
      → ((w : Left C) × (get_elem? l i ≡ some w) × (seat_or l id i ≡ w.seat))
      ⊎ ((i ≡ length l) × (seat_or l id i ≡ id))
  unfolding seat_or
  seat_or_is [] id i lt = inr (omega arith, refl)
  seat_or_is (x ∷ xs) id zero lt = inl (x, refl, refl)
  seat_or_is (x ∷ xs) id (suc i) lt =
      ⊎_elim (λ (a : (w : Left C) × (get_elem? xs i ≡ some w) × (seat_or xs id i ≡ w.seat)).
      inl (a.0, a.1, a.2)) (λ (a : (i ≡ length xs) × (seat_or xs id i ≡ id)). inr (ap suc a.0, a.1))
      (seat_or_is xs id i (omega arith))

  module _ {J : Type 0} (entries : J → List (ℕ × C)) (limit_of : J → ℕ) (seats limit : ℕ) where
    abbrev St : Type 0
    St = State (Option J) (View C)

    abbrev Rule : St → Type 0
    Rule = Ruled entries limit_of seats limit

    -- each seat is that of the pass, or of one that it took in
    covers : (s : St) (r : Rule s) (id : ℕ) (v : View C) → get_elem? s.views id ≡ some v → v.spent ≡ false
        → length v.kept + 1 ≡ seats
        → (k : ℕ) → k < seats → (k ≡ id) ⊎ ((i : ℕ) × (w : Left C) × (get_elem? v.kept i ≡ some w)
        × (w.seat ≡ k))
    covers s r id v at alive all k lt =
        let kn = r.history.knows id v at alive in
        let f : ℕ → ℕ = seat_or v.kept id in
        let few = r.history.few in
        let A : ℕ → Type 0 = λ i. (w : Left C) × (get_elem? v.kept i ≡ some w) × (f i ≡ w.seat) in
        let B : ℕ → Type 0 = λ i. (i ≡ length v.kept) × (f i ≡ id) in
        let is : (i : ℕ) → i < seats → A i ⊎ B i = λ i l. seat_or_is v.kept id i (omega arith) in
        let small : (i : ℕ) → i < seats → f i < seats = λ i l. ⊎_elim
        (λ (a : A i). let b = inside s.views a.0.seat spent_view (kn.kept i a.0 a.1).gone in let e = a.2 in
        omega arith)
        (λ (b : B i). let c = inside s.views id v at in let e = b.1 in omega arith)
        (is i l) in
        let once : (i j : ℕ) → i < seats → j < seats → f i ≡ f j → i ≡ j = λ i j li lj e. ⊎_elim
        (λ (a : A i). ⊎_elim
        (λ (b : A j). kn.once i j a.0 b.0 a.1 b.1 (sym a.2 ∙ (e ∙ b.2)))
        (λ (b : B j). absurd ((kn.kept i a.0 a.1).other (sym a.2 ∙ (e ∙ b.1))))
        (is j lj))
        (λ (a : B i). ⊎_elim
        (λ (b : A j). absurd ((kn.kept j b.0 b.1).other (sym b.2 ∙ (sym e ∙ a.1))))
        (λ (b : B j). a.0 ∙ sym b.0)
        (is j lj))
        (is i li) in
        let h = pigeon seats f small once k lt in
        let i : ℕ = h.0 in
        ⊎_elim
        (λ (a : A i). inr (i, a.0, a.1, sym a.2 ∙ h.2))
        (λ (b : B i). inl (sym h.2 ∙ b.1))
        (is i h.1)

    -- who has all seats knows that the value is at home
    at_home : (s : St) (r : Rule s) (id : ℕ) (v : View C) → get_elem? s.views id ≡ some v → v.spent ≡ false
        → v.found ≡ None → length v.kept + 1 ≡ seats → AtHome entries limit_of limit r.log s
    at_home s r id v at alive nothing all = ⊎_elim (λ (h : AtHome entries limit_of limit r.log s). h)
        (λ (a : Away entries limit_of r.serving r.log s).
        let few = r.history.few in
        let l = inside s.views a.holder a.view a.at in
        let out = a.found in
        ⊎_elim
        (λ (e : a.holder ≡ id). let same : a.view ≡ v =
        some-injective a.view v (sym a.at ∙ (ap (get_elem? s.views) e ∙ at)) in
        let is : v.found ≡ Some r.log = ap (λ (x : View C). x.found) (sym same) ∙ out in absurd cc)
        (λ (b : (i : ℕ) × (w : Left C) × (get_elem? v.kept i ≡ some w) × (w.seat ≡ a.holder)).
        let gone = ((r.history.knows id v at alive).kept b.0 b.1 b.2).gone in
        let same : a.view ≡ spent_view =
        some-injective a.view spent_view (sym a.at ∙ (ap (get_elem? s.views) (sym b.3) ∙ gone)) in
        let is : spent_view.found ≡ Some r.log = ap (λ (x : View C). x.found) (sym same) ∙ out in absurd cc)
        (covers s r id v at alive all a.holder (omega arith)))
        r.queue.slot

    settles : (table : TableId) (all rest : List (PassState C)) (last : PassState C) (s : St) (r : Rule s)
        (id : ℕ) (u v : View C) → get_elem? s.views id ≡ some v
        → all ≡ rest ++ last ∷ [] → pass_of table u ≡ last → ReclaimsPasses rest [] u v → length all ≡ seats
        → (x : J) × (s.homes ≡ some (Some x) ∷ []) × (limit_of x ≡ limit)
        × IsHistoryOf record { table = table; seats = seats; limit = limit } all (entries x)
    settles table all rest last s r id u v at is last_is g full =
        let same = g.same in
        let kn = r.history.knows id v at same.5 in
        let rest_is : rest ≡ g.taken = g.split in
        let count : length v.kept + 1 ≡ seats =
        omega (
          arith,
          ap length g.kept,
          length-map g.taken (left_of {C = C}),
          ap length rest_is,
          ap length is,
          length-append rest (last ∷ []),
        ) in
        let h = at_home s r id v at same.5 same.4 count in
        let log_is = h.entries_are in
        let here : (i : ℕ) (p : _) → get_elem? all i ≡ some p
        → (get_elem? rest i ≡ some p) ⊎ ((i ≡ length rest) × (last ≡ p)) =
        λ i p e. at_end rest last p i (subst (λ l. get_elem? l i ≡ some p) is e) in
        let kept_at : (i : ℕ) (p : _) → get_elem? rest i ≡ some p → get_elem? v.kept i ≡ some (left_of p) =
        λ i p e. ap (λ l. get_elem? l i) g.kept ∙ at_map left_of g.taken i p
        (subst (λ l. get_elem? l i ≡ some p) rest_is e) in
        let seen_is : v.seen ≡ last.seen = same.1 ∙ ap (λ (p : PassState C). p.seen) last_is in
        let seat_is : v.seat ≡ last.seat = same.0 ∙ ap (λ (p : PassState C). p.seat) last_is in
        let calls_is : v.calls ≡ last.calls = same.2 ∙ ap (λ (p : PassState C). p.calls) last_is in
        let few = r.history.few in (
          h.value,
          h.home,
          h.limit_is,
          record {
            legal = record {
              fits = subst (λ l. length l ≤ limit) (sym log_is) r.history.legal;
              made =
                  all_made seats (entries h.value) (λ k le. ap (calls_of k) log_is
                  ∙ r.history.strangers k (omega arith));
            };
            seen =
                all_of (λ (p : PassState C). IsPrefix p.seen (entries h.value)) all
                (λ i p e. subst (λ l. IsPrefix p.seen l) (sym log_is) (⊎_elim
                (λ (a : get_elem? rest i ≡ some p). (kn.kept i (left_of p) (kept_at i p a)).seen)
                (λ (b : (i ≡ length rest) × (last ≡ p)). subst (λ (p : PassState C). IsPrefix p.seen r.log)
                b.1 (subst (λ l. IsPrefix l r.log) seen_is kn.seen))
                (here i p e)));
            own =
                all_of (λ (p : PassState C). calls_of p.seat (entries h.value) ≡ p.calls) all
                (λ i p e. ap (calls_of p.seat) log_is ∙ ⊎_elim
                (λ (a : get_elem? rest i ≡ some p). (kn.kept i (left_of p) (kept_at i p a)).calls)
                (λ (b : (i ≡ length rest) × (last ≡ p)). subst
                (λ (p : PassState C). calls_of p.seat r.log ≡ p.calls) b.1
                (ap (λ k. calls_of k r.log) (sym seat_is ∙ kn.seat) ∙ (kn.calls ∙ calls_is)))
                (here i p e));
            others = λ k far. let no_pass = of_all (λ (p : PassState C). p.seat ≢ k) all far in
                ap (calls_of k) log_is ∙ ⊎_elim
                (λ (le : seats ≤ k). r.history.strangers k (omega arith))
                (λ (lt : k < seats). ⊎_elim
                (λ (e : k ≡ id). absurd (no_pass (length rest) last
                (ap (λ l. get_elem? l (length rest)) is ∙ last_at rest last)
                (sym seat_is ∙ (kn.seat ∙ sym e))))
                (λ (b : (i : ℕ) × (w : Left C) × (get_elem? v.kept i ≡ some w) × (w.seat ≡ k)).
                let q = from_map g.taken b.0 b.1 (subst (λ l. get_elem? l b.0 ≡ some b.1) g.kept b.2) in
                absurd (no_pass b.0 q.0 (ap (λ l. get_elem? l b.0) is
                ∙ in_front rest last b.0 q.0 (subst (λ l. get_elem? l b.0 ≡ some q.0) (sym rest_is) q.1))
                (ap (λ (z : Left C). z.seat) q.2 ∙ b.3)))
                (covers s r id v at same.5 count k lt))
                (le_or_lt seats k);
          },
        )
      where
        last_at : {A : Type 0} (xs : List A) (y : A) → get_elem? (xs ++ y ∷ []) (length xs) ≡ some y
        last_at [] y = refl
        last_at (x ∷ xs) y = last_at xs y

        in_front : {A : Type 0} (xs : List A) (y : A) (i : ℕ) (a : A) → get_elem? xs i ≡ some a
            → get_elem? (xs ++ y ∷ []) i ≡ some a
        in_front [] y i a e = absurd (some-ne-none a (sym e))
        in_front (x ∷ xs) y zero a e = e
        in_front (x ∷ xs) y (suc i) a e = in_front xs y i a e

        from_map : (l : List (PassState C)) (i : ℕ) (w : Left C) → get_elem? (map left_of l) i ≡ some w
            → (p : PassState C) × (get_elem? l i ≡ some p) × (left_of p ≡ w)
        from_map [] i w e = absurd (some-ne-none w (sym e))
        from_map (x ∷ xs) zero w e = (x, refl, some-injective (left_of x) w e)
        from_map (x ∷ xs) (suc i) w e = from_map xs i w e

    pub closes : (whose : TurnstileState) → whose.seats ≡ seats → whose.limit ≡ limit
        → (table : TableId) (all rest : List (PassState C)) (last : PassState C) (ws : List ℕ)
        (items : List (Option J)) (id : ℕ) (u v : View C)
        → Final (Seen (Ruled entries limit_of seats limit) id v) ws items
        → all ≡ rest ++ last ∷ [] → pass_of table u ≡ last → ReclaimsPasses rest [] u v
        → length all ≡ whose.seats
        → (x : J) × (get_elem? items 0 ≡ some (Some x)) × (limit_of x ≡ whose.limit)
        × IsHistoryOf whose all (entries x)
    closes whose seats_are limit_is table all rest last ws items id u v f is last_is g full =
        let s = f.0 in
        let h = settles table all rest last s f.1.0 id u v f.1.1 is last_is g (full ∙ seats_are) in
        let P : TurnstileState → Type 0 = λ w. IsHistoryOf w all (entries h.0) in
        let settled : P record { table = whose.table; seats = whose.seats; limit = whose.limit } =
        history_at all (entries h.0) table whose.table seats whose.seats limit whose.limit (sym seats_are)
        (sym limit_is) h.3 in
        (h.0, f.4 0 (Some h.0) (ap (λ l. get_elem? l 0) h.1), h.2 ∙ sym limit_is, settled)
      where
        history_at : (all : List (PassState C)) (log : List (ℕ × C)) (t t' : TableId) (n n' m m' : ℕ) → n ≡ n'
            → m ≡ m' → IsHistoryOf record { table = t; seats = n; limit = m } all log
            → IsHistoryOf record { table = t'; seats = n'; limit = m' } all log
        history_at all log t t' n n' m m' e e' h = record {
          legal = subst (λ k. IsLegal k m' log) e (subst (λ k. IsLegal n k log) e' h.legal);
          seen = h.seen;
          own = h.own;
          others = h.others;
        }

module _ {C : Type 0} where
  pub gathered_none : (all : List (PassState C)) (v : View C) → v.ticket ≡ None → v.found ≡ None
      → v.spent ≡ false → v.kept ≡ [] → ReclaimsPasses all all v v
  gathered_none all v idle nothing alive alone =
      record {
        taken = [];
        split = sym (append-nil all);
        kept = alone;
        same = (refl, refl, refl, idle, nothing, alive);
      }

  pub gathered_more : (table : TableId) (all rest rest' : List (PassState C)) (p : PassState C)
      (before v u w : View C) → ReclaimsPasses all rest before v → rest ≡ rest' ++ p ∷ []
      → pass_of table u ≡ p
      → w ≡ taker v u → ReclaimsPasses all rest' before w
  gathered_more table all rest rest' p before v u w g is p_is new =
      subst (ReclaimsPasses all rest' before) (sym new) record {
        taken = p ∷ g.taken;
        split = g.split ∙ (ap (λ l. l ++ g.taken) is ∙ append_assoc rest' (p ∷ []) g.taken);
        kept = ap (λ (q : PassState C). left_of q ∷ v.kept) p_is ∙ ap (λ l. left_of p ∷ l) g.kept;
        same = g.same;
      }

module _ {A : Type 0} (R : A → Type 0) where
  pub of_last : (xs ys : List A) (y : A) → xs ≡ ys ++ y ∷ [] → All R xs → R y
  of_last xs ys y is all =
      subst R (get_or-append_seam ys y [] y) (subst (All R) is all (length ys) y
      (omega (arith, length-append ys (y ∷ []))))

  pub of_front : (xs ys : List A) (y : A) → xs ≡ ys ++ y ∷ [] → All R xs → All R ys
  of_front xs ys y is all k d lt =
      subst R (get_or-append ys (y ∷ []) d k lt) (subst (All R) is all k d
      (omega (arith, length-append ys (y ∷ []))))

-- the token of a pass is of the pass's table
pub token_table : {J C : Type 0} (table : TableId) (p : PassState C) (token : Seat (Option J) (View C))
    → IsIdleTokenOf p token → p.turnstile.table ≡ table → token.table_id ≡ table
token_table {J} {C} table p token s is = ap (λ (p : PassState C). p.turnstile.table) s.pass ∙ is
