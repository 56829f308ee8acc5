-- The second part of the rule, seen and own calls, over the steps.
use Rattle.std.proofs.Common.{◌≡◌, ◌≢◌, ℕ, zero, suc, ◌+◌, ◌<◌, ◌≤◌, ⊎_elim, true, false, Bool, List, [], ◌∷◌}
use Rattle.std.proofs.Common.{◌++◌, length, set, Option, refl, ap, sym, ◌∙◌, subst, arith, length-append}
use Rattle.std.proofs.Common.{length-set}
use mathlib.Core.Option.{some, some-injective, some-ne-none}
use mathlib.Core.List.{IsPrefix}
use lib.ListN.{get_elem?}
use Rattle.atomic_table.proofs.Lists.{set_here, set_else, at_longer}
use Rattle.lab_turn.specs.declared.view.View.{View}
use Rattle.lab_turn.specs.declared.view.Left.{Left}
use Rattle.lab_turn.specs.History.{calls_of}
use Rattle.lab_turn.specs.Tickets.{last_ticket}
use Rattle.lab_turn.specs.Seen.{spent_view, Keeps, Knows, HistoryRule}
use Rattle.lab_turn.specs.Turns.{first_view, passed, maker_after, new_pass, taker}
use Rattle.lab_turn.proofs.HistoryLemmas.{prefix_self, prefix_trans, inside, at_end}
use Rattle.lab_turn.proofs.TicketSteps.{each_view}

module _ {C : Type 0} where
  -- a view that keeps its seat and the passes that it took in knows what it knew, of a history that goes on
  knows_next : (seats limit t t' : ℕ) (log log' : List (ℕ × C)) (views views' : List (View C)) (j : ℕ)
      (d w : View C) → Knows seats limit t log views j d
      → w.seat ≡ d.seat → w.seats ≡ d.seats → w.limit ≡ d.limit → w.kept ≡ d.kept → IsPrefix log log'
      → IsPrefix w.seen log' → calls_of j log' ≡ w.calls → (w.out_of_tickets ≡ true → t' ≡ last_ticket)
      → (w.makes ≡ true → (j ≡ 0) × (w.made ≡ length views'))
      → ((k : ℕ) → get_elem? views k ≡ some spent_view
      → (calls_of k log' ≡ calls_of k log) × (get_elem? views' k ≡ some spent_view))
      → Knows seats limit t' log' views' j w
  knows_next seats limit t t' log log' views views' j d w h seat all lim kept go seen calls out made spent =
      record {
        seat = seat ∙ h.seat;
        same_seats = all ∙ h.same_seats;
        same_limit = lim ∙ h.same_limit;
        seen = seen;
        calls = calls;
        out_of_tickets = out;
        made = made;
        kept = λ i x e. let old = h.kept i x (subst (λ l. get_elem? l i ≡ some x) kept e) in
            let s = spent x.seat old.gone in
            record {
              other = old.other;
              seen = prefix_trans x.seen log log' old.seen go;
              calls = s.0 ∙ old.calls;
              gone = s.1;
            };
        once =
            λ i i' x x' e e'. h.once i i' x x' (subst (λ l. get_elem? l i ≡ some x) kept e)
            (subst (λ l. get_elem? l i' ≡ some x') kept e');
      }

  -- a spent view is another's than one that is not spent
  spent_else : (vs : List (View C)) (id k : ℕ) (v w : View C) → get_elem? vs id ≡ some v → v.spent ≡ false
      → get_elem? vs k ≡ some spent_view → (k ≢ id) × (get_elem? (set vs id w) k ≡ some spent_view)
  spent_else vs id k v w at alive is =
      let apart : k ≢ id = λ e. let same : some spent_view ≡ some v = sym is ∙ (ap (get_elem? vs) e ∙ at) in
      let is_v : spent_view ≡ v = some-injective spent_view v same in
      let odd : true ≡ false = ap (λ (x : View C). x.spent) is_v ∙ alive in cc in
      (apart, set_else vs id k w apart ∙ is)

  -- a view in another state of its turn
  abbrev pub turned : View C → Option ℕ → Option (List (ℕ × C)) → Bool → View C
  turned v tk f o = record v { ticket = tk; found = f; out_of_tickets = o }

  module _ (seats limit : ℕ) where
    -- the history stays; of one view the ticket, what it found, and whether it is out of tickets may change
    pub history_stays : (t t' : ℕ) (log : List (ℕ × C)) (views : List (View C))
        → HistoryRule seats limit t log views → (id : ℕ) (v : View C) → get_elem? views id ≡ some v
        → v.spent ≡ false
        → t ≤ t' → t' ≤ last_ticket → (tk : Option ℕ) (f : Option (List (ℕ × C))) (o : Bool)
        → (o ≡ true → t' ≡ last_ticket)
        → HistoryRule seats limit t' log (set views id (turned v tk f o))
    history_stays t t' log views r id v at alive more fits tk f o out_of_tickets =
        let w = turned v tk f o in let vs = set views id w in record {
          knows = each_view (λ j d. d.spent ≡ false → Knows seats limit t' log vs j d) views id w
              (λ _. let k = r.knows id v at alive in
              knows_next seats limit t t' log log views vs id v w k refl refl refl refl
              (prefix_self log) k.seen k.calls out_of_tickets
              (λ m. let z = k.made m in (z.0, z.1 ∙ sym (length-set views id w)))
              (λ x is. (refl, (spent_else views id x v w at alive is).1)))
              (λ j d _ e live. let k = r.knows j d e live in
              knows_next seats limit t t' log log views vs j d d k refl refl refl refl
              (prefix_self log) k.seen k.calls (λ o. let z = k.out_of_tickets o in omega arith)
              (λ m. let z = k.made m in (z.0, z.1 ∙ sym (length-set views id w)))
              (λ x is. (refl, (spent_else views id x v w at alive is).1)));
          legal = r.legal;
          strangers = λ k le. r.strangers k (subst (λ (n : ℕ). n ≤ k) (length-set views id w) le);
          few = let f = r.few in let l = length-set views id w in omega arith;
        }

    -- the view of a seat has seen a history that goes on by calls of that seat alone
    pub history_goes : {J : Type 0} (entries : J → List (ℕ × C)) (limit_of : J → ℕ) (t : ℕ)
        (log log' : List (ℕ × C)) (views : List (View C)) → HistoryRule seats limit t log views
        → (id : ℕ) (v : View C) → get_elem? views id ≡ some v → v.spent ≡ false
        → IsPrefix log log' → ((k : ℕ) → k ≢ id → calls_of k log' ≡ calls_of k log) → length log' ≤ limit
        → HistoryRule seats limit t log' (set views id (passed entries limit_of v log'))
    history_goes entries limit_of t log log' views r id v at alive go others legal =
        let w = passed entries limit_of v log' in
        let vs = set views id w in
        let k = r.knows id v at alive in
        let len : length vs ≡ length views = length-set views id w in
        let spent : (j : ℕ) → get_elem? views j ≡ some spent_view
        → (calls_of j log' ≡ calls_of j log) × (get_elem? vs j ≡ some spent_view) =
        λ j is. let z = spent_else views id j v w at alive is in (others j z.0, z.1) in
        record {
          knows = each_view (λ j d. d.spent ≡ false → Knows seats limit t log' vs j d) views id w
              (λ _. knows_next seats limit t t log log' views vs id v w k refl refl refl refl go
              (prefix_self log') (ap (λ n. calls_of n log') (sym k.seat)) k.out_of_tickets
              (λ m. let z = k.made m in (z.0, z.1 ∙ sym len)) spent)
              (λ j d far e live. let h = r.knows j d e live in
              knows_next seats limit t t log log' views vs j d d h refl refl refl refl go
              (prefix_trans d.seen log log' h.seen go) (others j far ∙ h.calls) h.out_of_tickets
              (λ m. let z = h.made m in (z.0, z.1 ∙ sym len)) spent);
          legal = legal;
          strangers = λ j le. let far : j ≢ id = λ e. let b = inside views id v at in omega arith in
              others j far ∙ r.strangers j (subst (λ (n : ℕ). n ≤ j) len le);
          few = let f = r.few in omega arith;
        }

    -- at the start nothing was called
    pub history_opens : 0 < seats → HistoryRule {C = C} seats limit 0 [] (first_view seats limit ∷ [])
    history_opens some_seats = record {
      knows = λ j v e _. let o = only j v e in
          subst (λ (v : View C). Knows seats limit 0 [] (first_view seats limit ∷ []) j v) o.1 record {
            seat = sym o.0;
            same_seats = refl;
            same_limit = refl;
            seen = ([], refl);
            calls = refl;
            out_of_tickets = λ z. absurd cc;
            made = λ _. (o.0, refl);
            kept = λ i x z. absurd (some-ne-none x (sym z));
            once = λ i i' x x' z z'. absurd (some-ne-none x (sym z));
          };
      legal = omega arith;
      strangers = λ k le. refl;
      few = omega arith;
    }
      where
        only : (j : ℕ) (v : View C) → get_elem? (first_view seats limit ∷ []) j ≡ some v
            → (j ≡ 0) × (first_view seats limit ≡ v)
        only zero v e = (refl, some-injective (first_view seats limit) v e)
        only (suc j) v e = absurd (some-ne-none v (sym e))

    -- the maker makes a view, which has the next seat
    pub history_splits : (t : ℕ) (log : List (ℕ × C)) (views : List (View C))
        → HistoryRule seats limit t log views → (id : ℕ) (v : View C) → get_elem? views id ≡ some v
        → v.spent ≡ false → v.makes ≡ true → v.made < seats
        → HistoryRule seats limit t log (set views id (maker_after v) ++ new_pass v ∷ [])
    history_splits t log views r id v at alive maker room =
        let k = r.knows id v at alive in
        let w : View C = maker_after v in
        let u : View C = new_pass v in
        let vs : List (View C) = set views id w in
        let vs' : List (View C) = vs ++ u ∷ [] in
        let mk = k.made maker in
        let len : length vs ≡ length views = length-set views id w in
        let len' : length vs' ≡ length views + 1 = omega (arith, length-append vs (u ∷ []), len) in
        let spent : (j : ℕ) → get_elem? views j ≡ some spent_view
        → (calls_of j log ≡ calls_of j log) × (get_elem? vs' j ≡ some spent_view) =
        λ j is. (refl, at_longer vs (u ∷ []) j spent_view (spent_else views id j v w at alive is).1) in
        record {
          knows = λ j d e live. ⊎_elim
              (λ z. each_view (λ j d. d.spent ≡ false → Knows seats limit t log vs' j d) views id w
              (λ _. knows_next seats limit t t log log views vs' id v w k refl refl refl refl
              (prefix_self log) k.seen k.calls k.out_of_tickets (λ _. (mk.0, ap (λ n. n + 1) mk.1 ∙ sym len'))
              spent)
              (λ j d far e live. let h = r.knows j d e live in
              knows_next seats limit t t log log views vs' j d d h refl refl refl refl (prefix_self log)
              h.seen h.calls h.out_of_tickets (λ m. absurd (far ((h.made m).0 ∙ sym mk.0))) spent)
              j d z live)
              (λ (z : (j ≡ length vs) × (u ≡ d)). subst (λ (y : View C). Knows seats limit t log vs' j y) z.1
              (
              let here : j ≡ length views = z.0 ∙ len in record {
                seat = mk.1 ∙ sym here;
                same_seats = k.same_seats;
                same_limit = k.same_limit;
                seen = k.seen;
                calls = r.strangers j (omega arith);
                out_of_tickets = λ z. absurd cc;
                made = λ z. absurd cc;
                kept = λ i x z. absurd (some-ne-none x (sym z));
                once = λ i i' x x' z z'. absurd (some-ne-none x (sym z));
              }))
              (at_end vs u d j e);
          legal = r.legal;
          strangers = λ j le. r.strangers j (omega arith);
          few = let m = mk.1 in omega arith;
        }

    -- a view takes in another, which is then spent
    pub history_joins : (t : ℕ) (log : List (ℕ × C)) (views : List (View C))
        → HistoryRule seats limit t log views → (id : ℕ) (v : View C) (other : ℕ) (u : View C)
        → get_elem? views id ≡ some v → other ≢ id
        → get_elem? (set views id (taker v u)) other ≡ some u → v.spent ≡ false → u.spent ≡ false
        → HistoryRule seats limit t log (set (set views id (taker v u)) other spent_view)
    history_joins t log views r id v other u at apart there alive alive_u =
        let w : View C = taker v u in
        let vs : List (View C) = set views id w in
        let vs' : List (View C) = set vs other spent_view in
        let at_u : get_elem? views other ≡ some u = sym (set_else views id other w apart) ∙ there in
        let k = r.knows id v at alive in
        let k_u = r.knows other u at_u alive_u in
        let len : length vs' ≡ length views = length-set vs other spent_view ∙ length-set views id w in
        let not_spent : (j : ℕ) → get_elem? views j ≡ some spent_view
        → (j ≢ other) × (get_elem? vs' j ≡ some spent_view) =
        λ j is. let a = spent_else views id j v w at alive is in
        let b = spent_else vs other j u spent_view there alive_u a.1 in b in
        let spent : (j : ℕ) → get_elem? views j ≡ some spent_view
        → (calls_of j log ≡ calls_of j log) × (get_elem? vs' j ≡ some spent_view) =
        λ j is. (refl, (not_spent j is).1) in
        let old : (P : ℕ → View C → Type 0) → P id w → P other spent_view
        → ((j : ℕ) (d : View C) → j ≢ id → get_elem? views j ≡ some d → P j d) → (j : ℕ) (d : View C)
        → get_elem? vs' j ≡ some d → P j d =
        λ P mine gone others. each_view P vs other spent_view gone
        (λ j d _ e. each_view P views id w mine others j d e) in
        record {
          knows = old (λ j d. d.spent ≡ false → Knows seats limit t log vs' j d)
              (λ _. record {
                seat = k.seat;
                same_seats = k.same_seats;
                same_limit = k.same_limit;
                seen = k.seen;
                calls = k.calls;
                out_of_tickets = k.out_of_tickets;
                made = λ m. let z = k.made m in (z.0, z.1 ∙ sym len);
                kept =
                    takes_in vs' log id v u k_u.seat k_u.seen k_u.calls (λ e. apart (sym k_u.seat ∙ e))
                    (set_here vs other spent_view (inside vs other u there))
                    (λ i x e. let o = k.kept i x e in
                    record {
                      other = o.other;
                      seen = o.seen;
                      calls = o.calls;
                      gone = (not_spent x.seat o.gone).1;
                    });
                once =
                    takes_once v u k.once (λ i x e is. (not_spent x.seat (k.kept i x e).gone).0
                    (sym is ∙ k_u.seat));
              })
              (λ live. absurd cc)
              (λ j d far e live. let h = r.knows j d e live in
              knows_next seats limit t t log log views vs' j d d h refl refl refl refl (prefix_self log)
              h.seen h.calls h.out_of_tickets (λ m. let z = h.made m in (z.0, z.1 ∙ sym len)) spent);
          legal = r.legal;
          strangers = λ j le. r.strangers j (omega arith);
          few = let f = r.few in omega arith;
        }
      where
        takes_in : (views : List (View C)) (log : List (ℕ × C)) (id : ℕ) (v u : View C) {other : ℕ}
            → u.seat ≡ other → IsPrefix u.seen log → calls_of other log ≡ u.calls → u.seat ≢ id
            → get_elem? views other ≡ some spent_view
            → ((i : ℕ) (x : Left C) → get_elem? v.kept i ≡ some x → Keeps log views id x)
            → (i : ℕ) (x : Left C) → get_elem? (record { seat = u.seat; seen = u.seen; calls = u.calls }
            ∷ v.kept) i ≡ some x → Keeps log views id x
        takes_in views log id v u seat seen calls far gone h zero x e =
            let first : Left C = record { seat = u.seat; seen = u.seen; calls = u.calls } in
            let same : first ≡ x = some-injective first x e in
            subst (λ (x : Left C). Keeps log views id x) same record {
              other = far;
              seen = seen;
              calls = ap (λ j. calls_of j log) seat ∙ calls;
              gone = ap (λ j. get_elem? views j) seat ∙ gone;
            }
        takes_in views log id v u seat seen calls far gone h (suc i) x e = h i x e

        takes_once : (v u : View C)
            → ((i i' : ℕ) (x x' : Left C) → get_elem? v.kept i ≡ some x → get_elem? v.kept i' ≡ some x'
            → x.seat ≡ x'.seat → i ≡ i')
            → ((i : ℕ) (x : Left C) → get_elem? v.kept i ≡ some x → u.seat ≡ x.seat → ⊥)
            → (i i' : ℕ) (x x' : Left C)
            → get_elem? (record { seat = u.seat; seen = u.seen; calls = u.calls } ∷ v.kept) i ≡ some x
            → get_elem? (record { seat = u.seat; seen = u.seen; calls = u.calls } ∷ v.kept) i' ≡ some x'
            → x.seat ≡ x'.seat → i ≡ i'
        takes_once v u once new zero zero x x' e e' s = refl
        takes_once v u once new zero (suc i') x x' e e' s =
            absurd (new i' x' e' (ap (λ (z : Left C). z.seat) (some-injective _ x e) ∙ s))
        takes_once v u once new (suc i) zero x x' e e' s =
            absurd (new i x e (ap (λ (z : Left C). z.seat) (some-injective _ x' e') ∙ sym s))
        takes_once v u once new (suc i) (suc i') x x' e e' s = ap suc (once i i' x x' e e' s)
