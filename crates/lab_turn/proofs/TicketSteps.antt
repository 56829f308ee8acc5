-- The first part of the rule, tickets and slot, over the steps.
use Rattle.std.proofs.Common.{◌≡◌, ◌≢◌, ℕ, zero, suc, ◌+◌, ◌<◌, ◌≤◌, ◌⊎◌, inl, inr, ⊎_elim, cond, List, []}
use Rattle.std.proofs.Common.{◌∷◌, ◌++◌, length, set, Some, None, refl, ap, sym, ◌∙◌, subst, arith, Option}
use Rattle.std.specs.Prelude.{is_some}
use Rattle.std.proofs.lemmas.List.Sums.{sum_by-append}
use mathlib.Core.Logic.{dite}
use mathlib.Core.Option.{some, none, some-injective, some-ne-none}
use native.Mathlib.Decide.{ℕ_discrete}
use lib.ListN.{get_elem?}
use Rattle.atomic_table.specs.Table.{State, opening}
use Rattle.atomic_table.proofs.Lists.{at_set, set_here, set_else, at_longer}
use Rattle.lab_turn.specs.declared.view.View.{View}
use Rattle.lab_turn.specs.Tickets.{last_ticket, waits, Queues, AtHome, Away, TicketRule}
use Rattle.lab_turn.proofs.HistoryLemmas.{inside, count_set, at_end}

-- what holds of each view holds where one view is another
pub each_view : {C : Type 0} (P : ℕ → View C → Type 0) (vs : List (View C)) (id : ℕ) (w : View C) → P id w
    → ((j : ℕ) (d : View C) → j ≢ id → get_elem? vs j ≡ some d → P j d)
    → (j : ℕ) (d : View C) → get_elem? (set vs id w) j ≡ some d → P j d
each_view {C} P vs id w mine others j d e =
    ⊎_elim (λ (t : (j ≡ id) × (w ≡ d)). subst (λ (x : ℕ × View C). P x.0 x.1) (λ i. (sym t.0 i, t.1 i)) mine)
    (λ (t : (j ≢ id) × (get_elem? vs j ≡ some d)). others j d t.0 t.1) (at_set vs id j w d e)

module _ {J C : Type 0} (entries : J → List (ℕ × C)) (limit_of : J → ℕ) (limit : ℕ) where
  abbrev St : Type 0
  St = State (Option J) (View C)

  abbrev Rule : ℕ → ℕ → List (ℕ × C) → St → Type 0
  Rule tickets serving log s = TicketRule entries limit_of limit tickets serving log s

  abbrev Slot : ℕ → List (ℕ × C) → St → Type 0
  Slot serving log s = AtHome entries limit_of limit log s ⊎ Away entries limit_of serving log s

  -- the slot's part, where the slot is as it was and the view keeps what it found
  slot_stays : (s : St) (serving : ℕ) (log : List (ℕ × C)) (id : ℕ) (v w : View C) (ws : List ℕ)
      → get_elem? s.views id ≡ some v → w.found ≡ v.found
      → ((l : List (ℕ × C)) → v.found ≡ Some l → w.ticket ≡ v.ticket) → Slot serving log s
      → Slot serving log record { words = ws; homes = s.homes; views = set s.views id w }
  slot_stays s serving log id v w ws at found ticket slot = ⊎_elim
      (λ (h : AtHome entries limit_of limit log s). inl record {
        value = h.value;
        home = h.home;
        entries_are = h.entries_are;
        limit_is = h.limit_is;
        nobody =
            each_view (λ j d. d.found ≡ None) s.views id w (found ∙ h.nobody id v at)
            (λ j d _ e. h.nobody j d e);
      })
      (λ (a : Away entries limit_of serving log s). inr (dite (ℕ_discrete a.holder id)
      (λ e. let same : a.view ≡ v = some-injective a.view v (sym a.at ∙ (ap (get_elem? s.views) e ∙ at)) in
      let is : v.found ≡ Some log = ap (λ (x : View C). x.found) (sym same) ∙ a.found in
      let served : v.ticket ≡ Some serving = ap (λ (x : View C). x.ticket) (sym same) ∙ a.ticket in record {
        holder = id;
        view = w;
        home = a.home;
        at = set_here s.views id w (inside s.views id v at);
        found = found ∙ is;
        ticket = ticket log is ∙ served;
      })
      (λ apart. record {
        holder = a.holder;
        view = a.view;
        home = a.home;
        at = set_else s.views id a.holder w apart ∙ a.at;
        found = a.found;
        ticket = a.ticket;
      })))
      slot

  -- a step at which one view changes, and which serves the same ticket
  view_changes : (s : St) (tickets serving : ℕ) (log : List (ℕ × C)) (r : Rule tickets serving log s) (id : ℕ)
      (v w : View C) → get_elem? s.views id ≡ some v
      → (t : ℕ) (ws : List ℕ) (hs : _) → ws ≡ t ∷ serving ∷ [] → t ≤ last_ticket → tickets ≤ t
      → cond (waits w) 1 0 + tickets ≡ t + cond (waits v) 1 0
      → Queues t serving log w
      → ((j : ℕ) (d : View C) (n : ℕ) → j ≢ id → get_elem? s.views j ≡ some d → d.ticket ≡ Some n
      → w.ticket ≡ Some n → j ≡ id)
      → Slot serving log record { words = ws; homes = hs; views = set s.views id w }
      → Rule t serving log record { words = ws; homes = hs; views = set s.views id w }
  view_changes s tickets serving log r id v w at t ws hs words fits more count mine apart slot =
      let c = count_set waits s.views id v w at in let was = r.counted in record {
        words = words;
        fits = fits;
        counted = omega arith;
        queue =
            each_view (λ j d. Queues t serving log d) s.views id w mine
            (λ j d _ e. let q = r.queue j d e in
            record { turn = λ n is. let b = q.turn n is in (b.0, omega arith); out = q.out });
        apart = λ i j d e n at_i at_j is_i is_j.
            ⊎_elim
            (λ (a : (i ≡ id) × (w ≡ d)). ⊎_elim
            (λ (b : (j ≡ id) × (w ≡ e)). a.0 ∙ sym b.0)
            (λ (b : (j ≢ id) × (get_elem? s.views j ≡ some e)).
            a.0 ∙ sym (apart j e n b.0 b.1 is_j (ap (λ (x : View C). x.ticket) a.1 ∙ is_i)))
            (at_set s.views id j w e at_j))
            (λ (a : (i ≢ id) × (get_elem? s.views i ≡ some d)). ⊎_elim
            (λ (b : (j ≡ id) × (w ≡ e)). apart i d n a.0 a.1 is_i (ap (λ (x : View C). x.ticket) b.1 ∙ is_j)
            ∙ sym b.0)
            (λ (b : (j ≢ id) × (get_elem? s.views j ≡ some e)). r.apart i j d e n a.1 b.1 is_i is_j)
            (at_set s.views id j w e at_j))
            (at_set s.views id i w d at_i);
        slot = slot;
      }

  -- a view keeps its ticket and what it found
  pub ticket_stays : (s : St) (tickets serving : ℕ) (log : List (ℕ × C)) → Rule tickets serving log s
      → (id : ℕ) (v w : View C) → get_elem? s.views id ≡ some v → w.ticket ≡ v.ticket → w.found ≡ v.found
      → (ws : List ℕ) → ws ≡ tickets ∷ serving ∷ []
      → Rule tickets serving log record { words = ws; homes = s.homes; views = set s.views id w }
  ticket_stays s tickets serving log r id v w at same found ws words =
      let q = r.queue id v at in
      let counts : cond {A = ℕ} (waits w) 1 0 ≡ cond {A = ℕ} (waits v) 1 0 =
      ap (λ (o : Option ℕ). cond {A = ℕ} (is_some o) 1 0) same in
      view_changes s tickets serving log r id v w at tickets ws s.homes words r.fits (omega arith)
      (omega arith)
      record {
        turn = λ t is. q.turn t (sym same ∙ is);
        out = λ l is. let o = q.out l (sym found ∙ is) in
            (same ∙ o.0, o.1);
      }
      (λ j d n far at_j is mine. r.apart j id d v n at_j at is (sym same ∙ mine))
      (slot_stays s serving log id v w ws at found (λ _ _. same) r.slot)

  -- a view with no ticket draws the next one
  pub ticket_drawn : (s : St) (tickets serving : ℕ) (log : List (ℕ × C)) → Rule tickets serving log s
      → (id : ℕ) (v w : View C) → get_elem? s.views id ≡ some v → v.ticket ≡ None → v.found ≡ None
      → w.ticket ≡ Some tickets → w.found ≡ None → tickets < last_ticket → (ws : List ℕ)
      → ws ≡ (tickets + 1) ∷ serving ∷ []
      → Rule (tickets + 1) serving log record { words = ws; homes = s.homes; views = set s.views id w }
  ticket_drawn s tickets serving log r id v w at idle nothing drawn empty below ws words =
      let off : cond {A = ℕ} (waits v) 1 0 ≡ 0 = ap (λ (o : Option ℕ). cond {A = ℕ} (is_some o) 1 0) idle in
      let on : cond {A = ℕ} (waits w) 1 0 ≡ 1 = ap (λ (o : Option ℕ). cond {A = ℕ} (is_some o) 1 0) drawn in
      let counts = r.counted in
      view_changes s tickets serving log r id v w at (tickets + 1) ws s.homes words (omega arith)
      (omega arith) (omega arith)
      record {
        turn = λ t e. let same : tickets ≡ t = cc in
            (omega arith, omega arith);
        out = λ l e. absurd cc;
      }
      (λ j d n far at_j is mine. let b = (r.queue j d at_j).turn n is in let same : tickets ≡ n = cc in
      absurd (omega arith))
      (slot_stays s serving log id v w ws at (empty ∙ sym nothing) (λ l e. absurd cc) r.slot)

  -- while a view waits for the ticket that is served, the slot is at home
  pub served_home : (s : St) (tickets serving : ℕ) (log : List (ℕ × C)) → Rule tickets serving log s
      → (id : ℕ) (v : View C) → get_elem? s.views id ≡ some v → v.ticket ≡ Some serving → v.found ≡ None
      → AtHome entries limit_of limit log s
  served_home s tickets serving log r id v at served nothing =
      ⊎_elim (λ (h : AtHome entries limit_of limit log s). h)
      (λ (a : Away entries limit_of serving log s).
      let e : a.holder ≡ id = r.apart a.holder id a.view v serving a.at at a.ticket served in
      let same : a.view ≡ v = some-injective a.view v (sym a.at ∙ (ap (get_elem? s.views) e ∙ at)) in
      let is : v.found ≡ Some log = ap (λ (x : View C). x.found) (sym same) ∙ a.found in
      absurd cc)
      r.slot

  -- it takes the value out
  pub value_taken : (s : St) (tickets serving : ℕ) (log : List (ℕ × C)) → Rule tickets serving log s
      → (id : ℕ) (v w : View C) → get_elem? s.views id ≡ some v → v.ticket ≡ Some serving
      → w.ticket ≡ v.ticket → w.found ≡ Some log
      → AtHome entries limit_of limit log s → (ws : List ℕ) → ws ≡ tickets ∷ serving ∷ []
      → Rule tickets serving log record { words = ws; homes = set s.homes 0 none; views = set s.views id w }
  value_taken s tickets serving log r id v w at served same found h ws words =
      let q = r.queue id v at in
      let counts : cond {A = ℕ} (waits w) 1 0 ≡ cond {A = ℕ} (waits v) 1 0 =
      ap (λ (o : Option ℕ). cond {A = ℕ} (is_some o) 1 0) same in
      view_changes s tickets serving log r id v w at tickets ws (set s.homes 0 none) words r.fits
      (omega arith) (omega arith)
      record {
        turn = λ t is. q.turn t (sym same ∙ is);
        out = λ l is. let both : Some log ≡ Some l = sym found ∙ is in
            let one : log ≡ l = cc in (same ∙ served, sym one);
      }
      (λ j d n far at_j is mine. r.apart j id d v n at_j at is (sym same ∙ mine))
      (inr record {
        holder = id;
        view = w;
        home = ap (λ hs. set hs 0 none) h.home;
        at = set_here s.views id w (inside s.views id v at);
        found = found;
        ticket = same ∙ served;
      })

  -- it puts a value into the slot, and passes the turn on
  pub turn_passed : (s : St) (tickets serving : ℕ) (log : List (ℕ × C)) → Rule tickets serving log s
      → (id : ℕ) (v w : View C) → get_elem? s.views id ≡ some v → v.ticket ≡ Some serving → v.found ≡ Some log
      → w.ticket ≡ None → w.found ≡ None
      → (x : J) (log' : List (ℕ × C)) → entries x ≡ log' → limit_of x ≡ limit → (ws : List ℕ)
      → ws ≡ tickets ∷ (serving + 1) ∷ [] → (hs : _) → (s.homes ≡ none ∷ [] → hs ≡ some (Some x) ∷ [])
      → Rule tickets (serving + 1) log' record { words = ws; homes = hs; views = set s.views id w }
  turn_passed s tickets serving log r id v w at served found idle nothing x log' are lim ws words hs put =
      let others : (j : ℕ) (d : View C) → j ≢ id → get_elem? s.views j ≡ some d → d.ticket ≢ Some serving =
      λ j d far e is. far (r.apart j id d v serving e at is served) in
      let empty : s.homes ≡ none ∷ [] = ⊎_elim
      (λ (h : AtHome entries limit_of limit log s). let none_out = h.nobody id v at in absurd cc)
      (λ (a : Away entries limit_of serving log s). a.home)
      r.slot in
      let off : cond {A = ℕ} (waits w) 1 0 ≡ 0 = ap (λ (o : Option ℕ). cond {A = ℕ} (is_some o) 1 0) idle in
      let on : cond {A = ℕ} (waits v) 1 0 ≡ 1 = ap (λ (o : Option ℕ). cond {A = ℕ} (is_some o) 1 0) served in
      let counts = count_set waits s.views id v w at in
      let was = r.counted in
      record {
        words = words;
        fits = r.fits;
        counted = omega arith;
        queue =
            each_view (λ j d. Queues tickets (serving + 1) log' d) s.views id w record
            { turn = λ n e. absurd cc; out = λ z e. absurd cc }
            (λ j d far e. let q = r.queue j d e in let no_turn = others j d far e in record {
              turn =
                  λ n is. let b = q.turn n is in let not_now : n ≢ serving = λ z. no_turn (is ∙ ap Some z) in
                  (omega arith, b.1);
              out = λ z is. absurd (no_turn (q.out z is).0);
            });
        apart = λ i j d e n at_i at_j is_i is_j. ⊎_elim
            (λ (a : (i ≡ id) × (w ≡ d)). let odd : w.ticket ≡ Some n =
            ap (λ (z : View C). z.ticket) a.1 ∙ is_i in absurd cc)
            (λ (a : (i ≢ id) × (get_elem? s.views i ≡ some d)). ⊎_elim
            (λ (b : (j ≡ id) × (w ≡ e)). let odd : w.ticket ≡ Some n =
            ap (λ (z : View C). z.ticket) b.1 ∙ is_j in absurd cc)
            (λ (b : (j ≢ id) × (get_elem? s.views j ≡ some e)). r.apart i j d e n a.1 b.1 is_i is_j)
            (at_set s.views id j w e at_j))
            (at_set s.views id i w d at_i);
        slot = inl record {
          value = x;
          home = put empty;
          entries_are = are;
          limit_is = lim;
          nobody =
              each_view (λ j d. d.found ≡ None) s.views id w nothing
              (λ j d far e. none_found d.found (λ z is. others j d far e ((r.queue j d e).out z is).0));
        };
      }
    where
      none_found : (o : Option (List (ℕ × C))) → ((z : List (ℕ × C)) → o ≡ Some z → ⊥) → o ≡ None
      none_found None no_one = refl
      none_found (Some z) no_one = absurd (no_one z refl)

  -- a view comes in with no ticket
  pub view_added : (s : St) (tickets serving : ℕ) (log : List (ℕ × C)) → Rule tickets serving log s
      → (u : View C) → u.ticket ≡ None → u.found ≡ None
      → Rule tickets serving log record { words = s.words; homes = s.homes; views = s.views ++ u ∷ [] }
  view_added s tickets serving log r u idle nothing =
      let vs = s.views in
      let off : cond {A = ℕ} (waits u) 1 0 ≡ 0 = ap (λ (o : Option ℕ). cond {A = ℕ} (is_some o) 1 0) idle in
      let was = r.counted in
      record {
        words = r.words;
        fits = r.fits;
        counted = omega (arith, sum_by-append (λ (z : View C). cond {A = ℕ} (waits z) 1 0) vs (u ∷ []));
        queue =
            λ j d e. ⊎_elim (λ z. r.queue j d z) (λ (z : (j ≡ length vs) × (u ≡ d)).
            subst (λ (y : View C). Queues tickets serving log y) z.1 record
            { turn = λ t e. absurd cc; out = λ l e. absurd cc }) (at_end vs u d j e);
        apart = λ i j d e n at_i at_j is_i is_j.
            ⊎_elim
            (λ (a : get_elem? vs i ≡ some d). ⊎_elim
            (λ (b : get_elem? vs j ≡ some e). r.apart i j d e n a b is_i is_j)
            (λ (b : (j ≡ length vs) × (u ≡ e)). let odd : u.ticket ≡ Some n =
            ap (λ (z : View C). z.ticket) b.1 ∙ is_j in absurd cc)
            (at_end vs u e j at_j))
            (λ (a : (i ≡ length vs) × (u ≡ d)). let odd : u.ticket ≡ Some n =
            ap (λ (z : View C). z.ticket) a.1 ∙ is_i in absurd cc)
            (at_end vs u d i at_i);
        slot = ⊎_elim
            (λ (h : AtHome entries limit_of limit log s). inl record {
              value = h.value;
              home = h.home;
              entries_are = h.entries_are;
              limit_is = h.limit_is;
              nobody =
                  λ j d e. ⊎_elim (λ z. h.nobody j d z) (λ (z : (j ≡ length vs) × (u ≡ d)).
                  subst (λ (y : View C). y.found ≡ None) z.1 nothing) (at_end vs u d j e);
            })
            (λ (a : Away entries limit_of serving log s).
            inr record {
              holder = a.holder;
              view = a.view;
              home = a.home;
              at = at_longer vs (u ∷ []) a.holder a.view a.at;
              found = a.found;
              ticket = a.ticket;
            })
            r.slot;
      }

  -- at the start one view has no ticket, and the value is at home
  pub opened : (x : J) (v : View C) → entries x ≡ [] → limit_of x ≡ limit → v.ticket ≡ None → v.found ≡ None
      → Rule 0 0 [] (opening (0 ∷ 0 ∷ []) (Some x ∷ []) v)
  opened x v none_yet lim idle nothing =
      let off : cond {A = ℕ} (waits v) 1 0 ≡ 0 = ap (λ (o : Option ℕ). cond {A = ℕ} (is_some o) 1 0) idle in
      record {
        words = refl;
        fits = omega arith;
        counted = omega arith;
        queue =
            λ j w e. subst (λ (w : View C). Queues 0 0 [] w) (only j w e).1 record
            { turn = λ t e. absurd cc; out = λ l e. absurd cc };
        apart = λ i j d e t at_i at_j is_i is_j. (only i d at_i).0 ∙ sym (only j e at_j).0;
        slot =
            inl record {
              value = x;
              home = refl;
              entries_are = none_yet;
              limit_is = lim;
              nobody = λ j w e. subst (λ (w : View C). w.found ≡ None) (only j w e).1 nothing;
            };
      }
    where
      only : (j : ℕ) (w : View C) → get_elem? (v ∷ []) j ≡ some w → (j ≡ 0) × (v ≡ w)
      only zero w e = (refl, some-injective v w e)
      only (suc j) w e = absurd (some-ne-none w (sym e))
