-- Each step keeps the rule.
use Rattle.std.proofs.Common.{◌≡◌, ◌≢◌, ℕ, ◌+◌, ◌%◌, ◌<◌, ◌≤◌, ◌==◌, true, false, List, [], ◌∷◌, length}
use Rattle.std.proofs.Common.{get_or, set, Some, None, refl, ap, sym, ◌∙◌, subst, arith, Option}
use mathlib.Core.Logic.{dite}
use mathlib.Core.Option.{some, none}
use mathlib.Core.List.{IsPrefix}
use native.Mathlib.Decide.{ℕ_discrete}
use lib.ListN.{get_elem?}
use prog.Atomic.{either}
use Rattle.atomic_table.specs.Table.{State, Me, Act, keeps, takes, gives, step, Valid, homes_after}
use Rattle.atomic_table.specs.Table.{carried_after, Allows, Splits, Joins, opening}
use Rattle.atomic_table.proofs.Lists.{exchanged}
use Rattle.lab_turn.specs.declared.view.View.{View}
use Rattle.lab_turn.specs.History.{calls_of}
use Rattle.lab_turn.specs.Tickets.{last_ticket}
use Rattle.lab_turn.specs.Seen.{spent_view}
use Rattle.lab_turn.specs.Turns.{first_view, Ruled, without_tickets, read_tickets, with_ticket, drew}
use Rattle.lab_turn.specs.Turns.{looked, passed}
use Rattle.lab_turn.specs.Turns.{passed_on, maker_after, new_pass, taker}
use Rattle.lab_turn.proofs.HistoryLemmas.{inside}
use Rattle.lab_turn.proofs.TicketSteps.{ticket_stays, ticket_drawn, served_home, value_taken, turn_passed}
use Rattle.lab_turn.proofs.TicketSteps.{view_added, opened}
use Rattle.lab_turn.proofs.SeenSteps.{turned, history_stays, history_goes, history_opens, history_splits}
use Rattle.lab_turn.proofs.SeenSteps.{history_joins}

module _ {J C : Type 0} (entries : J → List (ℕ × C)) (limit_of : J → ℕ) (limit seats : ℕ) where
  abbrev St : Type 0
  St = State (Option J) (View C)

  abbrev Rule : St → Type 0
  Rule = Ruled entries limit_of seats limit

  abbrev Sat : Type 0
  Sat = Me (Option J) (View C)

  -- a step at which the view keeps its ticket and what it found, and may run out of tickets
  stays : (s : St) (r : Rule s) (id : ℕ) (v : View C) → get_elem? s.views id ≡ some v → v.spent ≡ false
      → (ws : List ℕ) → ws ≡ r.tickets ∷ r.serving ∷ []
      → (o : _) → (o ≡ true → r.tickets ≡ last_ticket)
      → Rule record { words = ws; homes = s.homes; views = set s.views id (turned v v.ticket v.found o) }
  stays s r id v at alive ws words o out_of_tickets = record {
    tickets = r.tickets;
    serving = r.serving;
    log = r.log;
    queue =
        ticket_stays entries limit_of limit s r.tickets r.serving r.log r.queue id v
        (turned v v.ticket v.found o) at refl refl ws words;
    history =
        history_stays seats limit r.tickets r.tickets r.log s.views r.history id v at alive (omega arith)
        r.queue.fits v.ticket v.found o out_of_tickets;
  }

  pub reads : (slots id : ℕ) (me : Sat) → me.0.spent ≡ false
      → Allows Rule slots id me 0 (λ n. n) (read_tickets entries limit_of (step slots 0 0 0 none) me)
  reads slots id me alive s r _ at _ =
      let v : View C = me.0 in
      let P : List ℕ → Type 0 =
      λ ws. (w : View C) × (a : Act (Option J)) × Valid s.homes me.1 a
      × Rule record {
        words = set ws 0 (get_or ws 0 0);
        homes = homes_after s.homes me.1 a;
        views = set s.views id w;
      }
      × read_tickets entries limit_of (step slots 0 0 0 none) me (get_or ws 0 0)
      (w, carried_after me.1 a) in
      let k = r.history.knows id v at alive in
      subst P (sym r.queue.words) (dite (ℕ_discrete r.tickets last_ticket)
      (λ is. (
        without_tickets entries limit_of v,
        keeps,
        tt,
        stays s r id v at alive _ refl true (λ _. is),
        ((λ _. refl), λ not. absurd (not is)),
      ))
      (λ not. (
        v,
        keeps,
        tt,
        stays s r id v at alive _ refl v.out_of_tickets k.out_of_tickets,
        ((λ is. absurd (not is)), λ _. refl),
      )))

  pub draws : (slots id old new : ℕ) (me : Sat) → me.0.spent ≡ false → me.0.ticket ≡ None → me.0.found ≡ None
      → old < last_ticket → new ≡ old + 1
      → Allows Rule slots id me 0 (λ n. either (n == old) new n)
      (drew entries limit_of (step slots 0 old new none) me)
  draws slots id old new me alive idle nothing below next s r _ at _ =
      let v : View C = me.0 in
      let P : List ℕ → Type 0 =
      λ ws. (w : View C) × (a : Act (Option J)) × Valid s.homes me.1 a
      × Rule record {
        words = set ws 0 (either (get_or ws 0 0 == old) new (get_or ws 0 0));
        homes = homes_after s.homes me.1 a;
        views = set s.views id w;
      }
      × drew entries limit_of (step slots 0 old new none) me (get_or ws 0 0) (w, carried_after me.1 a) in
      let k = r.history.knows id v at alive in
      let Q : ℕ → Type 0 =
      λ n. (w : View C) × (a : Act (Option J)) × Valid s.homes me.1 a
      × Rule record {
        words = n ∷ r.serving ∷ [];
        homes = homes_after s.homes me.1 a;
        views = set s.views id w;
      }
      × drew entries limit_of (step slots 0 old new none) me r.tickets (w, carried_after me.1 a) in
      let most = r.queue.fits in
      subst P (sym r.queue.words) (exchanged r.tickets old new Q
      (λ is. (
        with_ticket entries limit_of v r.tickets,
        keeps,
        tt,
        record {
          tickets = r.tickets + 1;
          serving = r.serving;
          log = r.log;
          queue =
              ticket_drawn entries limit_of limit s r.tickets r.serving r.log r.queue id v
              (with_ticket entries limit_of v r.tickets) at idle nothing refl nothing (omega arith) _
              (ap (λ n. n ∷ r.serving ∷ []) (omega arith));
          history =
              history_stays seats limit r.tickets (r.tickets + 1) r.log s.views r.history id v at alive
              (omega arith) (omega arith) (Some r.tickets) v.found v.out_of_tickets
              (λ o. let z = k.out_of_tickets o in absurd (omega arith));
        },
        ((λ _. refl), λ not. absurd (not is)),
      ))
      (λ not. (
        v,
        keeps,
        tt,
        stays s r id v at alive _ refl v.out_of_tickets k.out_of_tickets,
        ((λ is. absurd (not is)), λ _. refl),
      )))

  pub looks : (slots id t : ℕ) (me : Sat) → me.0.spent ≡ false → me.0.ticket ≡ Some t → me.0.found ≡ None
      → me.1 ≡ []
      → Allows Rule slots id me 1 (λ n. n) (looked entries limit_of (step slots 1 0 0 none) me)
  looks slots id t me alive mine nothing bare s r _ at _ =
      let v : View C = me.0 in
      let P : List ℕ → Type 0 =
      λ ws. (w : View C) × (a : Act (Option J)) × Valid s.homes me.1 a
      × Rule record {
        words = set ws 1 (get_or ws 1 0);
        homes = homes_after s.homes me.1 a;
        views = set s.views id w;
      }
      × looked entries limit_of (step slots 1 0 0 none) me (get_or ws 1 0) (w, carried_after me.1 a) in
      let k = r.history.knows id v at alive in
      let few = r.history.few in
      let all = k.same_seats in
      subst P (sym r.queue.words) (dite (ℕ_discrete r.serving t)
      (λ is.
      let served : v.ticket ≡ Some r.serving = mine ∙ ap Some (sym is) in
      let h = served_home entries limit_of limit s r.tickets r.serving r.log r.queue id v at served nothing in
      let x : J = h.value in
      let w : View C = turned v v.ticket (Some (entries x)) v.out_of_tickets in
      let found : w.found ≡ Some r.log = ap Some h.entries_are in (
        w,
        takes 0 (Some x),
        ap (λ hs. get_elem? hs 0) h.home,
        record {
          tickets = r.tickets;
          serving = r.serving;
          log = r.log;
          queue =
              value_taken entries limit_of limit s r.tickets r.serving r.log r.queue id v w at served refl
              found h _ refl;
          history =
              history_stays seats limit r.tickets r.tickets r.log s.views r.history id v at alive
              (omega arith) r.queue.fits v.ticket (Some (entries x)) v.out_of_tickets k.out_of_tickets;
        },
        (
          (λ _. record {
            value = x;
            out = ap (λ c. (w, (0, Some x) ∷ c)) bare;
            limit = h.limit_is ∙ sym k.same_limit;
            legal =
                subst (λ n. length (entries x) ≤ n) (sym k.same_limit)
                (subst (λ l. length l ≤ limit) (sym h.entries_are) r.history.legal);
            seen = subst (IsPrefix v.seen) (sym h.entries_are) k.seen;
            calls = ap (λ l. calls_of v.seat l) h.entries_are ∙ (ap (λ n. calls_of n r.log) k.seat ∙ k.calls);
            member = let here = inside s.views id v at in let seat = k.seat in omega arith;
            strangers = λ j le. ap (calls_of j) h.entries_are ∙ r.history.strangers j (omega arith);
          }),
          λ not. absurd (not served),
        ),
      ))
      (λ not. (
        v,
        keeps,
        tt,
        stays s r id v at alive _ refl v.out_of_tickets k.out_of_tickets,
        ((λ e. let same : r.serving ≡ t = cc in absurd (not same)), λ _. refl),
      )))

  -- the turn is passed on with the value x, whose entries go on from those that were found by calls of this
  -- seat
  pub passes_on : (slots id t : ℕ) (me : Sat) (x : J) (l : List (ℕ × C)) → me.0.spent ≡ false
      → me.0.ticket ≡ Some t → me.0.found ≡ Some l → me.1 ≡ (0, Some x) ∷ []
      → IsPrefix l (entries x) → ((k : ℕ) → k ≢ me.0.seat → calls_of k (entries x) ≡ calls_of k l)
      → length (entries x) ≤ me.0.limit → limit_of x ≡ me.0.limit
      → Allows Rule slots id me 1 (λ n. (n + 1) % 18446744073709551616)
      (passed_on entries limit_of (step slots 1 1 0 none) me)
  passes_on slots id t me x l alive mine found bare more others legal lim s r _ at _ =
      let v : View C = me.0 in
      let log' : List (ℕ × C) = entries x in
      let P : List ℕ → Type 0 =
      λ ws. (w : View C) × (a : Act (Option J)) × Valid s.homes me.1 a
      × Rule record {
        words = set ws 1 ((get_or ws 1 0 + 1) % 18446744073709551616);
        homes = homes_after s.homes me.1 a;
        views = set s.views id w;
      }
      × passed_on entries limit_of (step slots 1 1 0 none) me (get_or ws 1 0) (w, carried_after me.1 a) in
      let k = r.history.knows id v at alive in
      let o = (r.queue.queue id v at).out l found in
      let served : v.ticket ≡ Some r.serving = o.0 in
      let same : l ≡ r.log = o.1 in
      let turn = (r.queue.queue id v at).turn r.serving served in
      let fits = r.queue.fits in
      let next : (r.serving + 1) % 18446744073709551616 ≡ r.serving + 1 = omega arith in
      let w : View C = passed entries limit_of v log' in
      subst P (sym r.queue.words) (
        w,
        gives,
        tt,
        record {
          tickets = r.tickets;
          serving = r.serving + 1;
          log = log';
          queue =
              turn_passed entries limit_of limit s r.tickets r.serving r.log r.queue id v w at served
              (found ∙ ap Some same) refl refl x log' refl (lim ∙ k.same_limit) _
              (ap (λ n. r.tickets ∷ n ∷ []) next) _
              (λ empty. ap (λ c. homes_after s.homes c gives) bare
              ∙ ap (λ hs. set hs 0 (some (Some x))) empty);
          history =
              history_goes seats limit entries limit_of r.tickets r.log log' s.views r.history id v at alive
              (subst (λ z. IsPrefix z log') same more) (λ j far.
              others j (λ e. far (e ∙ k.seat)) ∙ ap (calls_of j) same)
              (subst (λ n. length log' ≤ n) k.same_limit legal);
        },
        λ y is. let p : ℕ × Option J = (0, Some x) in let q : ℕ × Option J = (0, Some y) in
            let heads : p ≡ q = cc in let head : Some x ≡ Some y = ap (λ (z : ℕ × Option J). z.1) heads in
            let same_value : x ≡ y = cc in
            λ i. (passed entries limit_of v (entries (same_value i)), ap (λ c. carried_after c gives) bare i),
      )

  -- the table as it is opened over a value with no entries
  pub begins : (x : J) → entries x ≡ [] → limit_of x ≡ limit → 0 < seats
      → Rule (opening (0 ∷ 0 ∷ []) (Some x ∷ []) (first_view seats limit))
  begins x none_yet lim some_seats = record {
    tickets = 0;
    serving = 0;
    log = [];
    queue = opened entries limit_of limit x (first_view seats limit) none_yet lim refl refl;
    history = history_opens seats limit some_seats;
  }

  pub splits : (id : ℕ) (v : View C) → v.spent ≡ false → v.makes ≡ true → v.made < seats
      → Splits Rule id v (maker_after v) (new_pass v)
  splits id v alive maker room s r at =
      let vs : List (View C) = set s.views id (maker_after v) in
      record {
        tickets = r.tickets;
        serving = r.serving;
        log = r.log;
        queue =
            view_added entries limit_of limit record { words = s.words; homes = s.homes; views = vs }
            r.tickets r.serving r.log
            (ticket_stays entries limit_of limit s r.tickets r.serving r.log r.queue id v (maker_after v) at
            refl refl s.words r.queue.words) (new_pass v) refl refl;
        history = history_splits seats limit r.tickets r.log s.views r.history id v at alive maker room;
      }

  pub joins : (id : ℕ) (v : View C) (other : ℕ) (u : View C) → v.spent ≡ false → u.spent ≡ false
      → u.ticket ≡ None → u.found ≡ None → Joins Rule id v other u (taker v u) spent_view
  joins id v other u alive alive_u idle nothing s r at apart there =
      let vs : List (View C) = set s.views id (taker v u) in
      let s1 : St = record { words = s.words; homes = s.homes; views = vs } in
      record {
        tickets = r.tickets;
        serving = r.serving;
        log = r.log;
        queue = ticket_stays entries limit_of limit s1 r.tickets r.serving r.log
            (ticket_stays entries limit_of limit s r.tickets r.serving r.log r.queue id v (taker v u) at refl
            refl s.words r.queue.words) other u spent_view there (sym idle) (sym nothing) s.words
            r.queue.words;
        history =
            history_joins seats limit r.tickets r.log s.views r.history id v other u at apart there alive
            alive_u;
      }
