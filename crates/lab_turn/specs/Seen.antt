-- The second part of the rule, seen and own calls: what each view knows of the history.
use Rattle.std.specs.Prelude.{◌≡◌, ◌≢◌, ℕ, ◌≤◌, true, false, List, [], length, None}
use mathlib.Core.Option.{some}
use mathlib.Core.List.{IsPrefix}
use lib.ListN.{get_elem?}
use Rattle.lab_turn.specs.declared.view.View.{View}
use Rattle.lab_turn.specs.declared.view.Left.{Left}
use Rattle.lab_turn.specs.History.{calls_of}
use Rattle.lab_turn.specs.Tickets.{last_ticket}

-- a pass that made no call, and that makes no other pass: its seat, the number of seats, the limit, and the
-- history that it has seen
abbrev pub fresh_view : {C : Type 0} → ℕ → ℕ → ℕ → List (ℕ × C) → View C
fresh_view seat seats limit seen = record {
  seat = seat;
  seats = seats;
  limit = limit;
  makes = false;
  made = 0;
  seen = seen;
  calls = [];
  ticket = None;
  found = None;
  out_of_tickets = false;
  spent = false;
  kept = [];
}

-- what is left in place of a pass that was joined to another
abbrev pub spent_view : {C : Type 0} → View C
spent_view = record (fresh_view 0 0 0 []) { spent = true }

-- a spent pass that another keeps: its seat is another one, it has seen the history, and its calls are in it
pub record Keeps {C : Type 0} (log : List (ℕ × C)) (views : List (View C)) (keeper : ℕ)
    (w : Left C) : Type 0 where
  pub other : w.seat ≢ keeper
  pub seen : IsPrefix w.seen log
  pub calls : calls_of w.seat log ≡ w.calls
  pub gone : get_elem? views w.seat ≡ some spent_view

-- the view v at place j
pub record Knows {C : Type 0} (seats limit tickets : ℕ) (log : List (ℕ × C)) (views : List (View C)) (j : ℕ)
    (v : View C) : Type 0 where
  pub seat : v.seat ≡ j
  pub same_seats : v.seats ≡ seats
  pub same_limit : v.limit ≡ limit
  pub seen : IsPrefix v.seen log
  pub calls : calls_of j log ≡ v.calls
  pub out_of_tickets : v.out_of_tickets ≡ true → tickets ≡ last_ticket
  pub made : v.makes ≡ true → (j ≡ 0) × (v.made ≡ length views)
  pub kept : (i : ℕ) (w : Left C) → get_elem? v.kept i ≡ some w → Keeps log views j w
  pub once : (i i' : ℕ) (w w' : Left C) → get_elem? v.kept i ≡ some w → get_elem? v.kept i' ≡ some w'
      → w.seat ≡ w'.seat → i ≡ i'

pub record HistoryRule {C : Type 0} (seats limit tickets : ℕ) (log : List (ℕ × C))
    (views : List (View C)) : Type 0 where
  pub knows : (j : ℕ) (v : View C) → get_elem? views j ≡ some v → v.spent ≡ false
      → Knows seats limit tickets log views j v
  pub legal : length log ≤ limit
  pub strangers : (k : ℕ) → length views ≤ k → calls_of k log ≡ []
  pub few : length views ≤ seats
