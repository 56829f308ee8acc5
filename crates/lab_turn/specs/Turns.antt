-- The rule of the table: word 0 is the number of tickets that are drawn, word 1 the ticket that is served,
-- and the only slot holds the value. Then what each step on the table shows.
use Rattle.std.specs.Prelude.{◌≡◌, ◌≢◌, ℕ, ◌+◌, ◌<◌, ◌≤◌, true, false, List, [], ◌∷◌, ◌++◌, map, length}
use Rattle.std.specs.Prelude.{Option, Some, None}
use mathlib.Core.List.{IsPrefix}
use Rattle.atomic_table.specs.Table.{State, Me, Step}
use Rattle.atomic_table.specs.Seated.{TableId}
use Rattle.atomic_table.specs.declared.shared.Seat.{Seat}
use Rattle.lab_turn.specs.declared.view.View.{View}
use Rattle.lab_turn.specs.declared.view.Left.{Left}
use Rattle.lab_turn.specs.History.{calls_of, PassState}
use Rattle.lab_turn.specs.Tickets.{last_ticket, TicketRule}
use Rattle.lab_turn.specs.Seen.{fresh_view, HistoryRule}

-- the pass that makes the others, when there are so many
abbrev pub maker_at : {C : Type 0} → ℕ → ℕ → ℕ → View C
maker_at seats limit made = record (fresh_view 0 seats limit []) { makes = true; made = made }

abbrev pub first_view : {C : Type 0} → ℕ → ℕ → View C
first_view seats limit = maker_at seats limit 1

module _ {J C : Type 0} (entries : J → List (ℕ × C)) (limit_of : J → ℕ) where
  pub record Ruled (seats limit : ℕ) (s : State (Option J) (View C)) : Type 0 where
    pub tickets : ℕ
    pub serving : ℕ
    pub log : List (ℕ × C)
    pub queue : TicketRule entries limit_of limit tickets serving log s
    pub history : HistoryRule seats limit tickets log s.views

  abbrev Mine : Type 0
  Mine = Me (Option J) (View C)

  -- a pass that finds no ticket left
  abbrev pub without_tickets : View C → View C
  without_tickets v = record v { out_of_tickets = true }

  abbrev pub read_tickets : Step (Option J) → Mine → ℕ → Mine → Type 0
  read_tickets st m r m' = (r ≡ last_ticket → m' ≡ (without_tickets m.0, m.1)) × (r ≢ last_ticket → m' ≡ m)

  abbrev pub with_ticket : View C → ℕ → View C
  with_ticket v t = record v { ticket = Some t }

  abbrev pub drew : Step (Option J) → Mine → ℕ → Mine → Type 0
  drew st m r m' = (r ≡ st.first → m' ≡ (with_ticket m.0 r, m.1)) × (r ≢ st.first → m' ≡ m)

  abbrev pub with_found : View C → List (ℕ × C) → View C
  with_found v l = record v { found = Some l }

  -- what a served pass knows of the value that it takes out
  pub record Served (v : View C) (m' : Mine) : Type 0 where
    pub value : J
    pub out : m' ≡ (with_found v (entries value), (0, Some value) ∷ [])
    pub limit : limit_of value ≡ v.limit
    pub legal : length (entries value) ≤ v.limit
    pub seen : IsPrefix v.seen (entries value)
    pub calls : calls_of v.seat (entries value) ≡ v.calls
    pub member : v.seat < v.seats
    pub strangers : (k : ℕ) → v.seats ≤ k → calls_of k (entries value) ≡ []

  abbrev pub looked : Step (Option J) → Mine → ℕ → Mine → Type 0
  looked st m r m' = (m.0.ticket ≡ Some r → Served m.0 m') × (m.0.ticket ≢ Some r → m' ≡ m)

  -- the turn is passed on, with these entries in the value
  abbrev pub passed : View C → List (ℕ × C) → View C
  passed v log = record v { seen = log; calls = calls_of v.seat log; ticket = None; found = None }

  abbrev pub passed_on : Step (Option J) → Mine → ℕ → Mine → Type 0
  passed_on st m r m' = (x : J) → m.1 ≡ (0, Some x) ∷ [] → m' ≡ (passed m.0 (entries x), [])

-- the maker makes a pass
abbrev pub maker_after : {C : Type 0} → View C → View C
maker_after v = record v { made = v.made + 1 }

abbrev pub new_pass : {C : Type 0} → View C → View C
new_pass v = fresh_view v.made v.seats v.limit v.seen

-- a pass to which another is joined keeps that one's seat, what it has seen, and its calls
abbrev pub taker : {C : Type 0} → View C → View C → View C
taker v w = record v { kept = record { seat = w.seat; seen = w.seen; calls = w.calls } ∷ v.kept }

-- the pass that a view of this table is
abbrev pub pass_of : {C : Type 0} → TableId → View C → PassState C
pass_of table v = record {
  turnstile = record { table = table; seats = v.seats; limit = v.limit };
  seat = v.seat;
  seen = v.seen;
  calls = v.calls;
  out_of_tickets = v.out_of_tickets;
}

module _ {J C : Type 0} where
  -- no call is being made: no ticket, nothing out of the slot, and no other pass joined to it
  pub record IsIdle (m : Me (Option J) (View C)) : Type 0 where
    pub ticket : m.0.ticket ≡ None
    pub found : m.0.found ≡ None
    pub spent : m.0.spent ≡ false
    pub alone : m.0.kept ≡ []
    pub bare : m.1 ≡ []

  -- an idle token of this pass
  pub record IsIdleTokenOf (p : PassState C) (token : Seat (Option J) (View C)) : Type 0 where
    pub pass : pass_of token.table_id token.me.0 ≡ p
    pub idle : IsIdle token.me

-- what is kept of a pass
abbrev pub left_of : {C : Type 0} → PassState C → Left C
left_of p = record { seat = p.seat; seen = p.seen; calls = p.calls }

-- from before to after, the passes behind the rest are joined to the view
pub record ReclaimsPasses {C : Type 0} (all rest : List (PassState C)) (before after : View C) : Type 0 where
  pub taken : List (PassState C)
  pub split : all ≡ rest ++ taken
  pub kept : after.kept ≡ map left_of taken
  pub same : (after.seat ≡ before.seat) × (after.seen ≡ before.seen) × (after.calls ≡ before.calls)
      × (after.ticket ≡ None) × (after.found ≡ None) × (after.spent ≡ false)
