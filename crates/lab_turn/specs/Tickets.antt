-- The first part of the rule, tickets and slot: which pass may take the value out, and that no other has it
-- then.
use Rattle.std.specs.Prelude.{◌≡◌, ℕ, ◌+◌, ◌<◌, ◌≤◌, ◌⊎◌, Bool, List, [], ◌∷◌, Option, Some, None, is_some}
use Rattle.std.specs.List.{count_by}
use mathlib.Core.Option.{some, none}
use lib.ListN.{get_elem?}
use Rattle.atomic_table.specs.Table.{State}
use Rattle.lab_turn.specs.declared.view.View.{View}

-- no ticket has this number, which word 0 shows when all tickets are drawn
abbrev pub last_ticket : ℕ
last_ticket = 18446744073709551615

abbrev pub waits : {C : Type 0} → View C → Bool
waits v = is_some v.ticket

-- a ticket is at least the one that is served and below those to be drawn; a pass that has the value out has
-- the ticket that is served
pub record Queues {C : Type 0} (tickets serving : ℕ) (log : List (ℕ × C)) (v : View C) : Type 0 where
  pub turn : (t : ℕ) → v.ticket ≡ Some t → (serving ≤ t) × (t < tickets)
  pub out : (l : List (ℕ × C)) → v.found ≡ Some l → (v.ticket ≡ Some serving) × (l ≡ log)

module _ {J C : Type 0} (entries : J → List (ℕ × C)) (limit_of : J → ℕ) where
  -- the slot holds the value, and no pass has it out
  pub record AtHome (limit : ℕ) (log : List (ℕ × C)) (s : State (Option J) (View C)) : Type 0 where
    pub value : J
    pub home : s.homes ≡ some (Some value) ∷ []
    pub entries_are : entries value ≡ log
    pub limit_is : limit_of value ≡ limit
    pub nobody : (j : ℕ) (v : View C) → get_elem? s.views j ≡ some v → v.found ≡ None

  -- this pass has the value out, and its ticket is served
  pub record Away (serving : ℕ) (log : List (ℕ × C)) (s : State (Option J) (View C)) : Type 0 where
    pub holder : ℕ
    pub view : View C
    pub home : s.homes ≡ none ∷ []
    pub at : get_elem? s.views holder ≡ some view
    pub found : view.found ≡ Some log
    pub ticket : view.ticket ≡ Some serving

  pub record TicketRule (limit tickets serving : ℕ) (log : List (ℕ × C))
      (s : State (Option J) (View C)) : Type 0 where
    pub words : s.words ≡ tickets ∷ serving ∷ []
    pub fits : tickets ≤ last_ticket
    pub counted : count_by waits s.views + serving ≡ tickets
    pub queue : (j : ℕ) (v : View C) → get_elem? s.views j ≡ some v → Queues tickets serving log v
    pub apart : (i j : ℕ) (v w : View C) (t : ℕ) → get_elem? s.views i ≡ some v → get_elem? s.views j ≡ some w
        → v.ticket ≡ Some t → w.ticket ≡ Some t → i ≡ j
    pub slot : AtHome limit log s ⊎ Away serving log s
