-- Who leaves is late, or the newest of the unproven ones.
use Rattle.std.proofs.Common.{◌≡◌, ◌≤◌, ◌<◌, ◌⊎◌, inl, inr, ℕ, zero, suc, Bool, true, false, ◌&&◌}
use Rattle.std.proofs.Common.{List, [], ◌∷◌, length, slice_index_or, arith, refl, ap, ◌∙◌}
use Rattle.std.specs.Prelude.{max, fold, filter_map, position, ◌==◌, Contains, HoldsAt}
use Rattle.std.specs.Prelude.{Option, Some, None, unwrap_or, option_and_then}
use Rattle.std.specs.List.{reduce, cons_option}
use Rattle.std.specs.Option.{option_or}
use Rattle.std.proofs.Math.Nat.{le-max_left, le-max_right}
use Rattle.std.proofs.lemmas.List.Quantifiers.{position-Some}
use Rattle.std.proofs.lemmas.Bool.{eqb-true, false≢true}
use Rattle.kern_pace.specs.Evictions.{can_leave, is_in, arrival_in, newest_arrival, leaves, newest_of}
use Rattle.kern_pace.specs.Evictions.{leaver, IsNext}
use Rattle.kern_pace.specs.declared.eviction.Occupancy.{Occupancy}
use Rattle.kern_pace.specs.declared.eviction.Group.{Group}
use Rattle.kern_pace.specs.declared.eviction.Group.TheVariants.{Late, Unproven}

-- a number is among those of a list
abbrev IsAmong : List ℕ → ℕ → Type 0
IsAmong [] x = ⊥
IsAmong (y ∷ ys) x = (x ≡ y) ⊎ IsAmong ys x

-- so it is at most the greatest
at_most : (first : ℕ) (rest : List ℕ) (x : ℕ) → (x ≡ first) ⊎ IsAmong rest x → x ≤ fold max first rest
at_most first [] x (inl is) = omega (arith, is)
at_most first [] x (inr is) = absurd is
at_most first (y ∷ rest) x (inl is) =
    omega (arith, is, le-max_left first y, at_most (max first y) rest (max first y) (inl refl))
at_most first (y ∷ rest) x (inr (inl is)) =
    omega (arith, is, le-max_right first y, at_most (max first y) rest (max first y) (inl refl))
at_most first (y ∷ rest) x (inr (inr is)) = at_most (max first y) rest x (inr is)

-- the arrivals of a group have that of each of its connections
has_arrival : (group : Group) (slots : List (Option Occupancy)) (k : ℕ) (c : Occupancy) → k < length slots
    → slice_index_or slots k (Some c) ≡ Some c → is_in group c ≡ true
    → IsAmong (filter_map (arrival_in group) slots) c.came
has_arrival group [] k c low at is = absurd (omega (arith, low))
has_arrival group (slot ∷ slots) zero c low at is = here slot at
  where
    here : (slot : Option Occupancy) → slot ≡ Some c
        → IsAmong (filter_map (arrival_in group) (slot ∷ slots)) c.came
    here slot same = grind (arith, same, is)
has_arrival group (slot ∷ slots) (suc k) c low at is =
    pass (arrival_in group slot) (has_arrival group slots k c (omega (arith, low)) at is)
  where
    pass : (first : Option ℕ) → IsAmong (filter_map (arrival_in group) slots) c.came
        → IsAmong (cons_option first (filter_map (arrival_in group) slots)) c.came
    pass None later = later
    pass (Some x) later = inr later

-- the newest of a group came no earlier than any of it
newest_came_last : (group : Group) (slots : List (Option Occupancy)) (came : ℕ)
    → newest_arrival group slots ≡ Some came
    → (c : Occupancy) → Contains slots (Some c) → is_in group c ≡ true → c.came ≤ came
newest_came_last group slots came is c (k, low, at) among =
    by (filter_map (arrival_in group) slots) is (has_arrival group slots k c low at among)
  where
    by : (arrivals : List ℕ) → reduce max arrivals ≡ Some came → IsAmong arrivals c.came → c.came ≤ came
    by [] none of = absurd of
    by (x ∷ xs) some of = omega (arith, at_most x xs c.came of, ap (λ o. unwrap_or o 0) some)

-- where the newest of a group can leave: when it came, and that it is there
abbrev FoundNewest : Group → List (Option Occupancy) → ℕ → Type 0
FoundNewest group slots place =
    (came : ℕ) × (newest_arrival group slots ≡ Some came) × (position (leaves group came) slots ≡ Some place)

found_newest : (group : Group) (slots : List (Option Occupancy)) (place : ℕ)
    → newest_of group slots ≡ Some place → FoundNewest group slots place
found_newest group slots place found = by (newest_arrival group slots) refl found
  where
    by : (arrival : Option ℕ) → newest_arrival group slots ≡ arrival
        → option_and_then (λ came. position (leaves group came) slots) arrival ≡ Some place
        → FoundNewest group slots place
    by (Some came) is at = (came, is, at)
    by None is at = grind (arith, at)

-- a connection that leaves as one of a group
abbrev Leaver : Group → ℕ → Option Occupancy → Type 0
Leaver group came None = ⊥
Leaver group came (Some c) = (is_in group c ≡ true) × (c.came ≡ came) × (can_leave c ≡ true)

is_leaver : (group : Group) (came : ℕ) (slot : Option Occupancy) → leaves group came slot ≡ true
    → Leaver group came slot
is_leaver group came None is = grind (arith, is)
is_leaver group came (Some c) is = by (is_in group c) (c.came == came) refl refl is
  where
    by : (among same : Bool) → is_in group c ≡ among → (c.came == came) ≡ same
        → among && same && can_leave c ≡ true
        → (is_in group c ≡ true) × (c.came ≡ came) × (can_leave c ≡ true)
    by true true is_among is_same can = (is_among, eqb-true c.came came is_same, can)
    by true false is_among is_same can = absurd (false≢true can)
    by false same is_among is_same can = absurd (false≢true can)

-- it is next: one that is late, or the newest of those that are unproven
next_late : (slots : List (Option Occupancy)) (came : ℕ) (slot : Option Occupancy) → Leaver Late came slot
    → IsNext slots slot
next_late slots came None of = absurd of
next_late slots came (Some c) (late, when, can) = (can, inl late)

next_unproven : (slots : List (Option Occupancy)) (came : ℕ) (slot : Option Occupancy)
    → newest_arrival Unproven slots ≡ Some came → Leaver Unproven came slot → IsNext slots slot
next_unproven slots came None newest of = absurd of
next_unproven slots came (Some c) newest (among, when, can) =
    let last = newest_came_last Unproven slots came newest in
    (can, inr (λ other there is. omega (arith, when, last other there is)))

pub is_next : (slots : List (Option Occupancy)) (place : ℕ) → leaver slots ≡ Some place
    → HoldsAt (IsNext slots) slots place
is_next slots place is d = by (newest_of Late slots) refl is
  where
    leaves_there : (group : Group) (came : ℕ) → position (leaves group came) slots ≡ Some place
        → Leaver group came (slice_index_or slots place d)
    leaves_there group came at =
        is_leaver group came (slice_index_or slots place d)
        (position-Some (leaves group came) slots place d at).1

    by : (late : Option ℕ) → newest_of Late slots ≡ late
        → option_or late (newest_of Unproven slots) ≡ Some place
        → IsNext slots (slice_index_or slots place d)
    by (Some n) found same =
        let (came, newest, at) = found_newest Late slots place (found ∙ same) in
        next_late slots came (slice_index_or slots place d) (leaves_there Late came at)
    by None found same =
        let (came, newest, at) = found_newest Unproven slots place same in
        next_unproven slots came (slice_index_or slots place d) newest (leaves_there Unproven came at)
