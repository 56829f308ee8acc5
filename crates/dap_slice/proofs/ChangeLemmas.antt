-- Watched places, and the marks of breakpoints.
use Rattle.std.proofs.Common.{◌≡◌, ◌∙◌, ◌-◌, map, ℕ, List, [], ◌∷◌}
use Rattle.std.proofs.Common.{◌++◌, Bool, true, false, ◌&&◌, ◌||◌, ◌==◌, not, if◌then◌else◌}
use Rattle.std.proofs.Common.{Option, Some, None, Result, Ok, Err, OnOk, is_some, refl, sym, ap, subst, arith}
use Rattle.std.proofs.Math.Bool.{or-false}
use Rattle.std.proofs.lemmas.Bool.Decides.{nat_tests}
use Rattle.std.proofs.lemmas.List.{map-append}
use Rattle.std.proofs.lemmas.List.Elements.{filter_map-append}
use Rattle.std.proofs.lemmas.List.Folds.{list_any-append}
use Rattle.std.specs.Bool.{⊤}
use Rattle.std.specs.List.{list_any, cons_option}
use Rattle.std.specs.Option.{option_or}
use Rattle.std.specs.declared.alloc.AllocError.{AllocError}
use Rattle.i80_exec.specs.State.{MachineState}
use Rattle.lab_image.specs.Addresses.{has}
use Rattle.lab_shown.specs.declared.place.Place.{Place}
use Rattle.lab_shown.specs.declared.place.PlaceChange.{PlaceChange}
use Rattle.lab_core.specs.declared.marks.Watch.{Watch}
use Rattle.lab_core.specs.Board.{Board}
use Rattle.lab_core.specs.Slices.{after_steps}
use Rattle.lab_core.specs.Marks.{MarksState, value_at, is_changed, watch_of, marks_after, marked_at}
use Rattle.dap_slice.specs.declared.conditions.ConditionalBreakpoint.{ConditionalBreakpoint}
use Rattle.dap_slice.specs.declared.conditions.Trigger.{Trigger}
use Rattle.dap_slice.specs.declared.conditions.Trigger.TheVariants as trigger
use Rattle.dap_slice.specs.Hits.{is_wanted}
use Rattle.dap_slice.specs.Conditions.{is_there, is_any_at, holds_on, watched_by, watched_places, IsMarked}
use Rattle.dap_slice.specs.Changes.{change_of, change_by, change_on, first_change, change_at, is_any_changed}
use Rattle.dap_slice.specs.Changes.{watch_between, IsAfterStep}
use Rattle.dap_slice.specs.SliceEnds.{is_at_after, IsStepChange}
use Rattle.dap_slice.proofs.ValueLemmas.{SameMachine, same_condition}

abbrev Points : Type 0
Points = List ConditionalBreakpoint

abbrev place_of : Watch → Place
place_of w = w.place

-- ---- marks of one breakpoint more

watched-more : (points : Points) (p : ConditionalBreakpoint)
    → watched_places (points ++ p ∷ []) ≡ watched_places points ++ cons_option (watched_by p.trigger) []
watched-more points p =
    filter_map-append (λ (q : ConditionalBreakpoint). watched_by q.trigger) points (p ∷ [])

with-place : (points : Points) (p : ConditionalBreakpoint) (o : Option Place) → watched_by p.trigger ≡ o
    → watched_places (points ++ p ∷ []) ≡ watched_places points ++ cons_option o []
with-place points p o is =
    watched-more points p ∙ ap (λ more. watched_places points ++ cons_option more []) is

at-more : (points : Points) (p : ConditionalBreakpoint) (address : ℕ)
    → is_any_at (points ++ p ∷ []) address ≡ (is_any_at points address || is_there address p)
at-more points p address =
    list_any-append (is_there address) points (p ∷ [])
    ∙ ap (λ more. is_any_at points address || more) (or-false (is_there address p))

append-nil : (places : List Place) → places ++ [] ≡ places
append-nil [] = refl
append-nil (place ∷ places) = ap (λ rest. place ∷ rest) (append-nil places)

pub marks_address : (points : Points) (p : ConditionalBreakpoint) (t : Trigger) (address : ℕ)
    (marks marks' : MarksState) → p.trigger ≡ t → t ≡ trigger.Address address → IsMarked points marks
    → ((a : ℕ) → has marks'.addresses a ≡ (has marks.addresses a || address == a))
    → marks' ≡ record marks { addresses = marks'.addresses } → IsMarked (points ++ p ∷ []) marks'
marks_address points p t address marks marks' is kind marked more same =
    let this : p.trigger ≡ trigger.Address address = is ∙ kind in
    let there : (a : ℕ) → is_there a p ≡ (address == a) = λ a. rw this refl in
    let none : watched_by p.trigger ≡ None = rw this refl in
    record {
      addresses = λ a.
          more a ∙ (ap (λ found. found || address == a) (marked.addresses a)
          ∙ (ap (λ found. is_any_at points a || found) (sym (there a)) ∙ sym (at-more points p a)));
      watches =
          ap (λ (m : MarksState). map place_of m.watches) same ∙ (marked.watches
          ∙ sym (with-place points p None none ∙ append-nil (watched_places points)));
    }

pub marks_place : (points : Points) (p : ConditionalBreakpoint) (t : Trigger) (place : Place)
    (marks marks' : MarksState) (result : Result ⊤ AllocError) → p.trigger ≡ t → t ≡ trigger.Change place
    → IsMarked points marks → OnOk result (marks' ≡ record marks {
      watches = marks.watches ++ record { place = place; before = 0; after = 0 } ∷ [];
    }) → OnOk result (IsMarked (points ++ p ∷ []) marks')
marks_place points p t place marks marks' (Err e) is kind marked same = same
marks_place points p t place marks marks' (Ok done) is kind marked same =
    let this : p.trigger ≡ trigger.Change place = is ∙ kind in
    let there : (a : ℕ) → is_there a p ≡ false = λ a. rw this refl in
    let some : watched_by p.trigger ≡ Some place = rw this refl in
    let watch : Watch = record { place = place; before = 0; after = 0 } in
    record {
      addresses = λ a.
          ap (λ (m : MarksState). has m.addresses a) same ∙ (marked.addresses a
          ∙ (sym (or-false (is_any_at points a))
          ∙ (ap (λ found. is_any_at points a || found) (sym (there a)) ∙ sym (at-more points p a))));
      watches =
          ap (λ (m : MarksState). map place_of m.watches) same
          ∙ (map-append place_of marks.watches (watch ∷ [])
          ∙ (ap (λ places. places ++ place ∷ []) marked.watches
          ∙ sym (with-place points p (Some place) some)));
    }

pub marks_line : (points : Points) (p : ConditionalBreakpoint) (t : Trigger) (line : ℕ) (marks : MarksState)
    → p.trigger ≡ t → t ≡ trigger.Line line → IsMarked points marks → IsMarked (points ++ p ∷ []) marks
marks_line points p t line marks is kind marked =
    let this : p.trigger ≡ trigger.Line line = is ∙ kind in
    let there : (a : ℕ) → is_there a p ≡ false = λ a. rw this refl in
    let none : watched_by p.trigger ≡ None = rw this refl in
    record {
      addresses = λ a.
          marked.addresses a ∙ (sym (or-false (is_any_at points a))
          ∙ (ap (λ found. is_any_at points a || found) (sym (there a)) ∙ sym (at-more points p a)));
      watches =
          marked.watches ∙ sym (with-place points p None none ∙ append-nil (watched_places points));
    }

-- ---- where a mark is

abbrev differs_at : Board → Board → Place → Bool
differs_at was b place = not (value_at place was.machine == value_at place b.machine)

changed-watch : (was b : Board) (ws : List Watch)
    → list_any (is_changed was.machine b.machine) ws ≡ list_any (differs_at was b) (map place_of ws)
changed-watch was b [] = refl
changed-watch was b (w ∷ ws) =
    ap (λ more. is_changed was.machine b.machine w || more) (changed-watch was b ws)

pub some-unless : (same : Bool) (c : PlaceChange) → is_some (if same then None else Some c) ≡ not same
some-unless true c = refl
some-unless false c = refl

changed-place : (was b : Board) (points : Points)
    → list_any (differs_at was b) (watched_places points) ≡ is_any_changed points was b
changed-place was b [] = refl
changed-place was b (p ∷ ps) = by p.trigger (changed-place was b ps)
  where
    by : (t : Trigger) → list_any (differs_at was b) (watched_places ps) ≡ is_any_changed ps was b
        → list_any (differs_at was b) (cons_option (watched_by t) (watched_places ps))
        ≡ (is_some (change_by was b t) || is_any_changed ps was b)
    by (trigger.Address address) rest = rest
    by (trigger.Line line) rest = rest
    by (trigger.Change place) rest =
        let same = value_at place was.machine == value_at place b.machine in
        rw (some-unless same _, rest) refl

pub marked_there : (points : Points) (marks : MarksState) (b : Board) (j : ℕ) → IsMarked points marks
    → marked_at marks b j ≡ is_at_after points b j
marked_there points marks b j marked =
    let was = after_steps (j - 1) b in
    let now = after_steps j b in
    let changed : list_any (is_changed was.machine now.machine) marks.watches
    ≡ is_any_changed points was now =
    changed-watch was now marks.watches ∙ (ap (list_any (differs_at was now)) marked.watches
    ∙ changed-place was now points) in
    ap (λ found. found || list_any (is_changed was.machine now.machine) marks.watches)
    (marked.addresses now.machine.regs.pc)
    ∙ ap (λ more. is_any_at points now.machine.regs.pc || more) changed

-- ---- after a slice

same-places : (m m' : MachineState) (ws : List Watch)
    → map place_of (map (watch_of m m') ws) ≡ map place_of ws
same-places m m' [] = refl
same-places m m' (w ∷ ws) = ap (λ rest. w.place ∷ rest) (same-places m m' ws)

pub marked_still : (points : Points) (marks : MarksState) (k : ℕ) (b : Board) → IsMarked points marks
    → IsMarked points (marks_after k b marks)
marked_still points marks k b marked = record {
  addresses = marked.addresses;
  watches =
      same-places (after_steps (k - 1) b).machine (after_steps k b).machine marks.watches ∙ marked.watches;
}

between : (was b : Board) (ws : List Watch)
    → map (watch_of was.machine b.machine) ws ≡ map (watch_between was b) (map place_of ws)
between was b [] = refl
between was b (w ∷ ws) = ap (λ rest. watch_between was b w.place ∷ rest) (between was b ws)

pub after_step : (points : Points) (marks : MarksState) (k : ℕ) (b : Board) → IsMarked points marks
    → IsAfterStep points (after_steps (k - 1) b) (after_steps k b) (marks_after k b marks)
after_step points marks k b marked =
    let was = after_steps (k - 1) b in
    let now = after_steps k b in
    record {
      watches =
          between was now marks.watches ∙ ap (map (watch_between was now)) marked.watches;
      stepped_from = refl;
    }

-- ---- the first change

abbrev pub Watches : Points → Board → Board → List Watch
Watches points was b = map (watch_between was b) (watched_places points)

-- a breakpoint at an address is passed over
pub past_address : (p : ConditionalBreakpoint) (ps : Points) (address : ℕ) (was b : Board)
    → p.trigger ≡ trigger.Address address
    → (first_change (p ∷ ps) was b ≡ first_change ps was b) × (Watches (p ∷ ps) was b ≡ Watches ps was b)
past_address p ps address was b is = rw is (by (is_wanted p.hits && holds_on b p.condition), refl)
  where
    by : (holds : Bool)
        → option_or (if holds then None else None) (first_change ps was b) ≡ first_change ps was b
    by true = refl
    by false = refl

-- so is one on a line
pub past_line : (p : ConditionalBreakpoint) (ps : Points) (line : ℕ) (was b : Board)
    → p.trigger ≡ trigger.Line line
    → (first_change (p ∷ ps) was b ≡ first_change ps was b) × (Watches (p ∷ ps) was b ≡ Watches ps was b)
past_line p ps line was b is = rw is (by (is_wanted p.hits && holds_on b p.condition), refl)
  where
    by : (holds : Bool)
        → option_or (if holds then None else None) (first_change ps was b) ≡ first_change ps was b
    by true = refl
    by false = refl

-- ---- what a change is

of-place : (was b : Board) (place : Place) (c : PlaceChange) → change_of was b place ≡ Some c
    → IsStepChange was b c
of-place was b place c is = by (before == after) refl is
  where
    before : ℕ
    before = value_at place was.machine

    after : ℕ
    after = value_at place b.machine

    made : PlaceChange
    made = record { place = place; before = before; after = after; by = was.machine.regs.pc }

    by : (same : Bool) → (before == after) ≡ same → (if same then None else Some made) ≡ Some c
        → IsStepChange was b c
    by true same is = absurd cc
    by false differ is =
        let this : made ≡ c = cc in
        subst (λ x. IsStepChange was b x) this (record {
          before = refl;
          after = refl;
          differ = grind (arith, nat_tests);
          by = refl;
        })

on-point : (was b : Board) (p : ConditionalBreakpoint) (c : PlaceChange) → change_on was b p ≡ Some c
    → IsStepChange was b c
on-point was b p c is = by (is_wanted p.hits && holds_on b p.condition) p.trigger is
  where
    by : (holds : Bool) (t : Trigger) → (if holds then change_by was b t else None) ≡ Some c
        → IsStepChange was b c
    by false t is = absurd cc
    by true (trigger.Address address) is = absurd cc
    by true (trigger.Line line) is = absurd cc
    by true (trigger.Change place) is = of-place was b place c is

pub first_is : (points : Points) (was b : Board) (c : PlaceChange) → first_change points was b ≡ Some c
    → IsStepChange was b c
first_is [] was b c is = absurd cc
first_is (p ∷ ps) was b c is = by (change_on was b p) refl is (first_is ps was b c)
  where
    by : (o : Option PlaceChange) → change_on was b p ≡ o → option_or o (first_change ps was b) ≡ Some c
        → (first_change ps was b ≡ Some c → IsStepChange was b c) → IsStepChange was b c
    by None none is rest = rest is
    by (Some x) some is rest = on-point was b p c (some ∙ is)

pub first_of : (points : Points) (was b : Board) (c : PlaceChange) → change_at points was b ≡ Some c
    → first_change points was b ≡ Some c
first_of points was b c is = by b.is_attached is
  where
    by : (attached : Bool) → (if attached then first_change points was b else None) ≡ Some c
        → first_change points was b ≡ Some c
    by true is = is
    by false is = absurd cc

-- ---- on a board that a stop has left

change-same : (was b b' : Board) (p : ConditionalBreakpoint) → SameMachine b b'
    → change_on was b p ≡ change_on was b' p
change-same was b b' p same = by p.trigger
  where
    by : (t : Trigger)
        → (if is_wanted p.hits && holds_on b p.condition then change_by was b t else None)
        ≡ (if is_wanted p.hits && holds_on b' p.condition then change_by was b' t else None)
    by (trigger.Address address) = rw (same_condition b b' p.condition same) refl
    by (trigger.Line line) = rw (same_condition b b' p.condition same) refl
    by (trigger.Change place) = rw (same_condition b b' p.condition same, same.machine) refl

pub first_same : (points : Points) (was b b' : Board) → SameMachine b b'
    → first_change points was b ≡ first_change points was b'
first_same [] was b b' same = refl
first_same (p ∷ ps) was b b' same =
    rw (change-same was b b' p same, first_same ps was b b' same) refl
