-- Counts of hits, which change nothing else of a breakpoint.
use Rattle.std.proofs.Common.{◌≡◌, ◌∙◌, ◌<◌, ◌+◌, ◌-◌, ℕ, zero, suc, List, [], ◌∷◌, ◌++◌, map, length}
use Rattle.std.proofs.Common.{Bool, true, false, ◌&&◌, ◌||◌, ◌==◌, if◌then◌else◌, nat_lt, is_none}
use Rattle.std.proofs.Common.{Option, Some, None, is_some, refl, sym, ap, subst, arith, take, drop, set}
use Rattle.std.proofs.Common.{get_or}
use Rattle.std.proofs.lemmas.List.{map-append, take-append-drop, take_all, drop_all, append-nil, set-get_or}
use Rattle.std.proofs.lemmas.List.{length-map, get_or_default}
use Rattle.std.proofs.lemmas.List.Edits.{map_over_more}
use Rattle.std.specs.List.{list_any, cons_option}
use Rattle.lab_core.specs.declared.answer.SliceOutcome.{SliceOutcome}
use Rattle.lab_core.specs.declared.answer.SliceOutcome.TheVariants as outcome
use Rattle.lab_core.specs.Board.{Board}
use Rattle.lab_core.specs.Slices.{after_steps, left_by}
use Rattle.lab_core.specs.Labs.{LabState, RepresentsBoard}
use Rattle.lab_core.specs.Marks.{MarksState, value_at}
use Rattle.dap_slice.specs.declared.conditions.ConditionalBreakpoint.{ConditionalBreakpoint}
use Rattle.dap_slice.specs.declared.conditions.Trigger.{Trigger}
use Rattle.dap_slice.specs.declared.conditions.Trigger.TheVariants as trigger
use Rattle.dap_slice.specs.declared.hits.Hits.{Hits}
use Rattle.dap_slice.specs.Hits.{is_wanted, once_more, none_yet}
use Rattle.dap_slice.specs.Conditions.{is_reached, is_there, is_any_at, holds_on, is_met_on, stops_back}
use Rattle.dap_slice.specs.Conditions.{watched_by, watched_places, IsMarked}
use Rattle.dap_slice.specs.Changes.{change_by, is_any_changed, watch_between, IsAfterStep}
use Rattle.dap_slice.specs.Counts.{is_come_to, is_hit_by, is_hit, counted_if, after_hits, points_after}
use Rattle.dap_slice.specs.Counts.{without_count, without_hits}
use Rattle.dap_slice.proofs.ValueLemmas.{SameMachine, same_condition}
use Rattle.dap_slice.proofs.ChangeLemmas.{some-unless}

abbrev Points : Type 0
Points = List ConditionalBreakpoint

-- ---- all but the counts

-- the breakpoint without its hit condition
abbrev pub core : ConditionalBreakpoint → ConditionalBreakpoint
core p = record p { hits = None }

abbrev pub Same : Points → Points → Type 0
Same ps qs = map core ps ≡ map core qs

any-core : (f : ConditionalBreakpoint → Bool) (ps : Points)
    → list_any f (map core ps) ≡ list_any (λ p. f (core p)) ps
any-core f [] = refl
any-core f (p ∷ ps) = ap (λ more. f (core p) || more) (any-core f ps)

any-same : (f : ConditionalBreakpoint → Bool) (ps qs : Points) → Same ps qs
    → list_any (λ p. f (core p)) ps ≡ list_any (λ p. f (core p)) qs
any-same f ps qs same = sym (any-core f ps) ∙ (ap (list_any f) same ∙ any-core f qs)

pub hit-same : (ps qs : Points) (id : ℕ) (was b : Board) → Same ps qs
    → is_hit ps id was b ≡ is_hit qs id was b
hit-same ps qs id was b same = any-same (λ p. p.id == id && is_hit_by was b p) ps qs same

at-same : (ps qs : Points) (address : ℕ) → Same ps qs → is_any_at ps address ≡ is_any_at qs address
at-same ps qs address same = any-same (is_there address) ps qs same

watched-core : (ps : Points) → watched_places (map core ps) ≡ watched_places ps
watched-core [] = refl
watched-core (p ∷ ps) = ap (λ more. cons_option (watched_by p.trigger) more) (watched-core ps)

watched-same : (ps qs : Points) → Same ps qs → watched_places ps ≡ watched_places qs
watched-same ps qs same = sym (watched-core ps) ∙ (ap watched_places same ∙ watched-core qs)

pub marked_same : (ps qs : Points) (marks : MarksState) → Same ps qs → IsMarked ps marks → IsMarked qs marks
marked_same ps qs marks same marked = record {
  addresses = λ address. marked.addresses address ∙ at-same ps qs address same;
  watches = marked.watches ∙ watched-same ps qs same;
}

pub after_same : (ps qs : Points) (was b : Board) (marks : MarksState) → Same ps qs
    → IsAfterStep ps was b marks → IsAfterStep qs was b marks
after_same ps qs was b marks same after = record {
  watches = after.watches ∙ ap (map (watch_between was b)) (watched-same ps qs same);
  stepped_from = after.stepped_from;
}

counted-core : (is_one : Bool) (p : ConditionalBreakpoint) → core (counted_if is_one p) ≡ core p
counted-core true p = refl
counted-core false p = refl

map-core : (f : ConditionalBreakpoint → ConditionalBreakpoint)
    → ((p : ConditionalBreakpoint) → core (f p) ≡ core p) → (ps : Points) → Same (map f ps) ps
map-core f kept [] = refl
map-core f kept (p ∷ ps) =
    ap (λ q. q ∷ map core (map f ps)) (kept p) ∙ ap (λ qs. core p ∷ qs) (map-core f kept ps)

pub same_length : (ps qs : Points) → Same ps qs → length ps ≡ length qs
same_length ps qs same = sym (length-map ps core) ∙ (ap length same ∙ length-map qs core)

-- the breakpoint with the hits of a step, which are told by the breakpoints of the whole list
abbrev pub counted : Points → Board → Board → ConditionalBreakpoint → ConditionalBreakpoint
counted all was b p = counted_if (is_hit all p.id was b) p

same-hits : (all : Points) (was b : Board) (ps : Points) → Same (map (counted all was b) ps) ps
same-hits all was b ps =
    map-core (counted all was b) (λ p. counted-core (is_hit all p.id was b) p) ps

pub same_after : (ps : Points) (k : ℕ) (b : Board) → Same (points_after ps k b) ps
same_after ps k b = by (nat_lt 0 k)
  where
    was : Board
    was = after_steps (k - 1) b

    by : (some : Bool) → Same (if some then after_hits ps was (after_steps k b) else ps) ps
    by true = same-hits ps was (after_steps k b) ps
    by false = refl

-- ---- the loop that counts

-- the element there
pub element : (ps : Points) (i : ℕ) → i < length ps
    → (p : ConditionalBreakpoint) × (p ≡ get_or ps i p)
element [] i inside = absurd (omega arith)
element (p ∷ ps) zero inside = (p, refl)
element (p ∷ ps) (suc i) inside = element ps i (omega arith)

so-far-as : (f : ConditionalBreakpoint → ConditionalBreakpoint)
    → ((p : ConditionalBreakpoint) → core (f p) ≡ core p) → (all ps : Points) (i : ℕ)
    → ps ≡ map f (take i all) ++ drop i all → Same ps all
so-far-as f kept all ps i is =
    let front = take i all in
    let back = drop i all in
    ap (map core) is ∙ (map-append core (map f front) back
    ∙ (ap (λ qs. qs ++ map core back) (map-core f kept front)
    ∙ (sym (map-append core front back) ∙ ap (map core) (take-append-drop i all))))

pub so_far : (all ps : Points) (was b : Board) (i : ℕ)
    → ps ≡ map (counted all was b) (take i all) ++ drop i all → Same ps all
so_far all ps was b i is =
    so-far-as (counted all was b) (λ p. counted-core (is_hit all p.id was b) p) all ps i is

pub after_so_far : (all ps : Points) (was b : Board) (i : ℕ) (marks : MarksState)
    → ps ≡ map (counted all was b) (take i all) ++ drop i all → IsAfterStep all was b marks
    → IsAfterStep ps was b marks
after_so_far all ps was b i marks is after =
    after_same all ps was b marks (sym (so_far all ps was b i is)) after

pub count_more : (all ps new : Points) (was b : Board) (i : ℕ) (p : ConditionalBreakpoint) → i < length all
    → ps ≡ map (counted all was b) (take i all) ++ drop i all → p ≡ get_or ps i p
    → new ≡ set ps i (counted_if (is_hit ps p.id was b) p)
    → new ≡ map (counted all was b) (take (i + 1) all) ++ drop (i + 1) all
count_more all ps new was b i p inside is here made =
    made ∙ (ap (λ one. set ps i (counted_if one p)) (hit-same ps all p.id was b (so_far all ps was b i is))
    ∙ map_over_more (counted all was b) all ps i p inside is here)

-- the breakpoint with other hits
abbrev pub rehit : (ConditionalBreakpoint → Option Hits) → ConditionalBreakpoint → ConditionalBreakpoint
rehit h p = record p { hits = h p }

pub rehit_more : (h : ConditionalBreakpoint → Option Hits) (all ps : Points) (i : ℕ)
    (p : ConditionalBreakpoint) (hits : Option Hits)
    → i < length all → ps ≡ map (rehit h) (take i all) ++ drop i all → hits ≡ h (get_or ps i p)
    → set ps i (record (get_or ps i p) { hits = hits })
    ≡ map (rehit h) (take (i + 1) all) ++ drop (i + 1) all
rehit_more h all ps i p hits inside is one =
    let same = so-far-as (rehit h) (λ q. refl) all ps i is in
    let long = same_length ps all same in
    let here : i < length ps = omega arith in
    rw one (map_over_more (rehit h) all ps i (get_or ps i p) inside is (get_or_default ps i p _ here))

-- what a list in a vector is after its slice was written
pub written_back : (n : ℕ) (all ps : Points) → n ≡ length all → Same ps all
    → take n (ps ++ drop (length ps) all) ≡ ps
written_back n all ps long same =
    let as_long = same_length ps all same in
    ap (λ rest. take n (ps ++ rest)) (drop_all (length ps) all (omega arith))
    ∙ (ap (take n) (append-nil ps) ∙ take_all n ps (omega arith))

pub rehit_marked : (h : ConditionalBreakpoint → Option Hits) (all ps : Points) (i n : ℕ) (marks : MarksState)
    → ps ≡ map (rehit h) (take i all) ++ drop i all → n ≡ length all → IsMarked all marks
    → IsMarked (take n (ps ++ drop (length ps) all)) marks
rehit_marked h all ps i n marks is long marked =
    let same = so-far-as (rehit h) (λ q. refl) all ps i is in
    subst (λ qs. IsMarked qs marks) (sym (written_back n all ps long same))
    (marked_same all ps marks (sym same) marked)

-- one that counts no hits stays as it is
pub uncounting : (is_one : Bool) (p : ConditionalBreakpoint) → p.hits ≡ None → counted_if is_one p ≡ p
uncounting true p none = ap (λ h. record p { hits = h }) (ap once_more none ∙ sym none)
uncounting false p none = refl

pub kept_at : (ps : Points) (i : ℕ) (p : ConditionalBreakpoint) (is_one : Bool) → p ≡ get_or ps i p
    → p.hits ≡ None → ps ≡ set ps i (counted_if is_one p)
kept_at ps i p is_one here none =
    sym (ap (set ps i) (uncounting is_one p none ∙ here) ∙ set-get_or ps i p)

pub not_hit_at : (ps : Points) (i : ℕ) (p : ConditionalBreakpoint) (is_one : Bool) → p ≡ get_or ps i p
    → is_one ≡ false → ps ≡ set ps i (counted_if is_one p)
not_hit_at ps i p is_one here none =
    sym (ap (λ one. set ps i (counted_if one p)) none ∙ (ap (set ps i) here ∙ set-get_or ps i p))

-- ---- on a board that a slice has left

pub left_same : (ending : SliceOutcome) (b : Board) → SameMachine b (left_by ending b)
left_same outcome.More b = record { machine = refl; symbols = refl }
left_same outcome.Waiting b = record { machine = refl; symbols = refl }
left_same (outcome.Stop s) b = record { machine = refl; symbols = refl }
left_same (outcome.End e) b = record { machine = refl; symbols = refl }

pub after_left : (ending : SliceOutcome) (ps : Points) (was b : Board) (marks : MarksState)
    → IsAfterStep ps was b marks → IsAfterStep ps was (left_by ending b) marks
after_left outcome.More ps was b marks after = after
after_left outcome.Waiting ps was b marks after = after
after_left (outcome.Stop s) ps was b marks after =
    record { watches = after.watches; stepped_from = after.stepped_from }
after_left (outcome.End e) ps was b marks after =
    record { watches = after.watches; stepped_from = after.stepped_from }

any-by : (f g : ConditionalBreakpoint → Bool) → ((p : ConditionalBreakpoint) → f p ≡ g p) → (ps : Points)
    → list_any f ps ≡ list_any g ps
any-by f g same [] = refl
any-by f g same (p ∷ ps) =
    ap (λ here. here || list_any f ps) (same p) ∙ ap (λ more. g p || more) (any-by f g same ps)

map-by : (f g : ConditionalBreakpoint → ConditionalBreakpoint)
    → ((p : ConditionalBreakpoint) → f p ≡ g p) → (ps : Points) → map f ps ≡ map g ps
map-by f g same [] = refl
map-by f g same (p ∷ ps) = ap (λ q. q ∷ map f ps) (same p) ∙ ap (λ qs. g p ∷ qs) (map-by f g same ps)

hit-by : (was was' b b' : Board) (p : ConditionalBreakpoint) → was.machine ≡ was'.machine → SameMachine b b'
    → is_hit_by was b p ≡ is_hit_by was' b' p
hit-by was was' b b' p before same = by p.trigger
  where
    by : (t : Trigger) → (is_come_to was b t && holds_on b p.condition)
        ≡ (is_come_to was' b' t && holds_on b' p.condition)
    by (trigger.Address address) = rw (same_condition b b' p.condition same, same.machine) refl
    by (trigger.Line line) = refl
    by (trigger.Change place) = rw (same_condition b b' p.condition same, same.machine, before) refl

-- a step of the same machine has the same hits
pub hits_alike : (ps : Points) (was was' b b' : Board) → was.machine ≡ was'.machine → SameMachine b b'
    → after_hits ps was b ≡ after_hits ps was' b'
hits_alike ps was was' b b' before same =
    map-by (counted ps was b) (counted ps was' b')
    (λ p. ap (λ one. counted_if one p)
    (any-by (λ q. q.id == p.id && is_hit_by was b q) (λ q. q.id == p.id && is_hit_by was' b' q)
    (λ q. ap (λ hit. q.id == p.id && hit) (hit-by was was' b b' q before same)) ps)) ps

pub hits_same : (ps : Points) (was b b' : Board) → SameMachine b b'
    → after_hits ps was b ≡ after_hits ps was b'
hits_same ps was b b' same = hits_alike ps was was b b' refl same

-- what the code counts is what the slice says
counted_after : (ps new : Points) (k : ℕ) (b left : Board) → SameMachine (after_steps k b) left
    → new ≡ (if nat_lt 0 k then after_hits ps (after_steps (k - 1) b) left else ps)
    → new ≡ points_after ps k b
counted_after ps new k b left same is =
    is ∙ ap (λ qs. if nat_lt 0 k then qs else ps)
    (sym (hits_same ps (after_steps (k - 1) b) (after_steps k b) left same))

-- what the code counts
abbrev pub Counts : Points → Points → ℕ → LabState → MarksState → Type 0
Counts ps new k lab marks =
    (was b : Board) → RepresentsBoard lab b → IsAfterStep ps was b marks
    → new ≡ (if nat_lt 0 k then after_hits ps was b else ps)

pub list_after : (all ps new : Points) (n k : ℕ) (b : Board) (ending : SliceOutcome) (lab : LabState)
    (marks : MarksState) → n ≡ length all → ps ≡ all → Counts ps new k lab marks
    → RepresentsBoard lab (left_by ending (after_steps k b))
    → IsAfterStep all (after_steps (k - 1) b) (after_steps k b) marks
    → take n (new ++ drop (length new) all) ≡ points_after all k b
list_after all ps new n k b ending lab marks long is counts represents after =
    let was = after_steps (k - 1) b in
    let now = after_steps k b in
    let C : Points → Type 0 = λ qs. Counts qs new k lab marks in
    let made =
    counted_after all new k b (left_by ending now) (left_same ending now)
    (subst C is counts was (left_by ending now) represents (after_left ending all was now marks after)) in
    written_back n all new long (ap (map core) made ∙ same_after all k b) ∙ made

-- ---- laws

none-yet : (hits : Option Hits) → none_yet (once_more hits) ≡ none_yet hits
none-yet None = refl
none-yet (Some h) = refl

without_count-counted : (is_one : Bool) (p : ConditionalBreakpoint)
    → without_count (counted_if is_one p) ≡ without_count p
without_count-counted true p = ap (λ h. record p { hits = h }) (none-yet p.hits)
without_count-counted false p = refl

pub without-counted : (all : Points) (was b : Board) (ps : Points)
    → without_hits (map (counted all was b) ps) ≡ without_hits ps
without-counted all was b [] = refl
without-counted all was b (p ∷ ps) =
    ap (λ q. q ∷ without_hits (map (counted all was b) ps)) (without_count-counted (is_hit all p.id was b) p)
    ∙ ap (λ qs. without_count p ∷ qs) (without-counted all was b ps)

pub without_after : (ps : Points) (k : ℕ) (b : Board) → without_hits (points_after ps k b) ≡ without_hits ps
without_after ps k b = by (nat_lt 0 k)
  where
    was : Board
    was = after_steps (k - 1) b

    by : (some : Bool)
        → without_hits (if some then after_hits ps was (after_steps k b) else ps) ≡ without_hits ps
    by true = without-counted ps was (after_steps k b) ps
    by false = refl

-- a run that goes back doesn't look at counts
pub back_without : (ps : Points) (b : Board)
    → list_any (stops_back b) (without_hits ps) ≡ list_any (stops_back b) ps
back_without [] b = refl
back_without (p ∷ ps) b =
    ap (λ here. here || list_any (stops_back b) (without_hits ps)) (by p.hits)
    ∙ ap (λ more. stops_back b p || more) (back_without ps b)
  where
    by : (hits : Option Hits)
        → (is_none (none_yet hits) && (is_none p.log && (is_wanted (none_yet hits) && is_met_on b p)))
        ≡ (is_none hits && (is_none p.log && (is_wanted hits && is_met_on b p)))
    by None = refl
    by (Some h) = refl

-- a step that comes to nothing is no hit
come-to : (was b : Board) (t : Trigger)
    → is_come_to was b t ≡ (is_reached b.machine.regs.pc t || is_some (change_by was b t))
come-to was b (trigger.Address address) = by (address == b.machine.regs.pc)
  where
    by : (here : Bool) → here ≡ (here || false)
    by true = refl
    by false = refl
come-to was b (trigger.Line line) = refl
come-to was b (trigger.Change place) =
    sym (some-unless (value_at place was.machine == value_at place b.machine) _)

no-hit : (was b : Board) (id : ℕ) (ps : Points) → is_any_at ps b.machine.regs.pc ≡ false
    → is_any_changed ps was b ≡ false → is_hit ps id was b ≡ false
no-hit was b id [] at changed = refl
no-hit was b id (p ∷ ps) at changed =
    by (is_there b.machine.regs.pc p) (is_some (change_by was b p.trigger)) (come-to was b p.trigger) at
    changed (no-hit was b id ps)
  where
    quiet : (same holds more : Bool) → more ≡ false → (same && (false && holds) || more) ≡ false
    quiet true holds more none = none
    quiet false holds more none = none

    by : (there other : Bool) → is_come_to was b p.trigger ≡ (there || other)
        → (there || is_any_at ps b.machine.regs.pc) ≡ false → (other || is_any_changed ps was b) ≡ false
        → (is_any_at ps b.machine.regs.pc ≡ false → is_any_changed ps was b ≡ false
        → is_hit ps id was b ≡ false) → is_hit (p ∷ ps) id was b ≡ false
    by true other is at changed rest = absurd cc
    by false true is at changed rest = absurd cc
    by false false is at changed rest =
        rw is (quiet (p.id == id) (holds_on b p.condition) (is_hit ps id was b) (rest at changed))

pub not_counted : (was b : Board) (all ps : Points) → is_any_at all b.machine.regs.pc ≡ false
    → is_any_changed all was b ≡ false → map (counted all was b) ps ≡ ps
not_counted was b all [] at changed = refl
not_counted was b all (p ∷ ps) at changed =
    ap (λ one. counted_if one p ∷ map (counted all was b) ps) (no-hit was b p.id all at changed)
    ∙ ap (λ qs. p ∷ qs) (not_counted was b all ps at changed)
