-- Hits counted apart from the breakpoints' own counts.
use Rattle.std.proofs.Common.{◌≡◌, ◌∙◌, ◌<◌, ◌≤◌, ◌+◌, ◌-◌, ℕ, zero, suc, List, [], ◌∷◌, ◌++◌, map, length}
use Rattle.std.proofs.Common.{Bool, true, false, ◌||◌, is_some, min, inl, inr}
use Rattle.std.proofs.Common.{Option, Some, None, refl, sym, ap, subst, arith, take, drop, set, get_or}
use Rattle.std.proofs.lemmas.Bool.{cases_lt}
use Rattle.std.proofs.lemmas.Bool.Decides.{nat_tests}
use Rattle.std.proofs.lemmas.List.{map-append, map-set, take-append-drop, take_all, drop_all, append-nil}
use Rattle.std.proofs.lemmas.List.{set-get_or, length-map, get_or-map}
use Rattle.std.proofs.Math.ListN.{get_or-map as get_mapped}
use Rattle.lab_core.specs.Board.{Board}
use Rattle.lab_core.specs.Slices.{after_steps}
use Rattle.lab_core.specs.Marks.{MarksState}
use Rattle.dap_slice.specs.declared.conditions.ConditionalBreakpoint.{ConditionalBreakpoint}
use Rattle.dap_slice.specs.declared.hits.Hits.{Hits}
use Rattle.dap_slice.specs.Hits.{once_more, none_yet}
use Rattle.dap_slice.specs.Conditions.{IsMarked}
use Rattle.dap_slice.specs.Counts.{is_hit, counted_if, after_hits, after_each_step}
use Rattle.dap_slice.specs.Counts.{without_count, without_hits}
use Rattle.dap_slice.specs.Tallies.{hits_in, IsTallyOf, less, with_less, without_tally, is_full, is_any_full}
use Rattle.dap_slice.proofs.CountLemmas.{core, Same, counted, same_length, hit-same, without-counted}
use Rattle.dap_slice.proofs.CountLemmas.{count_more, marked_same, uncounting, written_back}

abbrev pub Points : Type 0
Points = List ConditionalBreakpoint

abbrev pub Counts : Type 0
Counts = List (Option Hits)

-- ---- breakpoints that are the same but for their counts

core-without : (ps : Points) → map core (without_hits ps) ≡ map core ps
core-without [] = refl
core-without (p ∷ ps) = ap (λ qs. core p ∷ qs) (core-without ps)

pub same_others : (ps qs : Points) → without_hits qs ≡ without_hits ps → Same qs ps
same_others ps qs others = sym (core-without qs) ∙ (ap (map core) others ∙ core-without ps)

none-twice : (hits : Option Hits) → none_yet (none_yet hits) ≡ none_yet hits
none-twice None = refl
none-twice (Some h) = refl

pub without_twice : (ps : Points) → without_hits (without_hits ps) ≡ without_hits ps
without_twice [] = refl
without_twice (p ∷ ps) =
    let one : without_count (without_count p) ≡ without_count p =
    ap (λ h. record p { hits = h }) (none-twice p.hits) in
    ap (λ q. q ∷ without_hits (without_hits ps)) one ∙ ap (λ qs. without_count p ∷ qs) (without_twice ps)

pub no_hits_in : (points : Points) (hits : Counts) → hits ≡ hits_in (without_hits points)
    → IsTallyOf points (without_hits points) hits
no_hits_in points hits is = record { others = without_twice points; hits = is }

-- ---- one breakpoint's count

-- the breakpoint at the same place has the same number
same-id : (points counts : Points) (i : ℕ) (p q : ConditionalBreakpoint) → Same counts points
    → p ≡ get_or counts i p → q ≡ get_or points i p → p.id ≡ q.id
same-id points counts i p q same here there =
    ap (λ (r : ConditionalBreakpoint). r.id) (ap core here ∙ (sym (get_mapped core counts i p)
    ∙ (ap (λ ps. get_or ps i (core p)) same ∙ (get_mapped core points i p ∙ ap core (sym there)))))

-- so it has the same hits
pub hit_here : (points counts : Points) (hits : Counts) (i : ℕ) (p q : ConditionalBreakpoint) (was b : Board)
    → IsTallyOf points counts hits → p ≡ get_or counts i p → q ≡ get_or points i p
    → is_hit counts p.id was b ≡ is_hit points q.id was b
hit_here points counts hits i p q was b tally here there =
    let same = same_others points counts tally.others in
    hit-same counts points p.id was b same
    ∙ ap (λ id. is_hit points id was b) (same-id points counts i p q same here there)

hits_at : (points counts : Points) (hits : Counts) (i : ℕ) (p : ConditionalBreakpoint) (d : Option Hits)
    → IsTallyOf points counts hits → i < length hits → p ≡ get_or counts i p → get_or hits i d ≡ p.hits
hits_at points counts hits i p d tally inside here =
    let hits_of : ConditionalBreakpoint → Option Hits = λ q. q.hits in
    let long = ap length tally.hits ∙ length-map counts hits_of in
    let within : i < length counts = omega (arith, inside, long) in
    ap (λ hs. get_or hs i d) tally.hits
    ∙ (get_or-map hits_of counts i p d within ∙ ap hits_of (sym here))

pub hit_at : (points counts : Points) (hits new : Counts) (i : ℕ) (p : ConditionalBreakpoint)
    (d : Option Hits) (is_one : Bool) → IsTallyOf points counts hits → i < length hits
    → p ≡ get_or counts i p → is_one ≡ true → new ≡ set hits i (once_more (get_or hits i d))
    → new ≡ hits_in (set counts i (counted_if is_one p))
hit_at points counts hits new i p d is_one tally inside here is made =
    made ∙ (ap (λ h. set hits i (once_more h)) (hits_at points counts hits i p d tally inside here)
    ∙ (ap (λ hs. set hs i (once_more p.hits)) tally.hits
    ∙ (sym (map-set (λ q. q.hits) counts i (counted_if true p))
    ∙ ap (λ one. hits_in (set counts i (counted_if one p))) (sym is))))

-- with the breakpoint as it is there
unchanged_at : (points counts : Points) (hits : Counts) (i : ℕ) (p q : ConditionalBreakpoint)
    → IsTallyOf points counts hits → p ≡ get_or counts i p → q ≡ p → hits ≡ hits_in (set counts i q)
unchanged_at points counts hits i p q tally here same =
    tally.hits ∙ sym (ap hits_in (ap (set counts i) (same ∙ here) ∙ set-get_or counts i p))

pub no_hit_at : (points counts : Points) (hits : Counts) (i : ℕ) (p : ConditionalBreakpoint)
    (is_one : Bool) → IsTallyOf points counts hits → p ≡ get_or counts i p → is_one ≡ false
    → hits ≡ hits_in (set counts i (counted_if is_one p))
no_hit_at points counts hits i p is_one tally here isn't =
    unchanged_at points counts hits i p (counted_if is_one p) tally here (ap (λ one. counted_if one p) isn't)

none-of : (hits : Option Hits) → is_some hits ≡ false → hits ≡ None
none-of None is = refl
none-of (Some h) is = absurd cc

pub uncounted_at : (points counts : Points) (hits : Counts) (i : ℕ) (p : ConditionalBreakpoint)
    (d : Option Hits) (is_one : Bool) → IsTallyOf points counts hits → i < length hits
    → p ≡ get_or counts i p → is_some (get_or hits i d) ≡ false
    → hits ≡ hits_in (set counts i (counted_if is_one p))
uncounted_at points counts hits i p d is_one tally inside here none =
    unchanged_at points counts hits i p (counted_if is_one p) tally here
    (uncounting is_one p (sym (hits_at points counts hits i p d tally inside here)
    ∙ none-of (get_or hits i d) none))

-- ---- the loop that counts

abbrev pub so_far : Points → Board → Board → ℕ → Points
so_far all was b i = map (counted all was b) (take i all) ++ drop i all

without_so_far : (all : Points) (was b : Board) (i : ℕ) → without_hits (so_far all was b i) ≡ without_hits all
without_so_far all was b i =
    let front = take i all in
    let back = drop i all in
    map-append without_count (map (counted all was b) front) back
    ∙ (ap (λ qs. qs ++ without_hits back) (without-counted all was b front)
    ∙ (sym (map-append without_count front back) ∙ ap without_hits (take-append-drop i all)))

pub so_far_length : (all : Points) (was b : Board) (i : ℕ) (hits : Counts)
    → hits ≡ hits_in (so_far all was b i) → length hits ≡ length all
so_far_length all was b i hits is =
    let ps = so_far all was b i in
    ap length is ∙ (length-map ps (λ p. p.hits)
    ∙ same_length ps all (same_others all ps (without_so_far all was b i)))

pub tally_so_far : (points all : Points) (was b : Board) (i : ℕ) (hits : Counts)
    → without_hits all ≡ without_hits points → hits ≡ hits_in (so_far all was b i)
    → IsTallyOf points (so_far all was b i) hits
tally_so_far points all was b i hits others is =
    record { others = without_so_far all was b i ∙ others; hits = is }

pub tally_more : (all : Points) (was b : Board) (i : ℕ) (p : ConditionalBreakpoint) (new : Counts)
    → i < length all → p ≡ get_or (so_far all was b i) i p
    → new ≡ hits_in (set (so_far all was b i) i (counted_if (is_hit (so_far all was b i) p.id was b) p))
    → new ≡ hits_in (so_far all was b (i + 1))
tally_more all was b i p new inside here made =
    made ∙ ap hits_in (count_more all (so_far all was b i) _ was b i p inside refl here refl)

pub tally_all : (points all : Points) (was b : Board) (i : ℕ) (hits : Counts)
    → without_hits all ≡ without_hits points → length all ≤ i → hits ≡ hits_in (so_far all was b i)
    → IsTallyOf points (after_hits all was b) hits
tally_all points all was b i hits others end is = record {
  others = without-counted all was b all ∙ others;
  hits = is ∙ ap hits_in (ap (λ qs. map (counted all was b) (take i all) ++ qs) (drop_all i all end)
      ∙ (append-nil (map (counted all was b) (take i all))
      ∙ ap (map (counted all was b)) (take_all i all end)));
}

-- ---- counts that are taken away

none-left : (gone : Counts) → without_tally gone [] ≡ []
none-left [] = refl
none-left (g ∷ gs) = refl

pub same_taken : (gone : Counts) (ps : Points) → Same (without_tally gone ps) ps
same_taken [] ps = refl
same_taken (g ∷ gs) [] = refl
same_taken (g ∷ gs) (p ∷ ps) = ap (λ qs. core p ∷ qs) (same_taken gs ps)

-- those before are done
abbrev pub TakenSoFar : Points → Points → Counts → ℕ → Type 0
TakenSoFar all ps gone i =
    take i ps ++ without_tally (drop i gone) (drop i ps) ≡ without_tally gone all

pub taken_all : (all ps : Points) (gone : Counts) (i : ℕ) → (i < length ps → length gone ≤ i)
    → TakenSoFar all ps gone i → ps ≡ without_tally gone all
taken_all all ps gone i end is = elim (cases_lt i (length ps)) [
  | inl more ↦ sym (ap (λ hs. take i ps ++ without_tally hs (drop i ps)) (drop_all i gone (end more))
      ∙ take-append-drop i ps) ∙ is
  | inr none ↦ sym (ap (λ qs. take i ps ++ without_tally (drop i gone) qs) (drop_all i ps none)
      ∙ (ap (λ qs. take i ps ++ qs) (none-left (drop i gone))
      ∙ (append-nil (take i ps) ∙ take_all i ps none))) ∙ is
]

-- the marks stay
pub taken_marked : (all ps : Points) (gone : Counts) (n : ℕ) (marks : MarksState)
    → ps ≡ without_tally gone all → n ≡ length all → IsMarked all marks
    → IsMarked (take n (ps ++ drop (length ps) all)) marks
taken_marked all ps gone n marks is long marked =
    let same : Same ps all = ap (map core) is ∙ same_taken gone all in
    subst (λ qs. IsMarked qs marks) (sym (written_back n all ps long same))
    (marked_same all ps marks (sym same) marked)

-- ---- the law

neither : (x y : Bool) → (x || y) ≡ false → x ≡ false
neither false y is = refl
neither true y is = absurd cc

nor : (x y : Bool) → (x || y) ≡ false → y ≡ false
nor false y is = is
nor true y is = absurd cc

less-none : (hits : Option Hits) → less hits (none_yet hits) ≡ hits
less-none None = refl
less-none (Some h) =
    let same : h.count - 0 ≡ h.count = omega arith in
    ap (λ n. Some (record h { count = n })) same

pub none_taken : (ps : Points) → without_tally (hits_in (without_hits ps)) ps ≡ ps
none_taken [] = refl
none_taken (p ∷ ps) =
    let one : with_less (none_yet p.hits) p ≡ p = ap (λ h. record p { hits = h }) (less-none p.hits) in
    ap (λ q. q ∷ without_tally (hits_in (without_hits ps)) ps) one
    ∙ ap (λ qs. p ∷ qs) (none_taken ps)

-- one hit more of both
less-more : (hits taken : Option Hits) → none_yet taken ≡ none_yet hits → is_full (once_more hits) ≡ false
    → less (once_more hits) (once_more taken) ≡ less hits taken
less-more None taken same room = refl
less-more (Some h) None same room = absurd cc
less-more (Some h) (Some g) same room =
    let few : min 18446744073709551615 (h.count + 1) < 18446744073709551615 = grind (arith, nat_tests) in
    let rest : min 18446744073709551615 (h.count + 1) - min 18446744073709551615 (g.count + 1)
    ≡ h.count - g.count = omega (arith, few) in
    ap (λ n. Some (record h { count = n })) rest

less-if : (is_one : Bool) (p g : ConditionalBreakpoint) → none_yet g.hits ≡ none_yet p.hits
    → is_full (counted_if is_one p).hits ≡ false
    → with_less (counted_if is_one g).hits (counted_if is_one p) ≡ with_less g.hits p
less-if true p g same room = ap (λ h. record p { hits = h }) (less-more p.hits g.hits same room)
less-if false p g same room = refl

full-more : (hits : Option Hits) → is_full (once_more hits) ≡ false → is_full hits ≡ false
full-more None room = refl
full-more (Some h) room =
    let few : min 18446744073709551615 (h.count + 1) < 18446744073709551615 = grind (arith, nat_tests) in
    let before : h.count < 18446744073709551615 = omega (arith, few) in
    grind (arith, nat_tests)

full-if : (is_one : Bool) (p : ConditionalBreakpoint) → is_full (counted_if is_one p).hits ≡ false
    → is_full p.hits ≡ false
full-if true p room = full-more p.hits room
full-if false p room = room

both-false : (x y : Bool) → x ≡ false → y ≡ false → (x || y) ≡ false
both-false x y first second = rw (first, second) refl

room-before : (all : Points) (was b : Board) (ps : Points) → is_any_full (map (counted all was b) ps) ≡ false
    → is_any_full ps ≡ false
room-before all was b [] room = refl
room-before all was b (p ∷ ps) room =
    both-false (is_full p.hits) (is_any_full ps)
    (full-if (is_hit all p.id was b) p (neither _ _ room)) (room-before all was b ps (nor _ _ room))

pub full_before : (ps : Points) (was b : Board) → is_any_full (after_hits ps was b) ≡ false
    → is_any_full ps ≡ false
full_before ps was b room = room-before ps was b ps room

taken-each : (all others : Points) (was b : Board) (ps gs : Points) → Same others all
    → without_hits gs ≡ without_hits ps → is_any_full (map (counted all was b) ps) ≡ false
    → without_tally (hits_in (map (counted others was b) gs)) (map (counted all was b) ps)
    ≡ without_tally (hits_in gs) ps
taken-each all others was b [] [] same alike room = refl
taken-each all others was b [] (g ∷ gs) same alike room = absurd cc
taken-each all others was b (p ∷ ps) [] same alike room = absurd cc
taken-each all others was b (p ∷ ps) (g ∷ gs) same alike room =
    let one : without_count g ≡ without_count p = cc in
    let rest : without_hits gs ≡ without_hits ps = cc in
    let is_one = is_hit all p.id was b in
    let hit : is_hit others g.id was b ≡ is_one =
    hit-same others all g.id was b same
    ∙ ap (λ (q : ConditionalBreakpoint). is_hit all q.id was b) one in
    let first : with_less (counted others was b g).hits (counted all was b p) ≡ with_less g.hits p =
    ap (λ so. with_less (counted_if so g).hits (counted all was b p)) hit
    ∙ less-if is_one p g (ap (λ (q : ConditionalBreakpoint). q.hits) one) (neither _ _ room) in
    ap (λ q. q ∷ without_tally (hits_in (map (counted others was b) gs)) (map (counted all was b) ps)) first
    ∙ ap (λ qs. with_less g.hits p ∷ qs) (taken-each all others was b ps gs same rest (nor _ _ room))

-- a hit of both lists is taken away
pub taken_step : (ps gs : Points) (was b : Board) → without_hits gs ≡ without_hits ps
    → is_any_full (after_hits ps was b) ≡ false
    → without_tally (hits_in (after_hits gs was b)) (after_hits ps was b) ≡ without_tally (hits_in gs) ps
taken_step ps gs was b alike room = taken-each ps gs was b ps gs (same_others ps gs alike) alike room

-- a step changes only counts
pub without_step : (ps : Points) (was b : Board) → without_hits (after_hits ps was b) ≡ without_hits ps
without_step ps was b = without-counted ps was b ps

without-each : (ps : Points) (k : ℕ) (b : Board) → without_hits (after_each_step ps k b) ≡ without_hits ps
without-each ps zero b = refl
without-each ps (suc k) b =
    without_step (after_each_step ps k b) (after_steps k b) (after_steps (suc k) b) ∙ without-each ps k b

pub hits_taken : (points : Points) (k : ℕ) (b : Board) → is_any_full (after_each_step points k b) ≡ false
    → without_tally (hits_in (after_each_step (without_hits points) k b)) (after_each_step points k b)
    ≡ points
hits_taken points zero b room = none_taken points
hits_taken points (suc k) b room =
    let ps = after_each_step points k b in
    let gs = after_each_step (without_hits points) k b in
    let was = after_steps k b in
    let now = after_steps (suc k) b in
    let alike = without-each (without_hits points) k b
    ∙ (without_twice points ∙ sym (without-each points k b)) in
    taken_step ps gs was now alike room ∙ hits_taken points k b (full_before ps was now room)
