-- Marks: the recorded values of watched places, and the first mark of a slice.
use Rattle.std.proofs.Common.{◌≡◌, ◌≤◌, ◌<◌, ℕ, zero, suc, ◌+◌, ◌-◌, List, [], ◌∷◌, ◌++◌, Bool, true, false}
use Rattle.std.proofs.Common.{if◌then◌else◌, map, take, drop, length, get_or, set}
use Rattle.std.proofs.Common.{refl, sym, ap, ◌∙◌, subst, arith, inl, inr}
use Rattle.std.proofs.lemmas.Bool.{cases_lt}
use Rattle.std.proofs.lemmas.Bool.Decides.{nat_tests}
use Rattle.std.proofs.lemmas.List.{length-append, length-map, take-append-drop, get_or_default}
use Rattle.std.proofs.lemmas.List.Edits.{map_over_more}
use Rattle.std.specs.List.{list_any}
use Rattle.i80_exec.specs.State.{MachineState}
use Rattle.lab_shown.specs.declared.place.Place.{Place}
use Rattle.lab_shown.specs.declared.place.Place.TheVariants as place
use Rattle.lab_core.specs.declared.marks.Watch.{Watch}
use Rattle.lab_core.specs.Board.{Board}
use Rattle.lab_core.specs.Slices.{after_steps}
use Rattle.lab_core.specs.Marks.{MarksState, register_at, value_at, is_changed, marked_at, first_after}
use Rattle.lab_core.specs.Marks.{first_mark, IsFirstMark}
use Rattle.lab_core.specs.Marks.{watch_of, marks_after, differs, IsKept, is_at, with_values, with_after}
use Rattle.lab_core.specs.Marks.{with_end, Passes, last_site}
use Rattle.lab_core.proofs.BurstLemmas.{after_more}

-- ---- recorded values

pub register-value : (p : Place) (m : MachineState) → ((address : ℕ) → p ≡ place.Memory address → ⊥)
    → register_at p m.regs ≡ value_at p m
register-value place.A m other = refl
register-value place.B m other = refl
register-value place.C m other = refl
register-value place.D m other = refl
register-value place.E m other = refl
register-value place.H m other = refl
register-value place.L m other = refl
register-value place.Sp m other = refl
register-value place.Pc m other = refl
register-value (place.Memory address) m other = absurd (other address refl)

long : (f : Watch → Watch) (all ws : List Watch) (i : ℕ) → ws ≡ map f (take i all) ++ drop i all
    → length ws ≡ length all
long f all ws i e =
    ap length e ∙ length-append _ (drop i all)
    ∙ ap (λ (n : ℕ). n + length (drop i all)) (length-map (take i all) f)
    ∙ sym (length-append (take i all) (drop i all)) ∙ ap length (take-append-drop i all)

-- one more place
pub seen_more : (m : MachineState) (all ws : List Watch) (i v : ℕ) (w : Watch) → i < length all
    → ws ≡ map (watch_of m m) (take i all) ++ drop i all → v ≡ value_at (get_or ws i w).place m
    → set ws i (record { place = (get_or ws i w).place; before = v; after = v })
    ≡ map (watch_of m m) (take (i + 1) all) ++ drop (i + 1) all
seen_more m all ws i v w inside e value =
    let same = long (watch_of m m) all ws i e in
    let here : i < length ws = omega arith in
    rw value (map_over_more (watch_of m m) all ws i (get_or ws i w) inside e (get_or_default ws i w _ here))

pub with_after_more : (m : MachineState) (all ws : List Watch) (i v : ℕ) (w : Watch) → i < length all
    → ws ≡ map (with_after m) (take i all) ++ drop i all → v ≡ value_at (get_or ws i w).place m
    → set ws i (record (get_or ws i w) { after = v })
    ≡ map (with_after m) (take (i + 1) all) ++ drop (i + 1) all
with_after_more m all ws i v w inside e value =
    let same = long (with_after m) all ws i e in
    let here : i < length ws = omega arith in
    rw value (map_over_more (with_after m) all ws i (get_or ws i w) inside e (get_or_default ws i w _ here))

-- values recorded from a machine don't differ from it
pub kept-watch : (m : MachineState) (ws : List Watch) → list_any (differs m) (map (watch_of m m) ws) ≡ false
kept-watch m [] = refl
kept-watch m (w ∷ ws) = grind (arith, nat_tests, kept-watch m ws)

-- places differ from their recorded values if they have changed since
pub differs-changed : (m m' : MachineState) (ws : List Watch) → list_any (differs m) ws ≡ false
    → list_any (differs m') ws ≡ list_any (is_changed m m') ws
differs-changed m m' [] same = refl
differs-changed m m' (w ∷ ws) same = grind (arith, nat_tests, differs-changed m m' ws)

after-watch : (m m' : MachineState) (ws : List Watch) → list_any (differs m) ws ≡ false
    → map (with_after m') ws ≡ map (watch_of m m') ws
after-watch m m' [] same = refl
after-watch m m' (w ∷ ws) same = grind (arith, nat_tests, after-watch m m' ws)

-- only places matter
changed-watch : (n m m' : MachineState) (ws : List Watch)
    → list_any (is_changed m m') (map (watch_of n n) ws) ≡ list_any (is_changed m m') ws
changed-watch n m m' [] = refl
changed-watch n m m' (w ∷ ws) = rw (changed-watch n m m' ws) refl

watch-watch : (n m m' : MachineState) (ws : List Watch)
    → map (watch_of m m') (map (watch_of n n) ws) ≡ map (watch_of m m') ws
watch-watch n m m' [] = refl
watch-watch n m m' (w ∷ ws) = ap (λ r. watch_of m m' w ∷ r) (watch-watch n m m' ws)

-- ---- the first count that passes

-- counts that fail the test can be skipped
first-pass : (test : ℕ → Bool) (made more k : ℕ) → made ≤ more
    → ((i : ℕ) → k < i → i ≤ k + made → test i ≡ false)
    → first_after test (more - made) (k + made) ≡ first_after test more k
unfolding first_after
first-pass test zero more k few none =
    let a : more - 0 ≡ more = omega arith in
    let b : k + 0 ≡ k = omega arith in
    rw (a, b) refl
first-pass test (suc made) (suc more) k few none =
    let a : suc more - suc made ≡ more - made = omega arith in
    let b : k + suc made ≡ k + 1 + made = omega arith in
    let first : test (k + 1) ≡ false = none (k + 1) (omega arith) (omega arith) in
    rw (a, b, first) (first-pass test made more (k + 1) (omega arith)
    (λ i above below. none i (omega arith) (omega arith)))
first-pass test (suc made) zero k few none = absurd (omega arith)

first-found : (test : ℕ → Bool) (more k : ℕ) → 1 ≤ more → test (k + 1) ≡ true
    → first_after test more k ≡ k + 1
unfolding first_after
first-found test zero k some is = absurd (omega arith)
first-found test (suc more) k some is = rw is refl

least : (test : ℕ → Bool) (more k : ℕ) → k ≤ first_after test more k
unfolding first_after
least test zero k = omega arith
least test (suc more) k = by (test (k + 1)) (least test more (k + 1))
  where
    by : (found : Bool) → k + 1 ≤ first_after test more (k + 1)
        → k ≤ (if found then k + 1 else first_after test more (k + 1))
    by true later = omega arith
    by false later = omega (arith, later)

-- and then the first that passes is later
pub first-later : (test : ℕ → Bool) (more k : ℕ) → 1 ≤ more → k < first_after test more k
unfolding first_after
first-later test zero k some = absurd (omega arith)
first-later test (suc more) k some = by (test (k + 1)) (least test more (k + 1))
  where
    by : (found : Bool) → k + 1 ≤ first_after test more (k + 1)
        → k < (if found then k + 1 else first_after test more (k + 1))
    by true later = omega arith
    by false later = omega (arith, later)

pub first-none : (test : ℕ → Bool) (k : ℕ) → first_after test 0 k ≡ k
unfolding first_after
first-none test k = refl

first-same : (f g : ℕ → Bool) → ((i : ℕ) → f i ≡ g i) → (more k : ℕ)
    → first_after f more k ≡ first_after g more k
unfolding first_after
first-same f g same zero k = refl
first-same f g same (suc more) k = rw (same (k + 1), first-same f g same more (k + 1)) refl

-- ---- it is the least count that passes

pub first-within : (test : ℕ → Bool) (more k : ℕ) → first_after test more k ≤ k + more
unfolding first_after
first-within test zero k = omega arith
first-within test (suc more) k = by (test (k + 1)) (first-within test more (k + 1))
  where
    by : (found : Bool) → first_after test more (k + 1) ≤ k + 1 + more
        → (if found then k + 1 else first_after test more (k + 1)) ≤ k + suc more
    by true later = omega arith
    by false later = omega (arith, later)

pub first-before : (test : ℕ → Bool) (more k j : ℕ) → k < j → j < first_after test more k → test j ≡ false
unfolding first_after
first-before test zero k j above below = absurd (omega (arith, below))
first-before test (suc more) k j above below =
    by (test (k + 1)) refl below (λ later less. first-before test more (k + 1) j later less)
  where
    by : (found : Bool) → test (k + 1) ≡ found
        → j < (if found then k + 1 else first_after test more (k + 1))
        → (k + 1 < j → j < first_after test more (k + 1) → test j ≡ false) → test j ≡ false
    by true is less rest = absurd (omega (arith, less))
    by false is less rest = elim (cases_lt (k + 1) j) [
      | inl later ↦ rest later less
      | inr here ↦ (let same : k + 1 ≡ j = omega arith in subst (λ i. test i ≡ false) same is)
    ]

pub first-there : (test : ℕ → Bool) (more k : ℕ) → first_after test more k < k + more
    → test (first_after test more k) ≡ true
unfolding first_after
first-there test zero k below = absurd (omega (arith, below))
first-there test (suc more) k below =
    by (test (k + 1)) refl below (λ less. first-there test more (k + 1) less)
  where
    by : (found : Bool) → test (k + 1) ≡ found
        → (if found then k + 1 else first_after test more (k + 1)) < k + suc more
        → (first_after test more (k + 1) < k + 1 + more → test (first_after test more (k + 1)) ≡ true)
        → test (if found then k + 1 else first_after test more (k + 1)) ≡ true
    by true is less rest = is
    by false is less rest = rest (omega (arith, less))

pub first_mark_within : (marks : MarksState) (n : ℕ) (b : Board) → first_mark marks n b ≤ n
first_mark_within marks n b = let within = first-within (marked_at marks b) n 0 in omega arith

pub least_mark : (marks : MarksState) (n : ℕ) (b : Board) → 1 ≤ n
    → IsFirstMark marks n b (first_mark marks n b)
least_mark marks n b some =
    let test : ℕ → Bool = marked_at marks b in
    let within = first-within test n 0 in
    let later = first-later test n 0 some in
    record {
      some = omega (arith, later);
      within = omega (arith, within);
      none_before = λ j one below. first-before test n 0 j (omega arith) below;
      there = λ below. first-there test n 0 (omega arith);
    }

-- ---- steps that reach no mark, and the first that does

-- the last of j steps after k
marked-more : (marks : MarksState) (b : Board) (j k : ℕ) → 1 ≤ j
    → marked_at marks b (j + k) ≡ marked_at marks (after_steps k b) j
marked-more marks b j k some =
    let one_less : j + k - 1 ≡ j - 1 + k = omega arith in
    rw (one_less, after_more (j - 1) k b, after_more j k b) refl

-- only the last one may reach a mark
none_on : (marks : MarksState) (b : Board) (k made i : ℕ) → Passes marks made (after_steps k b) → k < i
    → i < k + made → marked_at marks b i ≡ false
none_on marks b k made i p above below =
    let at : i - k + k ≡ i = omega arith in
    let some : 1 ≤ i - k = omega arith in
    let J : ℕ → Type 0 = λ n. marked_at marks b n ≡ false in
    subst J at (marked-more marks b (i - k) k some ∙ p.none (i - k) some (omega arith))

none_upto : (marks : MarksState) (b : Board) (k made i : ℕ) → Passes marks made (after_steps k b)
    → marked_at marks b (k + made) ≡ false → k < i → i ≤ k + made → marked_at marks b i ≡ false
none_upto marks b k made i p last above upto = elim (cases_lt i (k + made)) [
  | inl less ↦ none_on marks b k made i p above less
  | inr more ↦ (let same : k + made ≡ i = omega arith in
      subst (λ j. marked_at marks b j ≡ false) same last)
]

pub passed_on : (marks : MarksState) (b : Board) (k made n : ℕ) → k + made ≤ n
    → Passes marks made (after_steps k b) → marked_at marks b (k + made) ≡ false
    → first_after (marked_at marks b) (n - (k + made)) (k + made) ≡ first_after (marked_at marks b) (n - k) k
passed_on marks b k made n within p last =
    let rest : n - (k + made) ≡ n - k - made = omega arith in
    rw rest (first-pass (marked_at marks b) made (n - k) k (omega arith)
    (λ i above upto. none_upto marks b k made i p last above upto))

pub found_on : (marks : MarksState) (b : Board) (k made n : ℕ) → 1 ≤ made → k + made ≤ n
    → Passes marks made (after_steps k b) → marked_at marks b (k + made) ≡ true
    → first_after (marked_at marks b) (n - k) k ≡ k + made
found_on marks b k made n some within p last =
    let up : k + (made - 1) + 1 ≡ k + made = omega arith in
    let there = first-found (marked_at marks b) (n - k - (made - 1)) (k + (made - 1)) (omega arith)
    (subst (λ j. marked_at marks b j ≡ true) (sym up) last) in
    sym (first-pass (marked_at marks b) (made - 1) (n - k) k (omega arith)
    (λ i above upto. none_on marks b k made i p above (omega arith)))
    ∙ there ∙ up

-- the machine is at a mark exactly if the last step reached one
at-mark : (marks : MarksState) (b : Board) (made : ℕ) (m : MachineState) → m ≡ (after_steps made b).machine
    → Passes marks made b → is_at m marks ≡ marked_at marks b made
at-mark marks b made m is p =
    rw (← is, differs-changed (after_steps (made - 1) b).machine m marks.watches p.kept) refl

pub at-marked : (marks : MarksState) (b : Board) (k made : ℕ) (m : MachineState) → 1 ≤ made
    → m ≡ (after_steps (k + made) b).machine → Passes marks made (after_steps k b)
    → is_at m marks ≡ marked_at marks b (k + made)
at-marked marks b k made m some is p =
    let swap : k + made ≡ made + k = omega arith in
    let M : ℕ → Type 0 = λ n. m ≡ (after_steps n b).machine in
    let after : m ≡ (after_steps made (after_steps k b)).machine =
    subst M swap is ∙ ap (λ (c : Board). c.machine) (after_more made k b) in
    at-mark marks (after_steps k b) made m after p ∙ sym (marked-more marks b made k some)
    ∙ ap (λ n. marked_at marks b n) (sym swap)

pub kept_on : (marks : MarksState) (b : Board) (k made : ℕ) → 1 ≤ made → Passes marks made (after_steps k b)
    → IsKept (after_steps (k + made - 1) b).machine marks
kept_on marks b k made some p =
    let one_less : k + made - 1 ≡ made - 1 + k = omega arith in
    rw (one_less, after_more (made - 1) k b) p.kept

-- one step, or none
pub passes_few : (marks : MarksState) (made : ℕ) (b : Board) (m : MachineState) → made ≤ 1 → m ≡ b.machine
    → IsKept m marks → Passes marks made b
passes_few marks made b m few is kept =
    let none : made - 1 ≡ 0 = omega arith in
    record {
      none = λ j some below. absurd (omega arith);
      kept = rw (none, ← is) kept;
    }

-- before the first step
pub passes_first : (marks : MarksState) (b : Board) (m : MachineState) → m ≡ b.machine → IsKept m marks
    → Passes marks 1 b
passes_first marks b m is kept = passes_few marks 1 b m (omega arith) is kept

pub not_at : (m : MachineState) (marks : MarksState) → is_at m marks ≡ false → IsKept m marks
not_at m marks none = grind (arith, none)

-- one more step, if the last one reached no mark
pub passes_more : (marks : MarksState) (b : Board) (made : ℕ) (m : MachineState)
    → m ≡ (after_steps made b).machine → is_at m marks ≡ false → Passes marks made b
    → Passes marks (made + 1) b
passes_more marks b made m is free p =
    let less : made + 1 - 1 ≡ made = omega arith in
    record {
      none = λ j some below. (elim (cases_lt j made) [
        | inl earlier ↦ p.none j some earlier
        | inr late ↦ (let last : made ≡ j = omega arith in
            subst (λ i. marked_at marks b i ≡ false) last (sym (at-mark marks b made m is p) ∙ free))
      ]);
      kept = rw (less, ← is) (not_at m marks free);
    }

-- recorded values stay right if the machine doesn't change
kept_before : (m m' : MachineState) (ws : List Watch) → list_any (is_changed m m') ws ≡ false
    → list_any (differs m') ws ≡ false → list_any (differs m) ws ≡ false
kept_before m m' [] same kept = refl
kept_before m m' (w ∷ ws) same kept = grind (arith, nat_tests, kept_before m m' ws)

-- one step fewer
pub passes_less : (marks : MarksState) (b : Board) (made : ℕ) → Passes marks (made + 1) b
    → Passes marks made b
passes_less marks b zero p = record { none = λ j some below. absurd (omega arith); kept = p.kept }
passes_less marks b (suc k) p =
    let none = p.none (suc k) (omega arith) (omega arith) in
    let less : suc k + 1 - 1 ≡ suc k = omega arith in
    let before : suc k - 1 ≡ k = omega arith in
    let K : ℕ → Type 0 = λ n. IsKept (after_steps n b).machine marks in
    let was = (after_steps k b).machine in
    let now = (after_steps (suc k) b).machine in
    let unchanged : list_any (is_changed was now) marks.watches ≡ false = grind (arith, none) in
    record {
      none = λ j some below. p.none j some (omega arith);
      kept = rw before (kept_before was now marks.watches unchanged (subst K less p.kept));
    }

-- no step reaches a mark
pub passed_all : (marks : MarksState) (b : Board) (k made n : ℕ) → k + made ≤ n
    → Passes marks (made + 1) (after_steps k b)
    → first_after (marked_at marks b) (n - (k + made)) (k + made) ≡ first_after (marked_at marks b) (n - k) k
passed_all marks b k made n within p =
    let rest : n - (k + made) ≡ n - k - made = omega arith in
    rw rest (first-pass (marked_at marks b) made (n - k) k (omega arith)
    (λ i above upto. none_on marks b k (made + 1) i p above (omega arith)))

pub kept_after : (marks : MarksState) (b : Board) (k made : ℕ) → IsKept (after_steps (k - 1) b).machine marks
    → Passes marks made (after_steps k b) → IsKept (after_steps (k + made - 1) b).machine marks
kept_after marks b k zero kept p = let none : k + 0 - 1 ≡ k - 1 = omega arith in rw none kept
kept_after marks b k (suc made) kept p = kept_on marks b k (suc made) (omega arith) p

-- ---- where PC was before the last step

-- that of one more step
pub site_more : (b : Board) (made site pc : ℕ) (m : MachineState) → m ≡ (after_steps made b).machine
    → pc ≡ m.regs.pc → pc ≡ last_site (made + 1) site b
site_more b made site pc m is at =
    let one : made + 1 ≡ suc made = omega arith in
    rw one (at ∙ ap (λ (m : MachineState). m.regs.pc) is)

-- that of further steps after the first k
pub site_on : (b : Board) (k made site : ℕ)
    → last_site made (last_site k site b) (after_steps k b) ≡ last_site (k + made) site b
site_on b k zero site = let none : k + 0 ≡ k = omega arith in rw none refl
site_on b k (suc made) site =
    let more : k + suc made ≡ suc (made + k) = omega arith in
    rw more (ap (λ (board : Board). board.machine.regs.pc) (sym (after_more made k b)))

-- that of a whole slice
pub site_of : (b : Board) (k site pc : ℕ) (m : MachineState) → m ≡ b.machine → site ≡ m.regs.pc
    → pc ≡ last_site k site b → pc ≡ (after_steps (k - 1) b).machine.regs.pc
site_of b zero site pc m is at e =
    let none : 0 - 1 ≡ 0 = omega arith in
    rw none (e ∙ at ∙ ap (λ (m : MachineState). m.regs.pc) is)
site_of b (suc k) site pc m is at e = let less : suc k - 1 ≡ k = omega arith in rw less e

-- ---- a whole slice

pub first-values : (m : MachineState) (marks : MarksState) (n : ℕ) (b : Board)
    → first_mark (with_values m marks) n b ≡ first_mark marks n b
first-values m marks n b =
    first-same (marked_at (with_values m marks) b) (marked_at marks b)
    (λ i.
    rw (changed-watch m (after_steps (i - 1) b).machine (after_steps i b).machine marks.watches) refl)
    n 0

pub end-values : (m m' : MachineState) (marks : MarksState) (k site : ℕ) (b : Board)
    → m' ≡ (after_steps k b).machine → IsKept (after_steps (k - 1) b).machine (with_values m marks)
    → site ≡ (after_steps (k - 1) b).machine.regs.pc
    → with_end k site m' (with_values m marks) ≡ marks_after k b marks
end-values m m' marks k site b is kept at =
    let was = (after_steps (k - 1) b).machine in
    let ws = map (watch_of m m) marks.watches in
    rw (
      differs-changed was m' ws kept,
      changed-watch m was m' marks.watches,
      after-watch was m' ws kept,
      watch-watch m was m' marks.watches,
      is,
      at,
    )
    refl
