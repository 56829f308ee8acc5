-- What the steps of a slice tell.
use Rattle.std.proofs.Common.{◌≡◌, ◌∙◌, ◌≤◌, ◌<◌, ◌-◌, ◌++◌, ◌∷◌, [], ℕ, zero, suc, List, Bool, true, false}
use Rattle.std.proofs.Common.{◌&&◌, ◌||◌, None, if◌then◌else◌, nat_lt, refl, sym, ap}
use Rattle.std.proofs.Common.{arith}
use Rattle.std.proofs.lemmas.Bool.Decides.{nat_tests}
use Rattle.std.specs.List.{cons_option}
use Rattle.std.specs.Option.{option_map}
use Rattle.lab_core.specs.Board.{Board}
use Rattle.lab_core.specs.Slices.{after_steps}
use Rattle.dap_slice.specs.declared.conditions.ConditionalBreakpoint.{ConditionalBreakpoint}
use Rattle.dap_slice.specs.declared.logs.LogLine.{LogLine}
use Rattle.dap_slice.specs.Conditions.{is_there, is_any_at}
use Rattle.dap_slice.specs.Hits.{is_wanted}
use Rattle.dap_slice.specs.Changes.{is_any_changed}
use Rattle.dap_slice.specs.Logs.{line_on, logs_on, logs_before, logs_of_steps}
use Rattle.dap_slice.specs.SliceEnds.{is_at_after, slice_end_within}
use Rattle.dap_slice.specs.Counts.{after_hits, points_after, after_each_step}
use Rattle.dap_slice.proofs.CountLemmas.{not_counted}
use Rattle.dap_slice.proofs.SliceLemmas.{none_passed}

-- where no breakpoint is nothing is told
none-there : (points : List ConditionalBreakpoint) (b : Board)
    → is_any_at points b.machine.regs.pc ≡ false → logs_on points b ≡ []
none-there [] b none = refl
none-there (p ∷ ps) b none = by (is_there b.machine.regs.pc p) refl none (none-there ps b)
  where
    nothing : (wanted : Bool) → logs_on ps b ≡ []
        → cons_option (if wanted && false then option_map (line_on b) p.log else None) (logs_on ps b) ≡ []
    nothing true rest = rest
    nothing false rest = rest

    by : (here : Bool) → is_there b.machine.regs.pc p ≡ here
        → (here || is_any_at ps b.machine.regs.pc) ≡ false
        → (is_any_at ps b.machine.regs.pc ≡ false → logs_on ps b ≡ []) → logs_on (p ∷ ps) b ≡ []
    by true is none rest = absurd cc
    by false is none rest = rw is (nothing (is_wanted p.hits) (rest none))

append-nil : (xs : List LogLine) → xs ++ [] ≡ xs
append-nil [] = refl
append-nil (x ∷ xs) = ap (λ rest. x ∷ rest) (append-nil xs)

positive : (k : ℕ) → nat_lt 0 (suc k) ≡ true
positive k = grind (arith, nat_tests)

neither : (x y : Bool) → (x || y) ≡ false → x ≡ false
neither false y is = refl
neither true y is = absurd cc

nor : (x y : Bool) → (x || y) ≡ false → y ≡ false
nor false y is = is
nor true y is = absurd cc

-- steps of which only the first may be at a breakpoint
first-alone : (points : List ConditionalBreakpoint) (b : Board) (k : ℕ)
    → ((j : ℕ) → 1 ≤ j → j < suc k → is_at_after points b j ≡ false)
    → logs_on points b ≡ logs_of_steps points (suc k) b
first-alone points b zero none = refl
first-alone points b (suc k) none =
    let before = first-alone points b k (λ j some below. none j some (omega (arith, below))) in
    let quiet =
    none-there points (after_steps (suc k) b) (neither _ _ (none (suc k) (omega arith) (omega arith))) in
    before
    ∙ (sym (append-nil (logs_of_steps points (suc k) b))
    ∙ ap (λ xs. logs_of_steps points (suc k) b ++ xs) (sym quiet))

told_by-steps : (points : List ConditionalBreakpoint) (b : Board) (k : ℕ)
    → ((j : ℕ) → 1 ≤ j → j < k → is_at_after points b j ≡ false)
    → logs_before points k b ≡ logs_of_steps points k b
told_by-steps points b zero none = refl
told_by-steps points b (suc k) none =
    ap (λ some. if some then logs_on points b else []) (positive k) ∙ first-alone points b k none

pub each_told : (points : List ConditionalBreakpoint) (n : ℕ) (b : Board)
    → logs_before points (slice_end_within points n b).0 b
    ≡ logs_of_steps points (slice_end_within points n b).0 b
each_told points n b =
    told_by-steps points b (slice_end_within points n b).0 (none_passed points n b)

-- ---- what they count

step-before : (k : ℕ) → suc k - 1 ≡ k
step-before k = omega arith

at-step : (points : List ConditionalBreakpoint) (b : Board) (k : ℕ)
    → is_at_after points b (suc k) ≡ (is_any_at points (after_steps (suc k) b).machine.regs.pc
    || is_any_changed points (after_steps k b) (after_steps (suc k) b))
at-step points b k =
    ap (λ j. is_any_at points (after_steps (suc k) b).machine.regs.pc
    || is_any_changed points (after_steps j b) (after_steps (suc k) b)) (step-before k)

none-counted : (points : List ConditionalBreakpoint) (b : Board) (k : ℕ)
    → ((j : ℕ) → 1 ≤ j → j < suc k → is_at_after points b j ≡ false) → after_each_step points k b ≡ points
none-counted points b zero none = refl
none-counted points b (suc k) none =
    let before = none-counted points b k (λ j some below. none j some (omega (arith, below))) in
    let quiet = sym (at-step points b k) ∙ none (suc k) (omega arith) (omega arith) in
    let was = after_steps k b in
    let now = after_steps (suc k) b in
    let at = is_any_at points now.machine.regs.pc in
    let changed = is_any_changed points was now in
    ap (λ ps. after_hits ps was now) before
    ∙ not_counted was now points points (neither at changed quiet) (nor at changed quiet)

pub counted_by-steps : (points : List ConditionalBreakpoint) (b : Board) (k : ℕ)
    → ((j : ℕ) → 1 ≤ j → j < k → is_at_after points b j ≡ false)
    → points_after points k b ≡ after_each_step points k b
counted_by-steps points b zero none = refl
counted_by-steps points b (suc k) none =
    let now = after_steps (suc k) b in
    ap (λ some. if some then after_hits points (after_steps (suc k - 1) b) now else points) (positive k)
    ∙ (ap (λ j. after_hits points (after_steps j b) now) (step-before k)
    ∙ ap (λ ps. after_hits ps (after_steps k b) now) (sym (none-counted points b k none)))

pub each_counted : (points : List ConditionalBreakpoint) (n : ℕ) (b : Board)
    → points_after points (slice_end_within points n b).0 b
    ≡ after_each_step points (slice_end_within points n b).0 b
each_counted points n b =
    counted_by-steps points b (slice_end_within points n b).0 (none_passed points n b)
