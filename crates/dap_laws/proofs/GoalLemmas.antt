-- Where a search leads.
use Rattle.std.proofs.Common.{◌≡◌, ◌∙◌, ◌<◌, ◌≤◌, ℕ, zero, suc, Bool, true, false, Some, refl, sym, ap, subst}
use Rattle.std.proofs.Common.{if◌then◌else◌, inl, inr, arith}
use Rattle.std.proofs.lemmas.Bool.{cases_lt}
use Rattle.dap_search.specs.declared.goal.Goal.{Goal}
use Rattle.dap_search.specs.Goals.{last_below, passes}
use Rattle.dap_session.specs.States.{SessionState}
use Rattle.dap_session.specs.Rewinds.{target_for}
use Rattle.dap_record.specs.Recordings.{Recording, RecordedState}
use Rattle.dap_record.specs.Backward.{found_by}
use Rattle.dap_record.specs.Slices.{found_from, finding, slice_told}
use Rattle.dap_record.proofs.RecordedLemmas.{slice_amid}
use Rattle.dap_laws.specs.Recorded.{IsLastBelow, MeetsGoal}

-- ---- the last count that passes a test

within_if : (b : Bool) (n before : ℕ) → before ≤ n → (if b then n else before) ≤ suc n
within_if true n before within = omega arith
within_if false n before within = omega (arith, within)

pub last_within : (test : ℕ → Bool) (n : ℕ) → last_below test n ≤ n
unfolding last_below
last_within test zero = omega arith
last_within test (suc n) = within_if (test n) n (last_below test n) (last_within test n)

missed_next : (test : ℕ → Bool) (n before m : ℕ) → test n ≡ false → IsLastBelow test n before → before < m
    → m < suc n → test m ≡ false
missed_next test n before m isn't last above below = elim (cases_lt m n) [
  | inl sooner ↦ last.missed m above sooner
  | inr later ↦ (
      let now : n ≡ m = omega (arith, later, below) in
      subst (λ k. test k ≡ false) now isn't
      )
]

last_next : (test : ℕ → Bool) (n before : ℕ) (b : Bool) → test n ≡ b → IsLastBelow test n before
    → IsLastBelow test (suc n) (if b then n else before)
last_next test n before true is last = record {
  found = inl (omega arith, is);
  missed = λ m above below. absurd (omega (arith, above, below));
}
last_next test n before false isn't last = record {
  found = elim last.found [
    | inl earlier ↦ inl (omega (arith, earlier.0), earlier.1)
    | inr none ↦ inr none
  ];
  missed = λ m above below. missed_next test n before m isn't last above below;
}

pub last_is : (test : ℕ → Bool) (n : ℕ) → IsLastBelow test n (last_below test n)
unfolding last_below
last_is test zero = record {
  found = inr refl;
  missed = λ m above below. absurd (omega (arith, below));
}
last_is test (suc n) =
    last_next test n (last_below test n) (test n) refl (last_is test n)

-- ---- a search

pub found_within : (goal : Goal) (r : Recording) (s : SessionState) → found_by goal r s ≤ r.count
found_within goal r s = last_within (passes (target_for goal s) r.start r.log s.board) r.count

found_meets : (goal : Goal) (r : Recording) (v : RecordedState)
    → MeetsGoal goal r v.session (found_from r goal v.session)
found_meets goal r v = record {
  count = found_by goal r v.session;
  last = last_is (passes (target_for goal v.session) r.start r.log v.session.board) r.count;
  messages = refl;
  state = refl;
}

pub search_met : (goal : Goal) (r : Recording) (v : RecordedState) → v.search ≡ Some goal
    → v.recording ≡ Some r → MeetsGoal goal r v.session (slice_told true v)
search_met goal r v on is =
    subst (λ t. MeetsGoal goal r v.session t)
    (sym (slice_amid true v goal on ∙ ap (λ o. finding o goal v) is)) (found_meets goal r v)
