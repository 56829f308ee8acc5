-- Recorded runs: their boards after more steps, and the inputs that come there.
use Rattle.std.proofs.Common.{◌≡◌, ◌∙◌, ◌≤◌, ◌-◌, ℕ, List, [], ◌∷◌, true, false}
use Rattle.std.proofs.Common.{nat_le, None, refl, sym, ap, arith, inl, inr}
use Rattle.std.proofs.lemmas.Bool.{cases_lt}
use Rattle.std.proofs.lemmas.Bool.Decides.{nat_tests}
use Rattle.lab_core.specs.declared.run_state.RunState.TheVariants.{Running}
use Rattle.lab_core.specs.Board.{Board}
use Rattle.lab_core.specs.Slices.{after_steps}
use Rattle.dap_history.specs.declared.input.Input.{Input}
use Rattle.dap_history.specs.declared.input.Recorded.{Recorded}
use Rattle.dap_history.specs.Logs.{Ascends, up_to, later_than}
use Rattle.dap_history.specs.Runs.{after_input, at_from, board_at, detached_run}
use Rattle.dap_history.proofs.LogLemmas.{none_up_to}
use Rattle.dap_history.proofs.RunLemmas.{steps_as, input_as, goes_on}
use Rattle.dap_session.specs.Laws.{SameParts}
use Rattle.dap_record.specs.Recordings.{after_inputs}

-- ---- steps and inputs depend on the run alone

same_run : (b b' now : Board) → SameParts b b' → detached_run None b now ≡ detached_run None b' now
same_run b b' now same = λ i. record now {
  machine = sym same.machine i;
  past = sym same.past i;
  trace = sym same.trace i;
  is_attached = false;
  run = Running;
  resumed = None;
  request = None;
}

by_run : (b b' now : Board) → detached_run None b now ≡ detached_run None b' now → SameParts b b'
by_run b b' now is = record {
  machine = sym (ap (λ x. x.machine) is);
  past = sym (ap (λ x. x.past) is);
  trace = sym (ap (λ x. x.trace) is);
}

pub same_steps : (k : ℕ) (b b' : Board) → SameParts b b' → SameParts (after_steps k b) (after_steps k b')
same_steps k b b' same = by_run (after_steps k b) (after_steps k b') b
    (sym (steps_as k None b b) ∙ (ap (after_steps k) (same_run b b' b same) ∙ steps_as k None b' b))

pub same_input : (i : Input) (b b' : Board) → SameParts b b' → SameParts (after_input i b) (after_input i b')
same_input i b b' same = by_run (after_input i b) (after_input i b') b
    (sym (input_as i None b b) ∙ (ap (after_input i) (same_run b b' b same) ∙ input_as i None b' b))

pub same_inputs : (inputs : List Recorded) (b b' : Board) → SameParts b b'
    → SameParts (after_inputs inputs b) (after_inputs inputs b')
same_inputs [] b b' same = same
same_inputs (r ∷ rs) b b' same = same_inputs rs _ _ (same_input r.input b b' same)

pub same_then : (a b c : Board) → SameParts a b → SameParts b c → SameParts a c
same_then a b c first second = record {
  machine = second.machine ∙ first.machine;
  past = second.past ∙ first.past;
  trace = second.trace ∙ first.trace;
}

-- ---- inputs that come at a count

inputs_at : (rest : List Recorded) (c n : ℕ) (b : Board) → Ascends n rest → c ≤ n
    → at_from c b rest n ≡ after_inputs (up_to n rest) (after_steps (n - c) b)
inputs_at [] c n b asc first = refl
inputs_at (r ∷ rs) c n b asc first = elim (cases_lt n r.count) [
  | inl later ↦ (
      let is : nat_le r.count n ≡ false = grind (arith, nat_tests) in
      let none = none_up_to n r.count rs asc.1 later in
      rw (is, none) refl
      )
  | inr within ↦ (
      let is : nat_le r.count n ≡ true = grind (arith, nat_tests) in
      let now : r.count ≡ n = omega (arith, within, asc.0) in
      let rest : Ascends n rs = rw (← now) asc.1 in
      let none : n - n ≡ 0 = omega arith in
      rw (is, now)
      (inputs_at rs n n (after_input r.input (after_steps (n - c) b)) rest (omega arith)
      ∙ ap (λ k. after_inputs (up_to n rs) (after_steps k (after_input r.input (after_steps (n - c) b))))
      none)
      )
]

pub run_goes_on : (start : Board) (log : List Recorded) (c n : ℕ) → Ascends 0 log → c ≤ n
    → Ascends n (later_than c log)
    → board_at start log n
    ≡ after_inputs (up_to n (later_than c log)) (after_steps (n - c) (board_at start log c))
run_goes_on start log c n asc first ahead =
    goes_on 0 c n start log asc (omega arith) first
    ∙ inputs_at (later_than c log) c n (board_at start log c) ahead first
