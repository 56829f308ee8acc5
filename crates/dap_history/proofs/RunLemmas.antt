-- Runs that are split, and runs that are made again on another board.
use Rattle.std.proofs.Common.{◌≡◌, ◌∙◌, ◌≤◌, ◌<◌, ◌-◌, ◌+◌, ℕ, zero, suc, List, [], ◌∷◌, ◌++◌, Bool}
use Rattle.std.proofs.Common.{true, false}
use Rattle.std.proofs.Common.{nat_le, nat_lt, is_some, Option, Some, None, Ok, Err, if◌then◌else◌}
use Rattle.std.proofs.Common.{length, refl, sym, ap, arith, inl, inr}
use Rattle.std.proofs.lemmas.Bool.{cases_lt}
use Rattle.std.proofs.lemmas.Bool.Decides.{nat_tests}
use Rattle.i80_devs.specs.Past.{Press, panel_after}
use Rattle.lab_core.specs.declared.answer.Answer.TheVariants.{Accepted}
use Rattle.lab_core.specs.declared.answer.SliceOutcome.{SliceOutcome}
use Rattle.lab_core.specs.declared.answer.SliceOutcome.TheVariants as outcome
use Rattle.lab_core.specs.declared.fault.EventFault.TheVariants.{Vector, Latched}
use Rattle.lab_core.specs.Board.{Board, after_next_step}
use Rattle.lab_core.specs.Slices.{after_steps, left_by}
use Rattle.lab_core.specs.Events.{EventResult, with_operation}
use Rattle.lab_core.specs.Changes.{after_registers, request_left}
use Rattle.lab_core.specs.Moments.{put_back, after_hold}
use Rattle.lab_core.proofs.BurstLemmas.{after_more}
use Rattle.dap_history.specs.declared.input.Input.{Input}
use Rattle.dap_history.specs.declared.input.Input.TheVariants as input
use Rattle.dap_history.specs.declared.input.Recorded.{Recorded}
use Rattle.dap_history.specs.Logs.{Ascends, latest_from, up_to, later_than}
use Rattle.dap_history.specs.Runs.{board_of, after_input, at_from, detached_run, after_rewind}
use Rattle.dap_history.proofs.LogLemmas.{all_later, none_up_to, latest_least}

-- ---- splitting a run

pub steps_split : (a c n : ℕ) (b : Board) → a ≤ c → c ≤ n
    → after_steps (n - a) b ≡ after_steps (n - c) (after_steps (c - a) b)
steps_split a c n b first last =
    let sum : (n - c) + (c - a) ≡ n - a = omega arith in
    ap (λ k. after_steps k b) (sym sum) ∙ after_more (n - c) (c - a) b

pub goes_on : (a c n : ℕ) (b : Board) (log : List Recorded) → Ascends a log → a ≤ c → c ≤ n
    → at_from a b log n ≡ at_from c (at_from a b log c) (later_than c log) n
goes_on a c n b [] asc first last = steps_split a c n b first last
goes_on a c n b (r ∷ rs) asc first last = elim (cases_lt c r.count) [
  | inl later ↦ (
      let beyond : nat_le r.count c ≡ false = grind (arith, nat_tests) in
      let is : nat_lt c r.count ≡ true = grind (arith, nat_tests) in
      let rest = all_later c r.count rs asc.1 later in
      let there = steps_split a c r.count b first (omega arith) in
      let end = steps_split a c n b first last in
      rw (beyond, is, rest, there, end) refl
      )
  | inr within ↦ (
      let near : nat_le r.count c ≡ true = grind (arith, nat_tests) in
      let far : nat_le r.count n ≡ true = grind (arith, nat_tests) in
      let isn't : nat_lt c r.count ≡ false = grind (arith, nat_tests) in
      rw (near, far, isn't)
      (goes_on r.count c n (after_input r.input (after_steps (r.count - a) b)) rs asc.1 within last)
      )
]

-- before the next input, a run may be split anywhere
pub goes_on_before : (a c n : ℕ) (b : Board) (log : List Recorded) → Ascends c log → a ≤ c → c ≤ n
    → at_from a b log n ≡ at_from c (after_steps (c - a) b) log n
goes_on_before a c n b [] asc first last = steps_split a c n b first last
goes_on_before a c n b (r ∷ rs) asc first last =
    let there = steps_split a c r.count b first asc.0 in
    let end = steps_split a c n b first last in
    rw (there, end) refl

pub goes_on_appended : (a c n : ℕ) (b : Board) (first rest : List Recorded) → Ascends a first
    → latest_from a first ≤ c → Ascends c rest → c ≤ n
    → at_from a b (first ++ rest) n ≡ at_from c (at_from a b first c) rest n
goes_on_appended a c n b [] rest asc within later last = goes_on_before a c n b rest later within last
goes_on_appended a c n b (r ∷ rs) rest asc within later last =
    let least = latest_least r.count rs asc.1 in
    let near : nat_le r.count c ≡ true = grind (arith, nat_tests, within, least) in
    let far : nat_le r.count n ≡ true = grind (arith, nat_tests, within, least) in
    rw (near, far)
    (goes_on_appended r.count c n (after_input r.input (after_steps (r.count - a) b)) rs rest asc.1 within
    later last)

-- inputs that come later don't matter
pub at_up_to : (c n : ℕ) (b : Board) (log : List Recorded) → Ascends c log
    → at_from c b log n ≡ at_from c b (up_to n log) n
at_up_to c n b [] asc = refl
at_up_to c n b (r ∷ rs) asc = elim (cases_lt n r.count) [
  | inl later ↦ (
      let is : nat_le r.count n ≡ false = grind (arith, nat_tests) in
      let none = none_up_to n r.count rs asc.1 later in
      rw (is, none) refl
      )
  | inr within ↦ (
      let is : nat_le r.count n ≡ true = grind (arith, nat_tests) in
      rw (is, is)
      (at_up_to r.count n (after_input r.input (after_steps (r.count - c) b)) rs asc.1)
      )
]

-- ---- the same run on another board: steps and inputs depend on the run alone

pub steps_as : (k : ℕ) (resumed : Option ℕ) (was now : Board)
    → after_steps k (detached_run resumed was now) ≡ detached_run resumed (after_steps k was) now
steps_as zero resumed was now = refl
steps_as (suc k) resumed was now = ap after_next_step (steps_as k resumed was now)

abbrev pub press_by : Bool → Bool → ℕ → Board → EventResult
press_by far latched n b =
    if far then Err Vector else
    if latched then Err Latched else
    Ok (Accepted, with_operation (Press n) b)

press_as : (far latched : Bool) (n : ℕ) (resumed : Option ℕ) (was now : Board)
    → board_of (detached_run resumed was now) (press_by far latched n (detached_run resumed was now))
    ≡ detached_run resumed (board_of was (press_by far latched n was)) now
press_as true latched n resumed was now = refl
press_as false true n resumed was now = refl
press_as false false n resumed was now = refl

-- where there is no Step, there is none after the registers are set
no_request : (rises : Bool) → request_left rises None ≡ None
no_request true = refl
no_request false = refl

pub input_as : (i : Input) (resumed : Option ℕ) (was now : Board)
    → after_input i (detached_run resumed was now) ≡ detached_run resumed (after_input i was) now
input_as (input.Typed bytes) resumed was now = refl
input_as (input.Switches byte) resumed was now = refl
input_as (input.Press n) resumed was now =
    press_as (nat_lt 7 n) (is_some (panel_after was.past).latched) n resumed was now
input_as (input.Registers registers) resumed was now =
    ap (λ request. record (detached_run resumed (after_registers registers was) now) { request = request })
    (no_request (nat_lt was.machine.regs.sp registers.sp))
input_as (input.Write address bytes) resumed was now = refl

by_test : (test : Bool) (x y x' y' : Board) → x ≡ x' → y ≡ y'
    → (if test then x else y) ≡ (if test then x' else y')
by_test true x y x' y' a b = a
by_test false x y x' y' a b = b

out_of_test : (test : Bool) (resumed : Option ℕ) (x y now : Board)
    → (if test then detached_run resumed x now else detached_run resumed y now)
    ≡ detached_run resumed (if test then x else y) now
out_of_test true resumed x y now = refl
out_of_test false resumed x y now = refl

pub at_as : (log : List Recorded) (c n : ℕ) (resumed : Option ℕ) (was now : Board)
    → at_from c (detached_run resumed was now) log n ≡ detached_run resumed (at_from c was log n) now
at_as [] c n resumed was now = steps_as (n - c) resumed was now
at_as (x ∷ xs) c n resumed was now =
    let there = after_steps (x.count - c) was in
    let reached =
    ap (after_input x.input) (steps_as (x.count - c) resumed was now) ∙ input_as x.input resumed there now in
    let on =
    ap (λ b. at_from x.count b xs n) reached ∙ at_as xs x.count n resumed (after_input x.input there) now in
    by_test (nat_le x.count n) _ _ _ _ on (steps_as (n - c) resumed was now)
    ∙ out_of_test (nat_le x.count n) resumed (at_from x.count (after_input x.input there) xs n)
    (after_steps (n - c) was) now

pub made_again : (log : List Recorded) (c n : ℕ) (was now : Board)
    → after_hold (at_from c (put_back was now) log n) ≡ after_rewind (at_from c was log n) now
made_again log c n was now = ap after_hold (at_as log c n (Some (length was.trace)) was now)

-- a run that stopped or ended, put back to where it is
pub put_back-left_by : (ending : SliceOutcome) (resumed : Option ℕ) (was now : Board)
    → put_back (left_by ending (detached_run resumed was now)) (left_by ending (detached_run resumed was now))
    ≡ detached_run (Some (length was.trace)) was now
put_back-left_by outcome.More resumed was now = refl
put_back-left_by outcome.Waiting resumed was now = refl
put_back-left_by (outcome.Stop why) resumed was now = refl
put_back-left_by (outcome.End how) resumed was now = refl

-- ---- the next input, or none, on the way to n

pub next_input : (c n : ℕ) (b : Board) (r : Recorded) (rs : List Recorded) → r.count ≤ n
    → at_from c b (r ∷ rs) n ≡ at_from r.count (after_input r.input (after_steps (r.count - c) b)) rs n
next_input c n b r rs within =
    let is : nat_le r.count n ≡ true = grind (arith, nat_tests) in
    rw is refl

pub no_input : (c n : ℕ) (b : Board) (r : Recorded) (rs : List Recorded) → n < r.count
    → at_from c b (r ∷ rs) n ≡ after_steps (n - c) b
no_input c n b r rs beyond =
    let is : nat_le r.count n ≡ false = grind (arith, nat_tests) in
    rw is refl
