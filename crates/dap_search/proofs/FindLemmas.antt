-- The last count that passes a test, and runs up to the next input.
use Rattle.std.proofs.Common.{◌≡◌, ◌∙◌, ◌≤◌, ◌<◌, ◌-◌, ◌+◌, ℕ, zero, suc, List, [], ◌∷◌, Bool, true, false}
use Rattle.std.proofs.Common.{nat_lt, ◌&&◌, ◌||◌, ◌==◌, Option, Some, if◌then◌else◌, unwrap_or}
use Rattle.std.proofs.Common.{Result, Ok, Err, map, refl, sym, ap, subst, arith, inl, inr}
use Rattle.std.specs.Result.{OnErr}
use Rattle.std.proofs.lemmas.Bool.{cases_lt, false≢true}
use Rattle.std.proofs.Math.Bool.{or-false}
use Rattle.std.proofs.lemmas.Bool.Decides.{nat_tests}
use Rattle.lab_image.specs.Addresses.{has}
use Rattle.lab_core.specs.declared.answer.Answer.{Answer}
use Rattle.lab_core.specs.declared.fault.EventFault.{EventFault}
use Rattle.lab_core.specs.Board.{Board}
use Rattle.lab_core.specs.Slices.{after_steps}
use Rattle.lab_core.specs.Labs.{LabState}
use Rattle.lab_core.specs.Marks.{MarksState, SlicesTo, first_mark, marked_at, marks_after, watch_of}
use Rattle.lab_core.specs.Moments.{put_back}
use Rattle.lab_core.proofs.MarkLemmas.{first-before}
use Rattle.dap_slice.specs.declared.conditions.ConditionalBreakpoint.{ConditionalBreakpoint}
use Rattle.dap_slice.specs.Conditions.{is_any_at}
use Rattle.dap_search.specs.declared.goal.Goal.{Goal}
use Rattle.dap_search.specs.declared.goal.Goal.TheVariants.{Statement, Breakpoint, Count}
use Rattle.dap_search.specs.declared.phase.Phase.TheVariants.{Find}
use Rattle.dap_history.specs.declared.input.Recorded.{Recorded}
use Rattle.dap_history.specs.Logs.{Ascends, later_than}
use Rattle.dap_history.specs.Runs.{at_from, board_at, detached_run, OnlyRunChanges}
use Rattle.dap_search.specs.Goals.{Target, is_goal, is_passed, is_met_at, last_below, goal_below, passes}
use Rattle.dap_search.specs.Scans.{MarksStops, stride_of}
use Rattle.dap_history.proofs.LogLemmas.{all_later, ascends_from}
use Rattle.dap_history.proofs.RunLemmas.{goes_on, goes_on_before, no_input, steps_as}
use Rattle.dap_search.proofs.PointLemmas.{same_stops, both_false, none_stops}
use Rattle.dap_history.proofs.ReplayLemmas.{unchanged, keeps_rest, run_keeps}

-- ---- the last count

by_result : (passes : Bool) (a last before : ℕ) (best : Option ℕ) → last ≡ unwrap_or best before
    → (if passes then a else last) ≡ unwrap_or (if passes then Some a else best) before
by_result true a last before best seen = refl
by_result false a last before best seen = seen

-- one count more
pub seen_next : (test : ℕ → Bool) (a before : ℕ) (best : Option ℕ)
    → last_below test a ≡ unwrap_or best before
    → last_below test (suc a) ≡ unwrap_or (if test a then Some a else best) before
unfolding last_below
seen_next test a before best seen = by_result (test a) a (last_below test a) before best seen

not_here : (test : ℕ → Bool) (n : ℕ) → test n ≡ false → last_below test (suc n) ≡ last_below test n
unfolding last_below
not_here test n isn't = rw isn't refl

-- counts that don't pass
pub passed_over : (test : ℕ → Bool) (a k : ℕ) → ((j : ℕ) → 1 ≤ j → j < suc k → test (a + j) ≡ false)
    → last_below test (a + suc k) ≡ last_below test (suc a)
passed_over test a zero none = let is : a + 1 ≡ suc a = omega arith in ap (last_below test) is
passed_over test a (suc k) none =
    let is : a + suc (suc k) ≡ suc (a + suc k) = omega arith in
    ap (last_below test) is
    ∙ not_here test (a + suc k) (none (suc k) (omega arith) (omega arith))
    ∙ passed_over test a k (λ j some below. none j some (omega arith))

within_if : (passes : Bool) (n last : ℕ) → last ≤ n → (if passes then n else last) ≤ suc n
within_if true n last within = omega arith
within_if false n last within = omega (arith, within)

pub last_within : (test : ℕ → Bool) (n : ℕ) → last_below test n ≤ n
unfolding last_below
last_within test zero = omega arith
last_within test (suc n) = within_if (test n) n (last_below test n) (last_within test n)

later_if : (passes more : Bool) (n last last' : ℕ) → (passes ≡ true → more ≡ true) → last ≤ n → last ≤ last'
    → (if passes then n else last) ≤ (if more then n else last')
later_if true more n last last' adds within later = rw (adds refl) (omega arith)
later_if false true n last last' adds within later = within
later_if false false n last last' adds within later = later

-- where more counts pass, the last one is no earlier
pub last_later : (test more : ℕ → Bool) → ((m : ℕ) → test m ≡ true → more m ≡ true) → (n : ℕ)
    → last_below test n ≤ last_below more n
unfolding last_below
last_later test more adds zero = omega arith
last_later test more adds (suc n) =
    later_if (test n) (more n) n (last_below test n) (last_below more n) (adds n) (last_within test n)
    (last_later test more adds n)

either : (met stops : Bool) → (met || false) ≡ true → (met || stops) ≡ true
either true stops is = refl
either false stops is = absurd (false≢true is)

-- with breakpoints with conditions a search leads no farther back
pub conditions_add : (points : List ConditionalBreakpoint) (start now : Board) (log : List Recorded) (n : ℕ)
    → goal_below (record { goal = Breakpoint; points = [] }) start log now n
    ≤ goal_below (record { goal = Breakpoint; points = points }) start log now n
conditions_add points start now log n =
    last_later (passes (record { goal = Breakpoint; points = [] }) start log now)
    (passes (record { goal = Breakpoint; points = points }) start log now)
    (λ m. either _ _) n

-- ---- up to the next input

-- the board j steps later, before any of the inputs that are later
before_input : (a j : ℕ) (b : Board) (rest : List Recorded) → Ascends (suc (a + j)) rest
    → at_from a b rest (a + j) ≡ after_steps j b
before_input a j b [] asc =
    let is : (a + j) - a ≡ j = omega arith in
    ap (λ k. after_steps k b) is
before_input a j b (r ∷ rs) asc =
    let first = asc.0 in
    let is : (a + j) - a ≡ j = omega arith in
    no_input a (a + j) b r rs (omega (arith, first)) ∙ ap (λ k. after_steps k b) is

pub board_between : (start : Board) (log rest : List Recorded) (a k j : ℕ) → Ascends 0 log
    → rest ≡ later_than a log → Ascends (a + k) rest → j < k
    → board_at start log (a + j) ≡ after_steps j (board_at start log a)
board_between start log rest a k j asc is later below =
    let there = board_at start log a in
    let ahead : Ascends (suc (a + j)) rest = ascends_from (suc (a + j)) (a + k) rest (omega arith) later in
    goes_on 0 a (a + j) start log asc (omega arith) (omega arith)
    ∙ ap (λ xs. at_from a there xs (a + j)) (sym is)
    ∙ before_input a j there rest ahead

-- the board after k steps and the inputs there
pub board_then : (start : Board) (log rest : List Recorded) (a k : ℕ) → Ascends 0 log
    → rest ≡ later_than a log → Ascends (a + k) rest
    → board_at start log (a + k) ≡ at_from (a + k) (after_steps k (board_at start log a)) rest (a + k)
board_then start log rest a k asc is later =
    let there = board_at start log a in
    let steps : (a + k) - a ≡ k = omega arith in
    goes_on 0 a (a + k) start log asc (omega arith) (omega arith)
    ∙ ap (λ xs. at_from a there xs (a + k)) (sym is)
    ∙ goes_on_before a (a + k) (a + k) there rest later (omega arith) (omega arith)
    ∙ ap (λ i. at_from (a + k) (after_steps i there) rest (a + k)) steps

-- ---- the test

-- it depends on the run alone
pub same_goal : (points : List ConditionalBreakpoint) (goal : Goal) (resumed : Option ℕ) (was now : Board)
    (m : ℕ)
    → is_passed points goal m (detached_run resumed was now) ≡ is_passed points goal m (put_back was now)
same_goal points (Statement depth) resumed was now m = refl
same_goal points (Count count) resumed was now m = refl
same_goal points Breakpoint resumed was now m =
    ap (λ stops. is_met_at now.breakpoints now.loads was.machine.regs.pc || stops)
    (same_stops (detached_run resumed was now) (put_back was now) points
    (record { machine = refl; symbols = refl }))

-- between two tests no board passes
pub passed_between : (points : List ConditionalBreakpoint) (goal : Goal) (best : Option ℕ) (was now : Board)
    (a k : ℕ) → k ≤ stride_of (Find goal best)
    → ((j : ℕ) → 1 ≤ j → j < k → is_goal points Breakpoint (put_back (after_steps j was) now) ≡ false)
    → (j : ℕ) → 1 ≤ j → j < k → is_passed points goal (a + j) (put_back (after_steps j was) now) ≡ false
passed_between points (Statement depth) best was now a k few passed j some below = absurd (omega arith)
passed_between points (Count count) best was now a k few passed j some below = absurd (omega arith)
passed_between points Breakpoint best was now a k few passed j some below = passed j some below

-- from one test to the next
pub seen_on : (target : Target) (start now : Board) (log rest : List Recorded) (a k before : ℕ)
    (best : Option ℕ) → Ascends 0 log → rest ≡ later_than a log → Ascends (a + k) rest → 1 ≤ k
    → k ≤ stride_of (Find target.goal best)
    → ((j : ℕ) → 1 ≤ j → j < k
    → is_goal target.points Breakpoint (put_back (after_steps j (board_at start log a)) now) ≡ false)
    → goal_below target start log now a ≡ unwrap_or best before
    → goal_below target start log now (a + k)
    ≡ unwrap_or (if passes target start log now a then Some a else best) before
seen_on target start now log rest a zero before best asc is later some few passed seen = absurd (omega arith)
seen_on target start now log rest a (suc k) before best asc is later some few passed seen =
    let test = passes target start log now in
    passed_over test a k (λ j first below.
    ap (λ b. is_passed target.points target.goal (a + j) (put_back b now))
    (board_between start log rest a (suc k) j asc is later below)
    ∙ passed_between target.points target.goal best (board_at start log a) now a (suc k) few passed j first
    below)
    ∙ seen_next test a before best seen

-- ---- the log on the way

pub ascends-later_than : (n c : ℕ) (log : List Recorded) → Ascends c log → Ascends (n + 1) (later_than n log)
ascends-later_than n c [] asc = tt
ascends-later_than n c (r ∷ rs) asc = elim (cases_lt n r.count) [
  | inl later ↦ (
      let is : nat_lt n r.count ≡ true = grind (arith, nat_tests) in
      let rest = all_later n r.count rs asc.1 later in
      rw (is, rest) (omega arith, asc.1)
      )
  | inr within ↦ (
      let isn't : nat_lt n r.count ≡ false = grind (arith, nat_tests) in
      rw isn't (ascends-later_than n r.count rs asc.1)
      )
]

by_later : (test : Bool) (r : Recorded) (xs ys : List Recorded) → xs ≡ ys
    → (if test then r ∷ xs else xs) ≡ (if test then r ∷ ys else ys)
by_later true r xs ys same = ap (λ zs. r ∷ zs) same
by_later false r xs ys same = same

pub later_later : (m n : ℕ) (log : List Recorded) → n ≤ m
    → later_than m (later_than n log) ≡ later_than m log
later_later m n [] within = refl
later_later m n (r ∷ rs) within = elim (cases_lt n r.count) [
  | inl later ↦ (
      let is : nat_lt n r.count ≡ true = grind (arith, nat_tests) in
      rw is (by_later (nat_lt m r.count) r _ _ (later_later m n rs within))
      )
  | inr before ↦ (
      let isn't : nat_lt n r.count ≡ false = grind (arith, nat_tests) in
      let nor : nat_lt m r.count ≡ false = grind (arith, nat_tests) in
      rw (isn't, nor) (later_later m n rs within)
      )
]

-- ---- marks

-- one address more
pub marked_more : (a n : ℕ) (has met : Bool) → has ≡ (nat_lt a n && met)
    → (has || (n == a && met)) ≡ (nat_lt a (n + 1) && met)
marked_more a n has false is = grind (arith, nat_tests)
marked_more a n has true is = grind (arith, nat_tests)

-- with the addresses of breakpoints with conditions
pub marked_with : (points : List ConditionalBreakpoint) (now : Board) (marks marks' : MarksState)
    → MarksStops [] now marks
    → ((a : ℕ) → has marks'.addresses a ≡ (has marks.addresses a || is_any_at points a))
    → marks' ≡ record marks { addresses = marks'.addresses } → MarksStops points now marks'
marked_with points now marks marks' marked more same = record {
  addresses = λ a. more a ∙ ap (λ met. met || is_any_at points a) (marked.addresses a ∙ or-false _);
  watches = ap (λ (m : MarksState). m.watches) same ∙ marked.watches;
}

-- no board between two marks is at a breakpoint
pub passed_to : (points : List ConditionalBreakpoint) (marks : MarksState) (n k j : ℕ) (resumed : Option ℕ)
    (was now : Board) → MarksStops points now marks
    → k ≤ first_mark marks n (detached_run resumed was now) → 1 ≤ j → j < k
    → is_goal points Breakpoint (put_back (after_steps j was) now) ≡ false
passed_to points marks n k j resumed was now marked few some below =
    let b = detached_run resumed was now in
    let there = after_steps j was in
    let none : marked_at marks b j ≡ false =
    first-before (marked_at marks b) n 0 j (omega (arith, some)) (omega (arith, below, few)) in
    let at = there.machine.regs.pc in
    let pc : (after_steps j b).machine.regs.pc ≡ at =
    ap (λ (x : Board). x.machine.regs.pc) (steps_as j resumed was now) in
    let unmarked : has marks.addresses at ≡ false =
    ap (has marks.addresses) (sym pc) ∙ (both_false _ _ none).0 in
    let apart =
    both_false (is_met_at now.breakpoints now.loads at) (is_any_at points at)
    (sym (marked.addresses at) ∙ unmarked) in
    rw (apart.0, none_stops (put_back there now) points apart.1) refl

pub marked_after : (points : List ConditionalBreakpoint) (now b : Board) (k : ℕ) (marks marks' : MarksState)
    → MarksStops points now marks → marks' ≡ marks_after k b marks → MarksStops points now marks'
marked_after points now b k marks marks' marked same =
    subst (λ m. MarksStops points now m) (sym same) (record {
      addresses = marked.addresses;
      watches =
          ap (map (watch_of (after_steps (k - 1) b).machine (after_steps k b).machine)) marked.watches;
    })

-- a slice up to a mark leaves all but the run
pub slice_to_changes : (marks marks' : MarksState) (old new : LabState) (n : ℕ)
    (reply : Result Answer EventFault) → SlicesTo marks n old reply new
    → OnErr reply ((new ≡ old) × (marks' ≡ marks)) → OnlyRunChanges old new
slice_to_changes marks marks' old new n (Err fault) applies same = unchanged old new same.0
slice_to_changes marks marks' old new n (Ok a) applies same =
    λ b represents.
    let x = applies b represents (λ e. cc) in
    keeps_rest new x.0 b x.2 (run_keeps b.run (first_mark marks n b) b x.0 (Ok a) x.1)

-- ---- no steps

pub zero_below : (test : ℕ → Bool) → last_below test 0 ≡ 0
unfolding last_below
zero_below test = refl
