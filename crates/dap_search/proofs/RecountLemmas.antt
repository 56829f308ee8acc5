-- Hits of steps that a run made before, counted again.
use Rattle.std.proofs.Common.{◌≡◌, ◌∙◌, ◌≤◌, ◌<◌, ◌+◌, ◌-◌, ℕ, zero, suc, List, map, true, false, Option}
use Rattle.std.proofs.Common.{Some, length, nat_lt, if◌then◌else◌, refl, sym, ap, subst, arith}
use Rattle.std.proofs.lemmas.Bool.Decides.{nat_tests}
use Rattle.lab_core.specs.Board.{Board}
use Rattle.lab_core.specs.Slices.{after_steps}
use Rattle.lab_core.specs.Labs.{LabState}
use Rattle.lab_core.specs.Marks.{MarksState, first_mark, marked_at, marks_after, watch_of}
use Rattle.lab_core.specs.Moments.{put_back}
use Rattle.lab_core.proofs.MarkLemmas.{first-before}
use Rattle.dap_slice.specs.declared.conditions.ConditionalBreakpoint.{ConditionalBreakpoint}
use Rattle.dap_slice.specs.Conditions.{IsMarked, watched_places}
use Rattle.dap_slice.specs.Changes.{IsAfterStep}
use Rattle.dap_slice.specs.Counts.{after_hits, points_after, after_each_step, without_hits}
use Rattle.dap_slice.specs.Tallies.{hits_in, IsTallyOf, without_tally, is_any_full}
use Rattle.dap_slice.proofs.ChangeLemmas.{marked_there, marked_still, after_step}
use Rattle.dap_slice.proofs.CountLemmas.{hits_alike, hits_same, marked_same}
use Rattle.dap_slice.proofs.LogLemmas.{counted_by-steps}
use Rattle.dap_slice.proofs.TallyLemmas.{Counts, same_others, without_twice, without_step, none_taken}
use Rattle.dap_slice.proofs.TallyLemmas.{full_before, taken_step}
use Rattle.dap_history.specs.declared.input.Recorded.{Recorded}
use Rattle.dap_history.specs.Logs.{Ascends, later_than}
use Rattle.dap_history.specs.Runs.{board_at, detached_run}
use Rattle.dap_search.specs.Recounts.{after_step_from, after_hits_from, hits_between}
use Rattle.dap_search.specs.Recounts.{without_hits_between}
use Rattle.dap_search.specs.Scans.{Advances, TalliesStep}
use Rattle.dap_history.proofs.RunLemmas.{steps_as}
use Rattle.dap_search.proofs.FindLemmas.{board_between}

abbrev Points : Type 0
Points = List ConditionalBreakpoint

-- ---- the same run on another board

machine_of : (k : ℕ) (resumed : Option ℕ) (was now : Board)
    → (after_steps k (detached_run resumed was now)).machine ≡ (after_steps k was).machine
machine_of k resumed was now = ap (λ (x : Board). x.machine) (steps_as k resumed was now)

symbols_of : (k : ℕ) (resumed : Option ℕ) (was now : Board)
    → (after_steps k (detached_run resumed was now)).symbols ≡ now.symbols
symbols_of k resumed was now = ap (λ (x : Board). x.symbols) (steps_as k resumed was now)

each_alike : (points : Points) (k : ℕ) (resumed resumed' : Option ℕ) (was now : Board)
    → after_each_step points k (detached_run resumed was now)
    ≡ after_each_step points k (detached_run resumed' was now)
each_alike points zero resumed resumed' was now = refl
each_alike points (suc k) resumed resumed' was now =
    let b = detached_run resumed was now in
    let b' = detached_run resumed' was now in
    hits_alike (after_each_step points k b) (after_steps k b) (after_steps k b') (after_steps (suc k) b)
    (after_steps (suc k) b') (machine_of k resumed was now ∙ sym (machine_of k resumed' was now))
    (record {
      machine = machine_of (suc k) resumed was now ∙ sym (machine_of (suc k) resumed' was now);
      symbols = symbols_of (suc k) resumed was now ∙ sym (symbols_of (suc k) resumed' was now);
    })
    ∙ ap (λ ps. after_hits ps (after_steps k b') (after_steps (suc k) b'))
    (each_alike points k resumed resumed' was now)

-- ---- the hits of a slice

-- its last step's, since no other one comes to a mark
last_alone : (points : Points) (marks : MarksState) (n k : ℕ) (b : Board) → IsMarked points marks
    → k ≤ first_mark marks n b → points_after points k b ≡ after_each_step points k b
last_alone points marks n k b marked within =
    counted_by-steps points b k (λ j some below.
    sym (marked_there points marks b j marked)
    ∙ first-before (marked_at marks b) n 0 j (omega (arith, some)) (omega (arith, below, within)))

last_step : (points : Points) (k : ℕ) (b : Board) → 1 ≤ k
    → after_hits points (after_steps (k - 1) b) (after_steps k b) ≡ points_after points k b
last_step points k b some =
    let is : nat_lt 0 k ≡ true = grind (arith, nat_tests, some) in
    sym (ap (λ one. if one then after_hits points (after_steps (k - 1) b) (after_steps k b) else points) is)

-- the marks are the same on another board with this machine
after_step_as : (points : Points) (was b b' : Board) (marks : MarksState) → b.machine ≡ b'.machine
    → IsAfterStep points was b marks → IsAfterStep points was b' marks
after_step_as points was b b' marks same after = record {
  watches =
      after.watches
      ∙ ap (λ m. map (λ place. watch_of was.machine m (record { place = place; before = 0; after = 0 }))
      (watched_places points)) same;
  stepped_from = after.stepped_from;
}

pub counted_on : (points counts : Points) (marks marks' : MarksState) (hits hits' : Counts) (n k : ℕ)
    (resumed : Option ℕ) (was now : Board) (lab : LabState) → IsMarked points marks
    → IsTallyOf points counts hits → 1 ≤ k → Advances marks n resumed was now k lab marks'
    → TalliesStep points marks' lab hits hits'
    → IsTallyOf points (after_each_step counts k (put_back was now)) hits' × IsMarked points marks'
counted_on points counts marks marks' hits hits' n k resumed was now lab marked tally some on count =
    let b = detached_run resumed was now in
    let before = after_steps (k - 1) b in
    let end = after_steps k b in
    let here = detached_run on.runs.0 (after_steps k was) now in
    let machine = machine_of k resumed was now in
    let stepped : IsAfterStep points before here marks' =
    subst (λ m. IsAfterStep points before here m) (sym on.marks_are)
    (after_step_as points before end here (marks_after k b marks) machine
    (after_step points marks k b marked)) in
    let made = count before here counts on.runs.1 stepped tally in
    let same = same_others points counts tally.others in
    let hit : after_hits counts before here ≡ after_each_step counts k (put_back was now) =
    sym (hits_same counts before end here (record {
      machine = machine;
      symbols = symbols_of k resumed was now;
    }))
    ∙ last_step counts k b some
    ∙ last_alone counts marks n k b (marked_same points counts marks (sym same) marked) on.within
    ∙ each_alike counts k resumed (Some (length was.trace)) was now in (
      subst (λ ps. IsTallyOf points ps hits') hit made,
      subst (λ m. IsMarked points m) (sym on.marks_are) (marked_still points marks k b marked),
    )

-- ---- the hits of a run

-- those of some steps more, with no input between them
hits_on : (points : Points) (start now : Board) (log : List Recorded) (m d k : ℕ)
    → ((j : ℕ) → j < k → board_at start log (m + (d + j)) ≡ after_steps j (board_at start log (m + d)))
    → after_hits_from points start log now m (d + k)
    ≡ after_each_step (after_hits_from points start log now m d) k (put_back (board_at start log (m + d)) now)
hits_on points start now log m d zero between =
    let none : d + 0 ≡ d = omega arith in
    ap (after_hits_from points start log now m) none
hits_on points start now log m d (suc k) between =
    let was = board_at start log (m + d) in
    let there = after_steps k was in
    let b = put_back was now in
    let resumed = Some (length was.trace) in
    let resumed' = Some (length there.trace) in
    let ps = after_hits_from points start log now m (d + k) in
    let next : d + suc k ≡ suc (d + k) = omega arith in
    ap (after_hits_from points start log now m) next
    ∙ (ap (λ x. after_step_from ps (put_back x now)) (between k (omega arith))
    ∙ (hits_alike ps (put_back there now) (after_steps k b) (after_steps 1 (put_back there now))
    (after_steps (suc k) b) (sym (machine_of k resumed was now))
    (record {
      machine = machine_of 1 resumed' there now ∙ sym (machine_of (suc k) resumed was now);
      symbols = symbols_of 1 resumed' there now ∙ sym (symbols_of (suc k) resumed was now);
    })
    ∙ ap (λ qs. after_hits qs (after_steps k b) (after_steps (suc k) b))
    (hits_on points start now log m d k (λ j below. between j (omega (arith, below))))))

-- up to the next input
pub between_on : (points : Points) (start now : Board) (log rest : List Recorded) (m a k : ℕ) → m ≤ a
    → Ascends 0 log → rest ≡ later_than a log → Ascends (a + k) rest
    → hits_between points start log now m (a + k)
    ≡ after_each_step (hits_between points start log now m a) k (put_back (board_at start log a) now)
between_on points start now log rest m a k before asc is later =
    let none = without_hits points in
    let sum : (a + k) - m ≡ (a - m) + k = omega (arith, before) in
    let here : m + (a - m) ≡ a = omega (arith, before) in
    ap (after_hits_from none start log now m) sum
    ∙ (hits_on none start now log m (a - m) k
    (λ j below.
    let on : m + ((a - m) + j) ≡ a + j = omega (arith, before) in
    ap (board_at start log) on
    ∙ (board_between start log rest a k j asc is later below
    ∙ ap (λ c. after_steps j (board_at start log c)) (sym here)))
    ∙ ap (λ c. after_each_step (hits_between points start log now m a) k
    (put_back (board_at start log c) now)) here)

-- none yet
pub none_between : (points : Points) (start now : Board) (log : List Recorded) (m : ℕ)
    → hits_between points start log now m m ≡ without_hits points
none_between points start now log m =
    let none : m - m ≡ 0 = omega arith in
    ap (after_hits_from (without_hits points) start log now m) none

-- ---- the laws

-- on another board with the same symbols
pub on_other_board : (points : Points) (start now now' : Board) (log : List Recorded) (m k : ℕ)
    → now.symbols ≡ now'.symbols
    → after_hits_from points start log now m k ≡ after_hits_from points start log now' m k
on_other_board points start now now' log m zero same = refl
on_other_board points start now now' log m (suc k) same =
    let was = board_at start log (m + k) in
    let resumed = Some (length was.trace) in
    let b = put_back was now in
    let b' = put_back was now' in
    hits_alike (after_hits_from points start log now m k) b b' (after_steps 1 b) (after_steps 1 b') refl
    (record {
      machine = machine_of 1 resumed was now ∙ sym (machine_of 1 resumed was now');
      symbols = symbols_of 1 resumed was now ∙ (same ∙ sym (symbols_of 1 resumed was now'));
    })
    ∙ ap (λ ps. after_step_from ps b') (on_other_board points start now now' log m k same)

-- in two parts
pub in_parts : (points : Points) (start now : Board) (log : List Recorded) (m j k : ℕ)
    → after_hits_from points start log now m (j + k)
    ≡ after_hits_from (after_hits_from points start log now m j) start log now (m + j) k
in_parts points start now log m j zero =
    let none : j + 0 ≡ j = omega arith in
    ap (after_hits_from points start log now m) none
in_parts points start now log m j (suc k) =
    let next : j + suc k ≡ suc (j + k) = omega arith in
    let there : m + (j + k) ≡ (m + j) + k = omega arith in
    ap (after_hits_from points start log now m) next
    ∙ (ap (λ ps. after_step_from ps (put_back (board_at start log (m + (j + k))) now))
    (in_parts points start now log m j k)
    ∙ ap (λ c. after_step_from
    (after_hits_from (after_hits_from points start log now m j) start log now (m + j) k)
    (put_back (board_at start log c) now)) there)

-- of steps with no input between them
pub by_steps : (points : Points) (start now : Board) (log : List Recorded) (m k : ℕ) → Ascends 0 log
    → Ascends (m + k) (later_than m log)
    → after_hits_from points start log now m k
    ≡ after_each_step points k (put_back (board_at start log m) now)
by_steps points start now log m k asc later =
    let all : 0 + k ≡ k = omega arith in
    let here : m + 0 ≡ m = omega arith in
    ap (after_hits_from points start log now m) (sym all)
    ∙ (hits_on points start now log m 0 k
    (λ j below.
    let on : m + (0 + j) ≡ m + j = omega arith in
    ap (board_at start log) on
    ∙ (board_between start log (later_than m log) m k j asc refl later below
    ∙ ap (λ c. after_steps j (board_at start log c)) (sym here)))
    ∙ ap (λ c. after_each_step points k (put_back (board_at start log c) now)) here)

without_from : (points : Points) (start now : Board) (log : List Recorded) (m k : ℕ)
    → without_hits (after_hits_from points start log now m k) ≡ without_hits points
without_from points start now log m zero = refl
without_from points start now log m (suc k) =
    let b = put_back (board_at start log (m + k)) now in
    without_step (after_hits_from points start log now m k) b (after_steps 1 b)
    ∙ without_from points start now log m k

taken-back : (points : Points) (start now : Board) (log : List Recorded) (m k : ℕ)
    → is_any_full (after_hits_from points start log now m k) ≡ false
    → without_tally (hits_in (after_hits_from (without_hits points) start log now m k))
    (after_hits_from points start log now m k) ≡ points
taken-back points start now log m zero room = none_taken points
taken-back points start now log m (suc k) room =
    let b = put_back (board_at start log (m + k)) now in
    let end = after_steps 1 b in
    let ps = after_hits_from points start log now m k in
    let gs = after_hits_from (without_hits points) start log now m k in
    let alike = without_from (without_hits points) start now log m k
    ∙ (without_twice points ∙ sym (without_from points start now log m k)) in
    taken_step ps gs b end alike room
    ∙ taken-back points start now log m k (full_before ps b end room)

pub taken_back : (points : Points) (start now : Board) (log : List Recorded) (m n : ℕ)
    → is_any_full (after_hits_from points start log now m (n - m)) ≡ false
    → without_hits_between (after_hits_from points start log now m (n - m)) start log now m n ≡ points
taken_back points start now log m n room =
    let k = n - m in
    let later = after_hits_from points start log now m k in
    ap (λ ps. without_tally (hits_in (after_hits_from ps start log now m k)) later)
    (without_from points start now log m k)
    ∙ taken-back points start now log m k room
