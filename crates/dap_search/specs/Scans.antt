-- Scans: a run made again, and what a phase of a search sees of it.
use Rattle.std.specs.Prelude.{◌≡◌, ◌≤◌, ℕ, List, [], Bool, true, false, ◌||◌, ◌==◌, if◌then◌else◌}
use Rattle.std.specs.Prelude.{Option, Some, unwrap_or}
use Rattle.lab_image.specs.Addresses.{has}
use Rattle.lab_core.specs.Board.{Board}
use Rattle.lab_core.specs.Slices.{after_steps}
use Rattle.lab_core.specs.Labs.{LabState, RepresentsBoard}
use Rattle.lab_core.specs.Marks.{MarksState, first_mark, marks_after}
use Rattle.dap_slice.specs.declared.conditions.ConditionalBreakpoint.{ConditionalBreakpoint}
use Rattle.dap_slice.specs.declared.hits.Hits.{Hits}
use Rattle.dap_slice.specs.Conditions.{is_any_at, IsMarked}
use Rattle.dap_slice.specs.Changes.{IsAfterStep}
use Rattle.dap_slice.specs.Counts.{after_hits}
use Rattle.dap_slice.specs.Tallies.{IsTallyOf, without_tally}
use Rattle.dap_history.specs.declared.input.Recorded.{Recorded}
use Rattle.dap_history.specs.Runs.{board_at, detached_run, RunsDetached}
use Rattle.dap_search.specs.declared.goal.Goal.{Goal}
use Rattle.dap_search.specs.declared.goal.Goal.TheVariants.{Statement, Breakpoint, Count}
use Rattle.dap_search.specs.declared.phase.Phase.{Phase}
use Rattle.dap_search.specs.declared.phase.Phase.TheVariants.{Find, RecountHits}
use Rattle.dap_search.specs.declared.scan.Scan.{Scan}
use Rattle.dap_search.specs.Goals.{Target, is_met_at, is_passed, goal_below}
use Rattle.dap_search.specs.Recounts.{hits_between}

-- ---- phases

abbrev pub is_recount : Phase → Bool
is_recount (Find goal best) = false
is_recount (RecountHits tally) = true

-- the board is looked at after each step, and not only at marks
abbrev pub tests_each_step : Phase → Bool
tests_each_step (Find (Statement depth) best) = true
tests_each_step (Find Breakpoint best) = false
tests_each_step (Find (Count count) best) = true
tests_each_step (RecountHits tally) = false

-- the most steps of a slice
abbrev pub stride_of : Phase → ℕ
stride_of phase = if tests_each_step phase then 1 else 4096

-- the most steps before other requests are answered
abbrev pub part_of : Phase → ℕ
part_of phase = if tests_each_step phase then 16384 else 65536

-- the phase after the board was tested at count m
abbrev pub after_test : List ConditionalBreakpoint → Board → ℕ → Phase → Phase
after_test points b m (Find goal best) = Find goal (if is_passed points goal m b then Some m else best)
after_test points b m (RecountHits tally) = RecountHits tally

-- the second tally has the hits of one step more, after which the lab is and the marks are
abbrev pub TalliesStep : List ConditionalBreakpoint → MarksState → LabState → List (Option Hits)
    → List (Option Hits) → Type 0
TalliesStep points marks lab tally more =
    (was b : Board) (counted : List ConditionalBreakpoint) → RepresentsBoard lab b
    → IsAfterStep points was b marks → IsTallyOf points counted tally
    → IsTallyOf points (after_hits counted was b) more

-- the second phase has counted that step's hits
abbrev pub CountsStep : List ConditionalBreakpoint → MarksState → LabState → Phase → Phase → Type 0
CountsStep points marks lab (Find goal best) new = new ≡ Find goal best
CountsStep points marks lab (RecountHits tally) new =
    (more : List (Option Hits)) × (new ≡ RecountHits more) × TalliesStep points marks lab tally more

-- the count to which a window leads that begins at `low` and was seen whole
abbrev pub found_in : ℕ → Phase → Option ℕ
found_in low (Find goal best) = if low == 0 then Some (unwrap_or best 0) else best
found_in low (RecountHits tally) = Some low

-- the breakpoints without the hits that the phase has counted
abbrev pub points_without : Phase → List ConditionalBreakpoint → List ConditionalBreakpoint
points_without (Find goal best) points = points
points_without (RecountHits tally) points = without_tally tally points

-- ---- what a phase has seen

-- the marks are where a breakpoint is met, and where one with a condition is
pub record MarksStops (points : List ConditionalBreakpoint) (now : Board) (marks : MarksState) : Type 0 where
  pub addresses : (a : ℕ) → has marks.addresses a
      ≡ (is_met_at now.breakpoints now.loads a || is_any_at points a)
  pub watches : marks.watches ≡ []

-- Below count m the last count that passes is the best one, or the last one below `low` if there is none.
pub record HasFound (start : Board) (log : List Recorded) (now : Board) (target : Target) (low m : ℕ)
    (goal : Goal) (best : Option ℕ) (marks : MarksState)
    : Type 0 where
  pub last : goal_below target start log now m ≡ unwrap_or best (goal_below target start log now low)
  pub marked : MarksStops target.points now marks
  pub goal_is : goal ≡ target.goal

-- The tally has the hits between the counts `low` and m, and the marks are where the breakpoints are.
pub record HasRecounted (start : Board) (log : List Recorded) (now : Board)
    (points : List ConditionalBreakpoint) (low m : ℕ) (tally : List (Option Hits)) (marks : MarksState)
    : Type 0 where
  pub after : low ≤ m
  pub counted : IsTallyOf points (hits_between points start log now low m) tally
  pub marked : IsMarked points marks

-- what a phase has seen of the run from `low` up to count m
abbrev pub HasSeen : Board → List Recorded → Board → Target → ℕ → ℕ → Phase → MarksState → Type 0
HasSeen start log now target low m (Find goal best) marks =
    HasFound start log now target low m goal best marks
HasSeen start log now target low m (RecountHits tally) marks =
    HasRecounted start log now target.points low m tally marks

-- the same of a scan's phase, up to its count
abbrev pub HasScanned : Board → List Recorded → Board → Target → ℕ → Scan → Type 0
HasScanned start log now target low s = HasSeen start log now target low s.at s.phase s.marks

-- ---- what the calls do

-- the run made k steps more, and came to a mark at the last of them if at any
pub record Advances (marks : MarksState) (n : ℕ) (resumed : Option ℕ) (was now : Board) (k : ℕ)
    (lab : LabState) (marks' : MarksState)
    : Type 0 where
  pub runs : RunsDetached (after_steps k was) now lab
  pub within : k ≤ first_mark marks n (detached_run resumed was now)
  pub marks_are : marks' ≡ marks_after k (detached_run resumed was now) marks

-- the run is at the scan's count
pub record IsScanOf (start : Board) (log : List Recorded) (now : Board) (target : Target) (low : ℕ)
    (s : Scan) (lab : LabState)
    : Type 0 where
  pub runs : RunsDetached (board_at start log s.at) now lab
  pub seen : HasScanned start log now target low s
