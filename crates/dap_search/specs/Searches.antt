-- Searches backward: for a goal, and then for the hits of the steps that the run goes back over.
use Rattle.std.specs.Prelude.{◌≡◌, ◌≤◌, ◌+◌, ℕ, List, Bool, true, Option, Some, None, is_some}
use Rattle.std.specs.Bool.{⊤}
use Rattle.std.specs.List.{list_any}
use Rattle.std.specs.Option.{IfSome}
use Rattle.lab_core.specs.Board.{Board}
use Rattle.lab_core.specs.Labs.{LabState, RepresentsBoard}
use Rattle.lab_core.specs.Moments.{MomentState, IsMomentOf}
use Rattle.dap_slice.specs.declared.conditions.ConditionalBreakpoint.{ConditionalBreakpoint}
use Rattle.dap_history.specs.declared.input.Recorded.{Recorded}
use Rattle.dap_history.specs.Runs.{board_at, after_rewind, RunsDetached}
use Rattle.dap_history.specs.Histories.{HistoryState, IsHistoryOf, KeepsRestAndHistory}
use Rattle.dap_search.specs.declared.phase.Phase.{Phase}
use Rattle.dap_search.specs.declared.phase.Phase.TheVariants.{Find, RecountHits}
use Rattle.dap_search.specs.declared.scan.Scan.{Scan}
use Rattle.dap_search.specs.Goals.{Target, goal_below}
use Rattle.dap_search.specs.Scans.{HasScanned, is_recount, points_without}
use Rattle.dap_search.specs.Recounts.{without_hits_between}

-- one of the breakpoints counts its hits
abbrev pub counts_hits : List ConditionalBreakpoint → Bool
counts_hits points = list_any (λ p. is_some p.hits) points

-- what a contract sees of a search: its scan began at `low`, and ends at `high`
pub record SearchState : Type 0 where
  pub scan : Scan
  pub low : ℕ
  pub high : ℕ
  pub count : ℕ
  pub here : Option MomentState
  pub home : MomentState

-- The goal is below `high`; when it was found, the hits of all steps behind it are counted.
abbrev pub IsWindowOf : Board → List Recorded → Board → Target → ℕ → Phase → ℕ → ℕ → Type 0
IsWindowOf start log now target n (Find goal best) low high =
    goal_below target start log now high ≡ goal_below target start log now n
IsWindowOf start log now target n (RecountHits tally) low high =
    (low ≡ goal_below target start log now n) × (high ≡ n)

-- such a window begins where the scan is, and ends at n
pub record BeginsScan (start : Board) (log : List Recorded) (now : Board) (target : Target) (n : ℕ) (s : Scan)
    : Type 0 where
  pub seen : HasScanned start log now target s.at s
  pub window : IsWindowOf start log now target n s.phase s.at n

-- The search is for the last count below n that passes. It began at the moment `home`, and goes on at `here`,
-- if it has that.
pub record IsSearchOf (start : Board) (log : List Recorded) (now : Board) (target : Target) (n : ℕ)
    (s : SearchState)
    : Type 0 where
  pub scan : HasScanned start log now target s.low s.scan
  pub window : IsWindowOf start log now target n s.scan.phase s.low s.high
  pub within : s.scan.at ≤ s.high
  pub count : s.count ≡ n
  pub here : IfSome s.here (λ moment. IsMomentOf moment (board_at start log s.scan.at))
  pub home : IsMomentOf s.home (board_at start log n)

-- ---- what the calls do

-- so it is for every run with this history and every search of it that goes on from this board
abbrev pub ForEachSearch : HistoryState → SearchState → LabState
    → (Board → Board → Target → ℕ → Type 0)
    → Type 0
ForEachSearch h s lab P =
    (start now : Board) (target : Target) (n : ℕ) → IsHistoryOf start h
    → IsSearchOf start h.log now target n s → RepresentsBoard lab now → P start now target n

-- and of those that are for a target with these breakpoints
abbrev pub ForEachSearchWith : List ConditionalBreakpoint → HistoryState → SearchState → LabState
    → (Board → Board → Target → ℕ → Type 0)
    → Type 0
ForEachSearchWith points h s lab P =
    ForEachSearch h s lab (λ start now target n. target.points ≡ points → P start now target n)

-- After more of a search: it goes on, and the run is held where it began; or the count was found, and the run
-- is held there.
abbrev pub SearchedOn : Board → List Recorded → Board → Target → ℕ → Option ℕ → SearchState → LabState
    → Type 0
SearchedOn start log now target n None s lab =
    IsSearchOf start log now target n s × RepresentsBoard lab (after_rewind (board_at start log n) now)
SearchedOn start log now target n (Some m) s lab =
    (m ≡ goal_below target start log now n) × RepresentsBoard lab (after_rewind (board_at start log m) now)

-- the breakpoints then: once the count was found the hits behind it are taken away
abbrev pub points_then : Board → List Recorded → Board → List ConditionalBreakpoint → ℕ → Option ℕ
    → List ConditionalBreakpoint
points_then start log now points n None = points
points_then start log now points n (Some m) = without_hits_between points start log now m n

-- both, with these breakpoints before and after
abbrev pub SearchedWith : Board → List Recorded → Board → Target → ℕ → List ConditionalBreakpoint
    → SearchState → LabState → List ConditionalBreakpoint → Option ℕ → Type 0
SearchedWith start log now target n points s lab points' found =
    SearchedOn start log now target n found s lab × (points' ≡ points_then start log now points n found)

-- a recount that isn't at its end made this many steps more
abbrev pub RecountsPart : SearchState → SearchState → Option ℕ → Type 0
RecountsPart old new (Some m) = ⊤
RecountsPart old new None = is_recount old.scan.phase ≡ true → new.scan.at ≡ old.scan.at + 65536

-- whatever it comes to, the board keeps all but its run, and the history stays
abbrev pub SearchKeepsRest : List ConditionalBreakpoint → HistoryState → SearchState → LabState → HistoryState
    → LabState → Type 0
SearchKeepsRest points h s lab h' lab' =
    ForEachSearchWith points h s lab (λ start now _ _. KeepsRestAndHistory h h' lab' start now)

-- ---- during a call

-- the run is at the scan's count
pub record IsUnderWay (start : Board) (log : List Recorded) (now : Board) (target : Target) (n : ℕ)
    (s : SearchState) (lab : LabState)
    : Type 0 where
  pub search : IsSearchOf start log now target n s
  pub runs : RunsDetached (board_at start log s.scan.at) now lab
  pub entered : s.here ≡ None

-- after a part of the run the search goes on; or the count was found, and the hits behind it are counted
abbrev pub IsNext : Board → List Recorded → Board → Target → ℕ → SearchState → Option ℕ → Type 0
IsNext start log now target n s None = IsSearchOf start log now target n s
IsNext start log now target n s (Some m) =
    (m ≡ goal_below target start log now n)
    × (points_without s.scan.phase target.points ≡ without_hits_between target.points start log now m n)

-- and meanwhile the run is somewhere on its way
pub record IsNextOf (start : Board) (log : List Recorded) (now : Board) (target : Target) (n : ℕ)
    (s : SearchState) (lab : LabState) (found : Option ℕ)
    : Type 0 where
  pub next : IsNext start log now target n s found
  pub was : Board
  pub runs : RunsDetached was now lab
