-- Slices of a run of at most so many steps, which end where they come to a breakpoint with a condition, or a
-- step changes a watched place.
use Rattle.std.specs.Prelude.{◌≡◌, ◌≢◌, ◌≤◌, ℕ, ◌-◌, List, length, Bool, ◌||◌, Option, None, is_some, Result}
use Rattle.std.specs.Prelude.{IfOk, if◌then◌else◌}
use Rattle.std.specs.declared.alloc.AllocError.{AllocError}
use Rattle.lab_shown.specs.declared.place.PlaceChange.{PlaceChange}
use Rattle.lab_core.specs.declared.answer.SliceOutcome.{SliceOutcome}
use Rattle.lab_core.specs.declared.answer.SliceOutcome.TheVariants as outcome
use Rattle.lab_core.specs.declared.answer.Stop.{Stop}
use Rattle.lab_core.specs.declared.answer.Stop.TheVariants as stop
use Rattle.lab_core.specs.Board.{Board}
use Rattle.lab_core.specs.Slices.{after_steps, traffic_of, left_by}
use Rattle.lab_core.specs.SliceEnds.{slice_from}
use Rattle.lab_core.specs.declared.run_state.RunState.TheVariants.{Running}
use Rattle.lab_core.specs.Labs.{LabState, RepresentsBoard}
use Rattle.lab_core.specs.Marks.{first_after, value_at}
use Rattle.dap_slice.specs.declared.conditions.ConditionalBreakpoint.{ConditionalBreakpoint}
use Rattle.dap_slice.specs.declared.slice.BoardSlice.{BoardSlice}
use Rattle.dap_slice.specs.declared.slice.SliceResult.{SliceResult}
use Rattle.dap_slice.specs.Conditions.{is_any_at, is_any_met}
use Rattle.dap_slice.specs.Changes.{is_any_changed, first_change, change_at}
use Rattle.dap_slice.specs.Counts.{points_after}
use Rattle.dap_slice.specs.Stops.{ids_told}

-- whether the board after so many steps is at one of these breakpoints, or the last step changed a watched
-- place
abbrev pub is_at_after : List ConditionalBreakpoint → Board → ℕ → Bool
is_at_after points b j =
    is_any_at points (after_steps j b).machine.regs.pc
    || is_any_changed points (after_steps (j - 1) b) (after_steps j b)

-- the first count from 1 to n at which that is so, or n
abbrev pub first_arrival : List ConditionalBreakpoint → ℕ → Board → ℕ
first_arrival points n b = first_after (is_at_after points b) n 0

-- how a slice ends whose last step leads from the first board to the second, if it has no other reason to
abbrev pub outcome_at : List ConditionalBreakpoint → Board → Board → SliceOutcome
outcome_at points was b =
    if is_any_met points b || is_some (change_at points was b) then outcome.Stop stop.Breakpoint
    else outcome.More

-- a slice that ends for no other reason stops where a breakpoint acts
abbrev pub outcome_if_met : List ConditionalBreakpoint → Board → Board → SliceOutcome → SliceOutcome
outcome_if_met points was b outcome.More = outcome_at points was b
outcome_if_met points was b ending = ending

-- with the hits that its last step makes
abbrev pub stopped_if_met : List ConditionalBreakpoint → Board → ℕ × SliceOutcome → ℕ × SliceOutcome
stopped_if_met points b (k, ending) =
    (k, outcome_if_met (points_after points k b) (after_steps (k - 1) b) (after_steps k b) ending)

-- where a slice of at most n steps ends, and how
abbrev pub slice_end_within : List ConditionalBreakpoint → ℕ → Board → ℕ × SliceOutcome
slice_end_within points n b = stopped_if_met points b (slice_from (first_arrival points n b) 0 b)

-- The change of which a stopped run is told: its last step's, whatever else stopped it there. A run that goes
-- on, waits or has ended tells none.
abbrev pub change_told : List ConditionalBreakpoint → Board → Board → SliceOutcome → Option PlaceChange
change_told points was b (outcome.Stop reason) = first_change points was b
change_told points was b ending = None

abbrev pub change_after : List ConditionalBreakpoint → ℕ × SliceOutcome → Board → Option PlaceChange
change_after points (k, ending) b =
    change_told (points_after points k b) (after_steps (k - 1) b) (after_steps k b) ending

-- and of these breakpoints, by their numbers
abbrev pub ids_after : List ConditionalBreakpoint → ℕ × SliceOutcome → Board → List ℕ
ids_after points (k, ending) b =
    ids_told (points_after points k b) (after_steps (k - 1) b) (after_steps k b) ending

-- the board after a slice that ends there
abbrev pub after_end : ℕ × SliceOutcome → Board → Board
after_end end b = left_by end.1 (after_steps end.0 b)

abbrev pub after_slice_within : List ConditionalBreakpoint → ℕ → Board → Board
after_slice_within points n b = after_end (slice_end_within points n b) b

-- the board made so many steps, with these port operations, and ended so
pub record IsBoardSlice (end : ℕ × SliceOutcome) (b : Board) (s : BoardSlice) : Type 0 where
  pub executed : s.executed ≡ end.0
  pub traffic : s.traffic ≡ traffic_of end.0 b
  pub outcome : s.outcome ≡ end.1

-- it made so many steps, with these port operations, ended so, and tells this change and these breakpoints
pub record IsSliceEnd (points : List ConditionalBreakpoint) (end : ℕ × SliceOutcome) (b : Board)
    (s : SliceResult)
    : Type 0 where
  pub executed : s.executed ≡ end.0
  pub traffic : s.traffic ≡ traffic_of end.0 b
  pub outcome : s.outcome ≡ end.1
  pub change : s.change ≡ change_after points end b
  pub ids : s.ids ≡ ids_after points end b

abbrev pub IsSliceWithin : List ConditionalBreakpoint → ℕ → Board → SliceResult → Type 0
IsSliceWithin points n b s = IsSliceEnd points (slice_end_within points n b) b s

-- so it did from each board that the lab represents, if the run goes on there
abbrev pub MakesSlice : List ConditionalBreakpoint → ℕ → LabState → Result SliceResult AllocError → LabState
    → Type 0
MakesSlice points n old result new =
    (b : Board) → RepresentsBoard old b → b.run ≡ Running
    → IfOk result (λ s. IsSliceWithin points n b s × RepresentsBoard new (after_slice_within points n b))

-- and the breakpoints have its hits
abbrev pub CountsHits : List ConditionalBreakpoint → LabState → Result SliceResult AllocError
    → List ConditionalBreakpoint → Type 0
CountsHits old lab result new =
    (b : Board) → RepresentsBoard lab b → b.run ≡ Running
    → IfOk result (λ s. new ≡ points_after old s.executed b)

-- it has at most as many port operations as a slice may have steps
abbrev pub HasFew : SliceResult → Type 0
HasFew s = length s.traffic ≤ 4096

-- ---- for laws

-- the step from the first board to the second made this change
pub record IsStepChange (was b : Board) (c : PlaceChange) : Type 0 where
  pub before : c.before ≡ value_at c.place was.machine
  pub after : c.after ≡ value_at c.place b.machine
  pub differ : c.before ≢ c.after
  pub by : c.by ≡ was.machine.regs.pc

-- the run was stopped after the steps that were made, and the last one made this change
pub record StopsAtChange (end : ℕ × SliceOutcome) (b : Board) (c : PlaceChange) : Type 0 where
  pub some : 1 ≤ end.0
  pub reason : Stop
  pub outcome : end.1 ≡ outcome.Stop reason
  pub change : IsStepChange (after_steps (end.0 - 1) b) (after_steps end.0 b) c
