-- What is searched for: the last count of steps below now at which the run passes a test.
use Rattle.std.specs.Prelude.{ℕ, zero, suc, List, length, Bool, false, ◌&&◌, ◌||◌, ◌==◌, nat_le, nat_lt}
use Rattle.std.specs.Prelude.{if◌then◌else◌}
use Rattle.std.specs.List.{list_any}
use Rattle.lab_frames.specs.Live.{live}
use Rattle.lab_image.specs.declared.lists.BreakpointList.{BreakpointList}
use Rattle.lab_image.specs.Loads.{Load}
use Rattle.lab_image.specs.Breakpoints.{is_met}
use Rattle.lab_shown.specs.declared.step.Granularity.TheVariants.{Line}
use Rattle.lab_core.specs.Board.{Board}
use Rattle.lab_core.specs.Stops.{is_there}
use Rattle.lab_core.specs.Moments.{put_back}
use Rattle.dap_slice.specs.declared.conditions.ConditionalBreakpoint.{ConditionalBreakpoint}
use Rattle.dap_slice.specs.Conditions.{stops_back}
use Rattle.dap_search.specs.declared.goal.Goal.{Goal}
use Rattle.dap_search.specs.declared.goal.Goal.TheVariants.{Statement, Breakpoint, Count}
use Rattle.dap_history.specs.declared.input.Recorded.{Recorded}
use Rattle.dap_history.specs.Runs.{board_at}

-- a goal, and the breakpoints with conditions, which count where the goal is a breakpoint
pub record Target : Type 0 where
  pub goal : Goal
  pub points : List ConditionalBreakpoint

-- whether a breakpoint is met at this address, which is below 65,536
abbrev pub is_met_at : List BreakpointList → List Load → ℕ → Bool
is_met_at lists loads address = nat_lt address 65536 && is_met lists loads address

-- whether a board passes: a statement begins at PC and at most so many frames are live, or a breakpoint is
-- met at PC, or one with a condition stops a run that comes there
abbrev pub is_goal : List ConditionalBreakpoint → Goal → Board → Bool
is_goal points (Statement depth) b = is_there Line b && nat_le (length (live b.trace)) depth
is_goal points Breakpoint b =
    is_met_at b.breakpoints b.loads b.machine.regs.pc || list_any (stops_back b) points
is_goal points (Count count) b = false

-- the same of a run that came to this board by m steps; one for a count passes there
abbrev pub is_passed : List ConditionalBreakpoint → Goal → ℕ → Board → Bool
is_passed points (Statement depth) m b = is_goal points (Statement depth) b
is_passed points Breakpoint m b = is_goal points Breakpoint b
is_passed points (Count count) m b = m == count

-- the last count below n that passes the test, or 0
unfoldable pub last_below : (ℕ → Bool) → ℕ → ℕ
last_below test zero = 0
last_below test (suc n) = if test n then n else last_below test n

-- whether the run's board after m steps passes, with the loads and breakpoints of `now`
abbrev pub passes : Target → Board → List Recorded → Board → ℕ → Bool
passes target start log now m = is_passed target.points target.goal m (put_back (board_at start log m) now)

-- where a search leads from a run that has made n steps
abbrev pub goal_below : Target → Board → List Recorded → Board → ℕ → ℕ
goal_below target start log now n = last_below (passes target start log now) n

-- ---- for laws

abbrev pub breakpoint_target : List ConditionalBreakpoint → Target
breakpoint_target points = record { goal = Breakpoint; points = points }

abbrev pub statement_target : ℕ → List ConditionalBreakpoint → Target
statement_target depth points = record { goal = Statement depth; points = points }
