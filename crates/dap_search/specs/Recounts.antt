-- Hits of the steps that a run made between two counts, counted again.
use Rattle.std.specs.Prelude.{ℕ, zero, suc, ◌+◌, ◌-◌, List}
use Rattle.lab_core.specs.Board.{Board}
use Rattle.lab_core.specs.Slices.{after_steps}
use Rattle.lab_core.specs.Moments.{put_back}
use Rattle.dap_slice.specs.declared.conditions.ConditionalBreakpoint.{ConditionalBreakpoint}
use Rattle.dap_slice.specs.Counts.{after_hits, without_hits}
use Rattle.dap_slice.specs.Tallies.{hits_in, without_tally}
use Rattle.dap_history.specs.declared.input.Recorded.{Recorded}
use Rattle.dap_history.specs.Runs.{board_at}

-- the breakpoints with the hits of one step from this board
abbrev pub after_step_from : List ConditionalBreakpoint → Board → List ConditionalBreakpoint
after_step_from points b = after_hits points b (after_steps 1 b)

-- The breakpoints with the hits of each of the k steps that the run made from count c on. Inputs are no
-- steps. Conditions are asked with the symbols of `now`.
abbrev pub after_hits_from : List ConditionalBreakpoint → Board → List Recorded → Board → ℕ → ℕ
    → List ConditionalBreakpoint
after_hits_from points start log now c zero = points
after_hits_from points start log now c (suc k) =
    after_step_from (after_hits_from points start log now c k) (put_back (board_at start log (c + k)) now)

-- with the hits of the steps between two counts, and no others
abbrev pub hits_between : List ConditionalBreakpoint → Board → List Recorded → Board → ℕ → ℕ
    → List ConditionalBreakpoint
hits_between points start log now m n = after_hits_from (without_hits points) start log now m (n - m)

-- with those taken away
abbrev pub without_hits_between : List ConditionalBreakpoint → Board → List Recorded → Board → ℕ → ℕ
    → List ConditionalBreakpoint
without_hits_between points start log now m n =
    without_tally (hits_in (hits_between points start log now m n)) points
