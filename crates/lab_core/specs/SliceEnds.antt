-- Where a slice ends, as a function.
use Rattle.std.specs.Prelude.{ℕ, zero, suc, ◌+◌, List, [], Option, Some, None, unwrap_or}
use Rattle.i80_base.specs.declared.ports.PortOperation.{PortOperation}
use Rattle.lab_core.specs.declared.answer.SliceOutcome.{SliceOutcome}
use Rattle.lab_core.specs.declared.answer.SliceOutcome.TheVariants.{More}
use Rattle.lab_core.specs.declared.answer.Answer.{Answer}
use Rattle.lab_core.specs.declared.answer.Answer.TheVariants as answer
use Rattle.lab_core.specs.Board.{Board}
use Rattle.lab_core.specs.Slices.{reason, reason_after_step, after_steps, traffic_of, left_by}

abbrev pub or_goes_on : Option SliceOutcome → ℕ → ℕ × SliceOutcome → ℕ × SliceOutcome
or_goes_on (Some ending) k on = (k, ending)
or_goes_on None k on = on

-- where and how a slice ends that has made k steps and may make at most `more` further ones
unfoldable pub slice_from : ℕ → ℕ → Board → ℕ × SliceOutcome
slice_from zero k b = (k, unwrap_or (reason_after_step (after_steps k b)) More)
slice_from (suc more) k b = or_goes_on (reason (after_steps k b)) k (slice_from more (k + 1) b)

abbrev pub sliced_at : Board → ℕ × SliceOutcome → Answer × Board
sliced_at b (k, ending) = (answer.Sliced k (traffic_of k b) ending, left_by ending (after_steps k b))

-- the port operations in an answer
abbrev pub traffic_in : Answer → List PortOperation
traffic_in (answer.Sliced k traffic ending) = traffic
traffic_in _ = []

-- where a slice of 4,096 steps ends, and how
abbrev pub slice_end : Board → ℕ × SliceOutcome
slice_end b = slice_from 4096 0 b

abbrev pub after_slice : Board → Board
after_slice b = left_by (slice_end b).1 (after_steps (slice_end b).0 b)
