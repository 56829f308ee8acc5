use Rattle.std.proofs.Common.{◌≤◌, ◌<◌, ◌-◌, ℕ, length, slice_index_or}
use Rattle.lab_image.specs.Spans.{no_span}
use Rattle.lab_image.proofs.spans.count_ended.Given as goal

-- the spans below `low` end in time, and those from `high` on don't
abbrev pub invariant-loop-low : goal.invariant-loop-low
invariant-loop-low l = record {
  order : l.low ≤ l.high;
  within : l.high ≤ length l.spans;
  ended : (i : ℕ) → i < l.low → (slice_index_or l.spans i no_span).to ≤ l.address;
  beyond : (i : ℕ) → l.high ≤ i → i < length l.spans → l.address < (slice_index_or l.spans i no_span).to;
}

abbrev pub decreases-loop-low : goal.decreases-loop-low
decreases-loop-low l = l.high - l.low
