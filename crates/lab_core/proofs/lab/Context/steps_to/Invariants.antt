use Rattle.std.proofs.Common.{◌≡◌, ◌<◌, ◌≤◌, ◌+◌, ◌-◌, ℕ, None}
use Rattle.std.specs.Option.{IsSome}
use Rattle.lab_core.specs.Board.{Board}
use Rattle.lab_core.specs.Slices.{after_steps, traffic_of, reason}
use Rattle.lab_core.specs.Labs.{LabState, RepresentsBoard, RepresentsDuringSlice, Watches, in_slice}
use Rattle.lab_core.specs.Marks.{marked_at, first_after, first_mark, IsKept, last_site}
use Rattle.lab_core.proofs.lab.Context.steps_to.Given as goal

abbrev pub invariant-loop-k : goal.invariant-loop-k
invariant-loop-k l = record {
  within : l.k ≤ l.n;
  represents : (lab : LabState) (b : Board) → RepresentsBoard (in_slice lab l.fn.machine l.fn.self) b
      → RepresentsDuringSlice (in_slice lab l.machine l.self) (after_steps l.k b) (traffic_of l.k b);
  none_before : (lab : LabState) (b : Board) → RepresentsBoard (in_slice lab l.fn.machine l.fn.self) b
      → (j : ℕ) → j < l.k → reason (after_steps j b) ≡ None;
  first : (lab : LabState) (b : Board) → RepresentsBoard (in_slice lab l.fn.machine l.fn.self) b
      → first_after (marked_at l.marks b) (l.n - l.k) l.k ≡ first_mark l.marks l.n b;
  was_kept : (lab : LabState) (b : Board) → RepresentsBoard (in_slice lab l.fn.machine l.fn.self) b
      → IsKept (after_steps (l.k - 1) b).machine l.marks;
  site : (lab : LabState) (b : Board) → RepresentsBoard (in_slice lab l.fn.machine l.fn.self) b
      → l.site ≡ last_site l.k l.fn.site b;
  kept : IsKept l.machine l.marks;
  room : l.n ≤ l.self.devices.spare + l.k;
  scratch : IsSome l.scratch;
  watches : Watches l.is_watched l.self.is_attached l.self.request;
}

abbrev pub decreases-loop-k : goal.decreases-loop-k
decreases-loop-k l = l.n - l.k
