use Rattle.std.proofs.Common.{◌≤◌, ◌+◌, ◌-◌, List, None}
use Rattle.i80_base.specs.declared.ports.PortOperation.{PortOperation}
use Rattle.lab_core.specs.Board.{Board}
use Rattle.lab_core.specs.Slices.{reason_before_fetch}
use Rattle.lab_core.specs.Labs.{LabState, RepresentsDuringSlice, Makes, ComputesIn, IsInBurst, LooksUp}
use Rattle.lab_core.specs.Labs.{KeepsAsked, in_slice}
use Rattle.lab_core.proofs.lab.Context.burst.Given as goal

abbrev pub invariant-loop-left : goal.invariant-loop-left
invariant-loop-left l = record {
  within : l.left ≤ l.most;
  makes : (lab : LabState) (b : Board) (traffic : List PortOperation)
      → RepresentsDuringSlice (in_slice lab l.fn.machine l.fn.self) b traffic
      → Makes (l.most - l.left) None b traffic (in_slice lab l.machine l.self);
  free : ComputesIn reason_before_fetch None l.machine l.self;
  ready : IsInBurst l.frame_floor l.machine l.self;
  room : l.left ≤ l.self.devices.spare;
  was : l.fn.self.devices.spare + l.left ≤ l.self.devices.spare + l.most;
  looks : LooksUp l.looks_up l.self;
  kept : KeepsAsked l.fn.self l.self;
}

abbrev pub decreases-loop-left : goal.decreases-loop-left
decreases-loop-left l = l.left
