use Rattle.std.proofs.Common.{◌≡◌, ◌≤◌, ◌-◌, length, take}
use Rattle.base_streams.specs.Told.{Took}
use Rattle.base_streams.proofs.writing.write_all.Given as goal

abbrev pub invariant-loop-place : goal.invariant-loop-place
invariant-loop-place g l = record {
  within : l.place ≤ length l.bytes;
  told : Took (g.W.Outlet.state l.fn.to) (g.W.Outlet.state l.to) (take l.place l.bytes);
  failed : (g.W.Outlet.state l.to).failed ≡ (g.W.Outlet.state l.fn.to).failed;
}

abbrev pub decreases-loop-place : goal.decreases-loop-place
decreases-loop-place g l = length l.bytes - l.place
