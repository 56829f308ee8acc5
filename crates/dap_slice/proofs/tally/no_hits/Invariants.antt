use Rattle.std.proofs.Common.{◌≡◌, take}
use Rattle.dap_slice.specs.Counts.{without_hits}
use Rattle.dap_slice.specs.Tallies.{hits_in}
use Rattle.dap_slice.proofs.tally.no_hits.Given as goal

abbrev pub invariant-loop-point : goal.invariant-loop-point
invariant-loop-point l = l.hits.items ≡ hits_in (without_hits (take l.point-index l.points))
