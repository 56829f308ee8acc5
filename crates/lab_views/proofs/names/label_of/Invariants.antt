use Rattle.std.proofs.Common.{◌≡◌, drop}
use Rattle.std.specs.List.{find}
use Rattle.lab_views.specs.Frames.{labels}
use Rattle.lab_views.proofs.names.label_of.Given as goal

abbrev pub invariant-loop-index : goal.invariant-loop-index
invariant-loop-index l = find (labels l.address) (drop l.index l.symbols) ≡ find (labels l.address) l.symbols
