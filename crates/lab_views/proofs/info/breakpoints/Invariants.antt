use Rattle.std.proofs.Common.{◌≡◌, take}
use Rattle.std.specs.List.{filter_map}
use Rattle.lab_views.specs.Info.{breakpoints_in}
use Rattle.lab_views.proofs.info.breakpoints.Given as goal

abbrev pub invariant-loop-list : goal.invariant-loop-list
invariant-loop-list l = l.all ≡ filter_map (breakpoints_in l.sources) (take l.list-index l.lists)
