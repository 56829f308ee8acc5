use Rattle.std.proofs.Common.{◌≡◌, ◌++◌, length}
use Rattle.std.specs.List.{filter_map}
use Rattle.dap_slice.specs.declared.conditions.Trigger.TheVariants.{Change}
use Rattle.dap_conditions.specs.Conditions.{stop_by}
use Rattle.dap_breakpoints.proofs.data.push_places.Given as goal

-- those so far, and those of the places that are left
abbrev pub invariant-loop-place : goal.invariant-loop-place
invariant-loop-place l =
    l.points ++ filter_map (λ place. stop_by l.point.id (Change place) l.point.options) l.left
    ≡ l.fn.points ++ filter_map (λ place. stop_by l.point.id (Change place) l.point.options) l.places

abbrev pub decreases-loop-place : goal.decreases-loop-place
decreases-loop-place l = length l.left
