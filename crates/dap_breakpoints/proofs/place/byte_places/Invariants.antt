use Rattle.std.proofs.Common.{◌≡◌, map}
use Rattle.std.specs.List.{range_with_len}
use Rattle.lab_shown.specs.declared.place.Place.TheVariants.{Memory}
use Rattle.dap_breakpoints.proofs.place.byte_places.Given as goal

-- the places of the first bytes
abbrev pub invariant-loop-index : goal.invariant-loop-index
invariant-loop-index l = l.places ≡ map (λ at. Memory at) (range_with_len l.address l.index)
