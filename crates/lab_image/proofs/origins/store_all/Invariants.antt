use Rattle.std.proofs.Common.{◌≡◌, take}
use Rattle.i80_exec.specs.State.{with_image_bytes}
use Rattle.lab_image.proofs.origins.store_all.Given as goal

-- the bytes so far are put
abbrev pub invariant-loop-address : goal.invariant-loop-address
invariant-loop-address l = l.machine ≡ with_image_bytes l.initial.machine (take l.address-index l.image)
