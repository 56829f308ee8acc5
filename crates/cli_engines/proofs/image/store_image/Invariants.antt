use Rattle.std.proofs.Common.{◌≡◌, take}
use Rattle.i80_exec.specs.State.{with_image_bytes}
use Rattle.cli_engines.proofs.image.store_image.Given as goal

-- the bytes so far are stored
abbrev pub invariant-loop-address : goal.invariant-loop-address
invariant-loop-address l = l.machine ≡ with_image_bytes l.initial.machine (take l.address-index l.image)
