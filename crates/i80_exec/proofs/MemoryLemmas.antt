-- Memory after power-on.
use Rattle.std.proofs.Common.{◌≡◌, ℕ, length, replicate, refl}
use Rattle.std.proofs.lemmas.List.{length-replicate}
use Rattle.i80_exec.specs.State.{zeros}

pub zeros_are : replicate 65536 0 ≡ zeros
unfolding zeros
zeros_are = refl

pub length-zeros : length zeros ≡ 65536
unfolding zeros
length-zeros = length-replicate {A = ℕ} 65536 0
