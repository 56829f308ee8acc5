use Rattle.std.proofs.Common.{◌≡◌, ℕ, zero, suc, ◌+◌, ◌-◌, ◌*◌, ◌<◌, ◌≤◌, None, List, [], ◌∷◌, refl, arith}
use Rattle.std.proofs.lemmas.Bool.{le-ltb}
use Rattle.std.proofs.lemmas.Bool.Decides.{nat_tests}
use Rattle.zmtp_wire.specs.declared.head.Kind.{Kind}
use Rattle.zmtp_wire.specs.Head.{long_size, room_at}
use Rattle.zmtp_wire.specs.Greeting.{broken_by, first_broken}

-- nothing is wrong from place 32 on
broken_by_past : (place byte : ℕ) → 32 ≤ place → broken_by place byte ≡ None
unfolding broken_by
broken_by_past place byte h = grind (arith, nat_tests)

pub first_broken-past : (place : ℕ) (bytes : List ℕ) → 32 ≤ place → first_broken place bytes ≡ None
first_broken-past place [] h = refl
first_broken-past place (byte ∷ bytes) h =
    rw (broken_by_past place byte h) (first_broken-past (place + 1) bytes (omega arith))

pub long_step : (kind : Kind) (left size b : ℕ) (bytes others : List ℕ) → bytes ≡ b ∷ others → 0 < left
    → size * 256 + b ≤ room_at (left - 1) → long_size kind (left - 1) (size * 256 + b) others ≡ long_size
    kind left size bytes
long_step kind zero size b bytes others e p fits = absurd (omega arith)
long_step kind (suc left) size b bytes others e p fits =
    let k : suc left - 1 ≡ left = omega arith in
    let f : size * 256 + b ≤ room_at left = rw k at fits in
    rw (e, k, le-ltb (room_at left) (size * 256 + b) f)
