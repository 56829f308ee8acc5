-- A number that has grown past 16 bits does not fall again.
use Rattle.std.proofs.Common.{◌≡◌, ℕ, ◌+◌, ◌*◌, ◌<◌, ◌≤◌, suc, length, get_or, drop, drop-cons, List, [], ◌∷◌}
use Rattle.std.proofs.Common.{Bool, true, false, cond, Some, None, refl, sym, ap, ◌∙◌, arith}
use Rattle.std.proofs.Math.Nat.{mul-le-mul_left}
use Rattle.std.proofs.lemmas.Bool.Decides.{nat_tests}
use Rattle.std.specs.Prelude.{nat_lt, ◌&&◌}
use Rattle.std.specs.Char.{digit_value}
use Rattle.asm_lex.specs.Numbers.{with_digits, in_base}

bigger : (n base v : ℕ) → 2 ≤ base → 65536 ≤ n → 65536 ≤ n * base + v
bigger n base v lo h = let k : n * 2 ≤ n * base = mul-le-mul_left n lo in omega arith

pub grown : (base n : ℕ) (ds : List ℕ) → 2 ≤ base → 65536 ≤ n → 65536 ≤ with_digits base n ds
grown base n [] lo h = h
grown base n (d ∷ ds) lo h = grown base (n * base + digit_value d) ds lo (bigger n base (digit_value d) lo h)

none_if : (a b : Bool) (n : ℕ) → b ≡ false → cond (a && b) (Some n) None ≡ None
none_if true b n e = rw e refl
none_if false b n e = refl

pub too_large : (base n : ℕ) (ds : List ℕ) → 2 ≤ base → 65536 ≤ n → with_digits base 0 ds ≡ n
    → in_base base ds ≡ None
too_large base n ds lo h e =
    let f : nat_lt (with_digits base 0 ds) 65536 ≡ false = grind (arith, nat_tests) in
    none_if _ _ _ f

pub overflowed : (base n i v : ℕ) (digits : List ℕ) → 2 ≤ base → i < length digits
    → v ≡ digit_value (get_or digits i 0) → 65536 ≤ n * base + v
    → with_digits base 0 digits ≡ with_digits base n (drop i digits)
    → None ≡ in_base base digits
overflowed base n i v digits lo lt e big h =
    let big' : 65536 ≤ n * base + digit_value (get_or digits i 0) = rw (← e) big in
    let far = grown base (n * base + digit_value (get_or digits i 0)) (drop (suc i) digits) lo big' in
    sym (too_large base (with_digits base (n * base + digit_value (get_or digits i 0)) (drop (suc i) digits))
    digits lo far (h ∙ ap (with_digits base n) (drop-cons digits i 0 lt)))
