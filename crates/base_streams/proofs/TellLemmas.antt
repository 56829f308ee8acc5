use Rattle.std.proofs.Common.{◌≡◌, ℕ, ◌+◌, ◌≤◌, List, [], ◌∷◌, ◌++◌, length, take, drop, Option, Some, None}
use Rattle.std.proofs.Common.{arith, sym, ◌∙◌, ap, append_assoc, subst, zero, suc, zero-add, refl}
use Rattle.std.proofs.lemmas.Grind.{common_steps}
use Rattle.std.proofs.lemmas.List.{take-append-drop, append-nil, length-take-le, drop-drop}
use Rattle.std.proofs.Math.Seq.{take-append_seam}
use Rattle.base_streams.specs.Told.{Told, ToldPrefix, CountsOn}

pub told_on : (a b c : Option (List ℕ)) (x y : List ℕ) → Told a b x → Told b c y → Told a c (x ++ y)
told_on None b c x y p q = tt
told_on (Some v) None c x y p q = absurd (cc)
told_on (Some v) (Some w) c x y p q =
    q ∙ ap Some (let e : w ≡ v ++ x = cc in (ap (λ l. l ++ y) e ∙ append_assoc v x y))

pub front_at : (a b : Option (List ℕ)) (x : List ℕ) (n : ℕ) → Told a b (take n x) → ToldPrefix a b x
front_at a b x n t =
    record { front = take n x; others = drop n x; told = t; whole = sym (take-append-drop n x) }

pub take-add : (i n : ℕ) (x : List ℕ) → take (i + n) x ≡ take i x ++ take n (drop i x)
take-add zero n x = rw zero-add
take-add (suc i) n [] = grind (arith, common_steps)
take-add (suc i) n (b ∷ x) =
    let e : suc i + n ≡ suc (i + n) = omega arith in rw e (ap (λ l. b ∷ l) (take-add i n x))

pub told_more : (a b c : Option (List ℕ)) (x : List ℕ) (i n : ℕ) → Told a b (take i x)
    → Told b c (take n (drop i x)) → Told a c (take (i + n) x)
told_more a b c x i n p q = rw (take-add i n x) (told_on a b c (take i x) (take n (drop i x)) p q)

pub front_same : (a b c : Option (List ℕ)) (x : List ℕ) (i : ℕ) → Told a b (take i x) → Told b c []
    → ToldPrefix a c x
front_same a b c x i p q =
    let P : List ℕ → Type 0 = λ l. Told a c l in
    front_at a c x i (subst P (append-nil (take i x)) (told_on a b c (take i x) [] p q))

-- what a copy put at the front of a buffer
copied_front : (n : ℕ) (left copied others : List ℕ) → n ≤ length left → copied ≡ take n left
    → take n (copied ++ others) ≡ take n left
copied_front n left copied others fits e =
    let k : length copied ≡ n = ap length e ∙ length-take-le n left fits in
    ap (λ x. take x (copied ++ others)) (sym k) ∙ take-append_seam copied others ∙ e

-- the bytes that a reader gave are those that it has passed
pub given_more : (place n : ℕ) (held before copied others : List ℕ) → before ≡ take place held
    → n ≤ length (drop place held) → copied ≡ take n (drop place held)
    → Some (take (place + n) held) ≡ Some (before ++ take n (copied ++ others))
given_more place n held before copied others b fits e =
    let front = copied_front n (drop place held) copied others fits e in
    ap Some (take-add place n held ∙ ap (λ l. take place held ++ l) (sym front)
    ∙ ap (λ l. l ++ take n (copied ++ others)) (sym b))

-- the bytes that it has left were those, and then what is left now
pub left_less : (place n : ℕ) (held before copied others : List ℕ) → before ≡ drop place held
    → n ≤ length (drop place held) → copied ≡ take n (drop place held)
    → before ≡ take n (copied ++ others) ++ drop (place + n) held
left_less place n held before copied others b fits e =
    let front = copied_front n (drop place held) copied others fits e in
    b ∙ sym (take-append-drop n (drop place held)) ∙ ap (λ l. l ++ drop n (drop place held)) (sym front)
    ∙ ap (λ l. take n (copied ++ others) ++ l) (drop-drop n place held)

-- reads, and then more of them
pub counts_on : (a b c : Option ℕ) (n k : ℕ) → CountsOn a b n → CountsOn b c k → CountsOn a c (n + k)
counts_on a b None n k p q = tt
counts_on a None (Some z) n k p (y, is, e) = absurd cc
counts_on a (Some b) (Some z) n k (x, was, d) (y, is, e) =
    let same : b ≡ y = cc in (x, was, omega (arith, d, e, same))

pub counts_none : (a : Option ℕ) → CountsOn a a 0
counts_none None = tt
counts_none (Some x) = (x, refl, omega arith)
