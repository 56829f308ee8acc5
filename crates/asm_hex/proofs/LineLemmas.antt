-- The first line of a text.
use Rattle.std.proofs.Common.{◌≡◌, ℕ, zero, suc, ◌≤◌, List, [], ◌∷◌, length, take, drop, Bool}
use Rattle.std.proofs.Common.{true, false}
use Rattle.std.proofs.Common.{cond, refl, ap, sym, ◌∙◌, arith, ◌==◌, ◌≢◌}
use Rattle.asm_hex.specs.Contents.{lines_of, before_first}
use Rattle.asm_hex.specs.Lines.{line_length}

pub within : (text : List ℕ) → line_length text ≤ length text
within [] = omega arith
within (c ∷ cs) = if_within (c == 10) (within cs)
  where
    if_within : (b : Bool) → line_length cs ≤ length cs
        → cond b 0 (suc (line_length cs)) ≤ length (c ∷ cs)
    if_within true h = omega arith
    if_within false h = omega (arith, h)

cut_if : (b : Bool) (c : ℕ) (cs : List ℕ)
    → before_first c (lines_of cs) ≡ (c ∷ take (line_length cs) cs) ∷ lines_of (drop (suc
    (line_length cs)) cs)
    → cond b ([] ∷ lines_of cs) (before_first c (lines_of cs))
    ≡ take (cond b 0 (suc (line_length cs))) (c ∷ cs)
    ∷ lines_of (drop (suc (cond b 0 (suc (line_length cs)))) (c ∷ cs))
cut_if true c cs h = refl
cut_if false c cs h = h

cut : (c : ℕ) (cs : List ℕ) → lines_of (c ∷ cs)
    ≡ take (line_length (c ∷ cs)) (c ∷ cs) ∷ lines_of (drop (suc (line_length (c ∷ cs))) (c ∷ cs))
unfolding lines_of
cut c [] = cut_if (c == 10) c [] refl
cut c (d ∷ ds) = cut_if (c == 10) c (d ∷ ds) (ap (before_first c) (cut d ds))

drop_one : (n : ℕ) (text : List ℕ) (c : ℕ) (cs : List ℕ) → drop n text ≡ c ∷ cs → cs ≡ drop (suc n) text
drop_one zero [] c cs e = absurd (cc)
drop_one zero (d ∷ ds) c cs e = cc
drop_one (suc n) [] c cs e = absurd (cc)
drop_one (suc n) (d ∷ ds) c cs e = drop_one n ds c cs e

pub cut_at_feed : (text line rest behind : List ℕ) (n c : ℕ) → n ≡ line_length text → line ≡ take n text
    → rest ≡ drop n text → rest ≡ c ∷ behind → lines_of text ≡ line ∷ lines_of behind
cut_at_feed [] line rest behind n c n_is line_is rest_is some =
    absurd (impossible n (sym rest_is ∙ some))
  where
    impossible : (m : ℕ) → drop m [] ≡ c ∷ behind → ⊥
    impossible zero e = cc
    impossible (suc m) e = cc
cut_at_feed (d ∷ ds) line rest behind n c n_is line_is rest_is some =
    rw (line_is, drop_one n (d ∷ ds) c behind (sym rest_is ∙ some), n_is) (cut d ds)

pub cut_at_end : (text line rest : List ℕ) (n : ℕ) → text ≢ [] → n ≡ line_length text → line ≡ take n text
    → rest ≡ drop n text → rest ≡ [] → lines_of text ≡ line ∷ lines_of rest
cut_at_end [] line rest n some n_is line_is rest_is none = absurd (some refl)
cut_at_end (d ∷ ds) line rest n some n_is line_is rest_is none =
    let past : drop (suc n) (d ∷ ds) ≡ [] = empty_after n (d ∷ ds) (sym rest_is ∙ none) in
    cut d ds ∙ ap (λ (m : ℕ). take m (d ∷ ds) ∷ lines_of (drop (suc m) (d ∷ ds))) (sym n_is)
    ∙ ap (λ (l : List ℕ). l ∷ lines_of (drop (suc n) (d ∷ ds))) (sym line_is)
    ∙ ap (λ (r : List ℕ). line ∷ lines_of r) (past ∙ sym none)
  where
    empty_after : (m : ℕ) (xs : List ℕ) → drop m xs ≡ [] → drop (suc m) xs ≡ []
    empty_after m [] e = refl
    empty_after zero (x ∷ xs) e = absurd cc
    empty_after (suc m) (x ∷ xs) e = empty_after m xs e

pub empty : (xs : List ℕ) → length xs ≡ 0 → xs ≡ []
empty [] e = refl
empty (x ∷ xs) e = absurd (omega (arith, e))
