-- Bytes with spaces between, one by one.
use Rattle.std.proofs.Common.{◌≡◌, ℕ, ◌+◌, ◌<◌, List, [], ◌∷◌, ◌++◌, length, get_or, take, refl, ap, ◌∙◌}
use Rattle.std.proofs.lemmas.List.{take_more}
use Rattle.base_text.specs.Hexadecimal.{upper_byte}
use Rattle.dap_answers.specs.Json.{space, spaced_bytes}

one_after : (b : ℕ) (bs : List ℕ) (x : ℕ)
    → spaced_bytes (b ∷ (bs ++ x ∷ [])) ≡ spaced_bytes (b ∷ bs) ++ space ∷ upper_byte x
one_after b [] x = refl
one_after b (c ∷ cs) x = ap (λ (more : List ℕ). upper_byte b ++ space ∷ more) (one_after c cs x)

pub one_more_byte : (b : ℕ) (bs : List ℕ) (i : ℕ) → i < length bs
    → spaced_bytes (b ∷ take (i + 1) bs)
    ≡ spaced_bytes (b ∷ take i bs) ++ space ∷ upper_byte (get_or bs i 0)
one_more_byte b bs i inside =
    ap (λ (more : List ℕ). spaced_bytes (b ∷ more)) (take_more bs i 0 inside)
    ∙ one_after b (take i bs) (get_or bs i 0)
