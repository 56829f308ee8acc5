-- The bytes that digits spell, pair by pair.
use Rattle.std.proofs.Common.{◌≡◌, ℕ, ◌≤◌, List, [], ◌∷◌, ◌++◌, length, take, drop}
use Rattle.std.proofs.Common.{get_or}
use Rattle.std.proofs.Common.{refl, ap, ◌∙◌, arith, append_assoc, option_map, Option, Some, None}
use Rattle.std.specs.Prelude.{option_and_then}
use Rattle.base_text.specs.Hexadecimal.{number_from}
use Rattle.asm_hex.specs.Record.{bytes_spelled}

mapped_twice : (front : List ℕ) (byte : ℕ) (o : Option (List ℕ))
    → option_map (λ more. (front ++ byte ∷ []) ++ more) o
    ≡ option_map (λ more. front ++ more) (option_map (λ bytes. byte ∷ bytes) o)
mapped_twice front byte None = refl
mapped_twice front byte (Some more) = ap Some (append_assoc front (byte ∷ []) more)

-- one more pair
pub pair_spelled : (front pair others rest : List ℕ) (byte : ℕ) (whole : Option (List ℕ))
    → 2 ≤ length rest → pair ≡ take 2 rest → others ≡ drop 2 rest
    → Some byte ≡ number_from 0 (get_or pair 0 0 ∷ (get_or pair 1 0 ∷ []))
    → option_map (λ more. front ++ more) (bytes_spelled rest) ≡ whole
    → option_map (λ more. (front ++ byte ∷ []) ++ more) (bytes_spelled others) ≡ whole
pair_spelled front pair others [] byte whole two pair_is others_is byte_is all = absurd (omega (arith, two))
pair_spelled front pair others (a ∷ []) byte whole two pair_is others_is byte_is all =
    absurd (omega (arith, two))
pair_spelled front pair others (a ∷ (b ∷ rest)) byte whole two pair_is others_is byte_is all =
    rw others_is (mapped_twice front byte (bytes_spelled rest)
    ∙ ap (λ (o : Option ℕ). option_map (λ more. front ++ more)
    (option_and_then (λ b. option_map (λ bytes. b ∷ bytes) (bytes_spelled rest)) o))
    (byte_is ∙ ap (λ (p : List ℕ). number_from 0 (get_or p 0 0 ∷ (get_or p 1 0 ∷ []))) pair_is)
    ∙ all)

-- a pair that spells nothing
pub pair_bad : (front pair rest : List ℕ) (whole : Option (List ℕ))
    → 2 ≤ length rest → pair ≡ take 2 rest
    → None ≡ number_from 0 (get_or pair 0 0 ∷ (get_or pair 1 0 ∷ []))
    → option_map (λ more. front ++ more) (bytes_spelled rest) ≡ whole → None ≡ whole
pair_bad front pair [] whole two pair_is bad all = absurd (omega (arith, two))
pair_bad front pair (a ∷ []) whole two pair_is bad all = absurd (omega (arith, two))
pair_bad front pair (a ∷ (b ∷ rest)) whole two pair_is bad all =
    ap (λ (o : Option ℕ). option_map (λ more. front ++ more)
    (option_and_then (λ b. option_map (λ bytes. b ∷ bytes) (bytes_spelled rest)) o))
    (bad ∙ ap (λ (p : List ℕ). number_from 0 (get_or p 0 0 ∷ (get_or p 1 0 ∷ []))) pair_is)
    ∙ all
