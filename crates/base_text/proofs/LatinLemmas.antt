-- Texts that are written character by character, and read back.
use Rattle.std.proofs.Common.{◌≡◌, ℕ, suc, ◌+◌, ◌<◌, [], List, ◌∷◌, ◌++◌, true, length, map, take}
use Rattle.std.proofs.Common.{slice_index_or, refl, ap, ◌∙◌, arith}
use Rattle.std.proofs.lemmas.Bool.Decides.{nat_tests}
use Rattle.std.proofs.lemmas.List.{take_more, append-nil}
use Rattle.std.proofs.lemmas.Str.{encodes-append, chars-encodes}
use Rattle.std.specs.Char.{encode_utf8}
use Rattle.std.specs.List.{All}
use Rattle.std.specs.Str.{encode_utf8_all, all_scalars}
use Rattle.std.proofs.Math.Utf8.{scalar}
use Rattle.base_text.specs.Latin.{latin_byte, latin_bytes, latin_text}

pub one_more : (bs : List ℕ) (i : ℕ) → i < length bs → encode_utf8_all (take (i + 1) bs)
    ≡ encode_utf8_all (take i bs) ++ encode_utf8 (slice_index_or bs i 0)
one_more bs i inside =
    ap encode_utf8_all (take_more bs i 0 inside)
    ∙ encodes-append (take i bs) (slice_index_or bs i 0 ∷ [])
    ∙ ap (λ x. encode_utf8_all (take i bs) ++ x) (append-nil (encode_utf8 (slice_index_or bs i 0)))

-- the first element, and the others
first_small : (b : ℕ) (bs : List ℕ) → All (λ c. c < 256) (b ∷ bs) → b < 256
first_small b bs small = small 0 b (omega arith)

others_small : (b : ℕ) (bs : List ℕ) → All (λ c. c < 256) (b ∷ bs) → All (λ c. c < 256) bs
others_small b bs small k d inside = small (suc k) d (omega (arith, inside))

small_scalar : (b : ℕ) → b < 256 → scalar b ≡ true
small_scalar b small = grind (arith, nat_tests)

small_scalars : (bs : List ℕ) → All (λ c. c < 256) bs → all_scalars bs ≡ true
small_scalars [] small = refl
small_scalars (b ∷ bs) small =
    let here = small_scalar b (first_small b bs small) in
    let after = small_scalars bs (others_small b bs small) in
    rw here after

small_byte : (b : ℕ) → b < 256 → latin_byte b ≡ b
small_byte b small = grind (arith, nat_tests)

small_bytes : (bs : List ℕ) → All (λ c. c < 256) bs → map latin_byte bs ≡ bs
small_bytes [] small = refl
small_bytes (b ∷ bs) small =
    ap (λ c. c ∷ map latin_byte bs) (small_byte b (first_small b bs small))
    ∙ ap (λ cs. b ∷ cs) (small_bytes bs (others_small b bs small))

pub read_back : (bs : List ℕ) → All (λ c. c < 256) bs → latin_bytes (latin_text bs) ≡ bs
unfolding latin_bytes latin_text
read_back bs small = ap (map latin_byte) (chars-encodes bs (small_scalars bs small))
    ∙ small_bytes bs small
