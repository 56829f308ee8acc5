-- Spans of characters that pass.
use Rattle.std.proofs.Common.{◌≡◌, ℕ, List, [], ◌∷◌, ◌++◌, Bool, true, false, length, drop, refl, ap, ◌∙◌}
use Rattle.std.proofs.Common.{eqb}
use Rattle.std.specs.List.{take_while, list_all}
use Rattle.std.proofs.lemmas.Bool.{and_parts, and_from, both_ways, ne_eqb}
use Rattle.std.proofs.lemmas.List.Sums.{take_while-cons}
use Rattle.asm_lex.specs.Spelling.{Stops, IsSpan}

-- a span is what take_while takes
pub span_is : (p : ℕ → Bool) (w rest : List ℕ) → list_all p w ≡ true → Stops p rest
    → take_while p (w ++ rest) ≡ w
span_is p [] [] all stops = refl
span_is p [] (b ∷ rest) all stops = rw (take_while-cons p b rest, stops) refl
span_is p (b ∷ w) rest all stops =
    let h = and_parts (p b) (list_all p w) all in
    rw (take_while-cons p b (w ++ rest), h.0) (ap (λ t. b ∷ t) (span_is p w rest h.1 stops))

-- the span at the front
pub record Span (p : ℕ → Bool) (xs : List ℕ) : Type 0 where
  pub text : List ℕ
  pub rest : List ℕ
  pub splits : xs ≡ text ++ rest
  pub span : IsSpan p text rest

span_step : (p : ℕ → Bool) (b : ℕ) (xs : List ℕ) (v : Bool) → p b ≡ v → Span p xs → Span p (b ∷ xs)
span_step p b xs true e r = record {
  text = b ∷ r.text;
  rest = r.rest;
  splits = ap (λ t. b ∷ t) r.splits;
  span = record { all = and_from (p b) (list_all p r.text) e r.span.all; ends = r.span.ends };
}
span_step p b xs false e r =
    record { text = []; rest = b ∷ xs; splits = refl; span = record { all = refl; ends = e } }

pub span_of : (p : ℕ → Bool) (xs : List ℕ) → Span p xs
span_of p [] = record { text = []; rest = []; splits = refl; span = record { all = refl; ends = tt } }
span_of p (b ∷ xs) = span_step p b xs (p b) refl (span_of p xs)

-- the span that begins with a character that passes
pub record First (p : ℕ → Bool) (b : ℕ) (xs : List ℕ) : Type 0 where
  pub text : List ℕ
  pub rest : List ℕ
  pub splits : b ∷ xs ≡ (b ∷ text) ++ rest
  pub span : IsSpan p (b ∷ text) rest
  pub taken : take_while p (b ∷ xs) ≡ b ∷ text

pub first_of : (p : ℕ → Bool) (b : ℕ) (xs : List ℕ) → p b ≡ true → First p b xs
first_of p b xs e =
    let r = span_of p xs in
    let all : list_all p (b ∷ r.text) ≡ true = and_from (p b) (list_all p r.text) e r.span.all in
    let splits : b ∷ xs ≡ (b ∷ r.text) ++ r.rest = ap (λ t. b ∷ t) r.splits in
    record {
      text = r.text;
      rest = r.rest;
      splits = splits;
      span = record { all = all; ends = r.span.ends };
      taken = ap (take_while p) splits ∙ span_is p (b ∷ r.text) r.rest all r.span.ends;
    }

pub drop_front : (w rest : List ℕ) → drop (length w) (w ++ rest) ≡ rest
drop_front [] rest = refl
drop_front (b ∷ w) rest = drop_front w rest

-- a character that passes is not one that fails
pub differs : (p : ℕ → Bool) (k b : ℕ) → p k ≡ false → p b ≡ true → eqb b k ≡ false
differs p k b fails passes = ne_eqb b k (λ e. both_ways (p b) (ap p e ∙ fails) passes)
