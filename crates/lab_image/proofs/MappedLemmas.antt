-- What sorted spans map is what their origins have as first bytes.
use Rattle.std.proofs.Common.{◌≡◌, ℕ, ◌<◌, ◌≤◌, ◌==◌, List, [], ◌∷◌, Some, None, Bool, true, false, refl, ◌∙◌}
use Rattle.std.proofs.Common.{arith, cond, inl, inr}
use Rattle.std.specs.List.{filter, cons_option}
use Rattle.std.proofs.lemmas.Bool.{cases_Bool}
use Rattle.std.proofs.lemmas.Bool.Decides.{nat_tests, eqb_tells}
use Rattle.lab_image.specs.declared.mapped.MappedAddress.{MappedAddress}
use Rattle.lab_image.specs.declared.spans.Span.{Span}
use Rattle.lab_image.specs.Spans.{AreSpans, lies_in, origin_at, origin_in}
use Rattle.lab_image.specs.Mapped.{first_of, firsts_of, mapped_by}

abbrev at_address : ℕ → List MappedAddress → List MappedAddress
at_address a all = filter (λ m. m.address == a) all

-- one at another address is passed over
skipped : (t : Bool) (m : MappedAddress) (all : List MappedAddress) (a : ℕ)
    → (t ≡ true → (m.address == a) ≡ false)
    → at_address a (cons_option (cond t (Some m) None) all) ≡ at_address a all
skipped true m all a h = rw (h refl) refl
skipped false m all a h = refl

-- one at this address is first
kept : (t : Bool) (m : MappedAddress) (all : List MappedAddress) (a : ℕ) → t ≡ true → (m.address == a) ≡ true
    → at_address a (cons_option (cond t (Some m) None) all) ≡ m ∷ at_address a all
kept true m all a h e = rw e refl
kept false m all a h e = cc

lies : (r : Span) (a : ℕ) → lies_in r a ≡ true → (r.from ≤ a) × (a < r.to)
lies r a h = (grind (arith, nat_tests), grind (arith, nat_tests))

-- where a span's row began
abbrev mapped_at : Span → MappedAddress
mapped_at r = record { address = r.start; source = r.source; line = r.line }

-- below the first span nothing is mapped
none_mapped : (low high : ℕ) (spans : List Span) (a : ℕ) → AreSpans low spans high → a < low
    → at_address a (firsts_of spans) ≡ []
none_mapped low high [] a are h = refl
none_mapped low high (r ∷ rs) a are h =
    let p = are.0 in let q = are.1 in
    let other : lies_in r r.start ≡ true → (r.start == a) ≡ false =
    λ (t : lies_in r r.start ≡ true). (let l = lies r r.start t in grind (arith, nat_tests)) in
    skipped (lies_in r r.start) (mapped_at r) (firsts_of rs) a other
    ∙ none_mapped r.to high rs a are.2 (omega arith)

-- an address in a span is mapped where the row began
mapped_here : (r : Span) (rest : List MappedAddress) (a : ℕ) → lies_in r a ≡ true → at_address a rest ≡ []
    → at_address a (cons_option (first_of r) rest) ≡ mapped_by a (Some (origin_at r a))
mapped_here r rest a inside none = elim (eqb_tells r.start a) [
  | inl same ↦ (let e : (a == r.start) ≡ true = grind (arith, nat_tests) in
      let here : lies_in r r.start ≡ true = rw same.1 inside in
      kept (lies_in r r.start) (mapped_at r) rest a here same.0
      ∙ rw (e, none, same.1) refl)
  | inr other ↦ (let e : (a == r.start) ≡ false = grind (arith, nat_tests) in
      skipped (lies_in r r.start) (mapped_at r) rest a (λ t. other.0)
      ∙ rw (e, none) refl)
]

-- an address outside is mapped by what follows
mapped_later : (r : Span) (rest : List MappedAddress) (a : ℕ) → lies_in r a ≡ false
    → at_address a (cons_option (first_of r) rest) ≡ at_address a rest
mapped_later r rest a outside = elim (eqb_tells r.start a) [
  | inl same ↦ skipped (lies_in r r.start) (mapped_at r) rest a
      (λ (t : lies_in r r.start ≡ true). (let u = rw same.1 at t in cc))
  | inr other ↦ skipped (lies_in r r.start) (mapped_at r) rest a (λ t. other.0)
]

pub mapped_of_spans : (low high : ℕ) (spans : List Span) (a : ℕ) → AreSpans low spans high
    → at_address a (firsts_of spans) ≡ mapped_by a (origin_in spans a)
mapped_of_spans low high [] a are = refl
mapped_of_spans low high (r ∷ rs) a are = elim (cases_Bool (lies_in r a)) [
  | inl inside ↦ (let l = lies r a inside in
      let none = none_mapped r.to high rs a are.2 l.1 in
      rw inside (mapped_here r (firsts_of rs) a inside none))
  | inr outside ↦ rw outside (mapped_later r (firsts_of rs) a outside ∙ mapped_of_spans r.to high rs a are.2)
]
