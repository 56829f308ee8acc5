-- The addresses that are marked are those at which a breakpoint is met.
use Rattle.std.proofs.Common.{◌≡◌, ℕ, ◌<◌, ◌==◌, ◌&&◌, ◌||◌, List, [], ◌∷◌, Option, Some, None, Bool, true}
use Rattle.std.proofs.Common.{false, refl, ap, ◌∙◌, inl, inr}
use Rattle.std.specs.List.{filter, list_any}
use Rattle.std.proofs.Math.Bool.{or-false}
use Rattle.std.proofs.lemmas.Bool.{cases_Bool}
use Rattle.lab_image.specs.declared.mapped.MappedAddress.{MappedAddress}
use Rattle.lab_image.specs.declared.origin.Origin.{Origin}
use Rattle.lab_image.specs.Mapped.{mapped_by, AreMapped}
use Rattle.lab_image.specs.Loads.{Load, origin_of}
use Rattle.lab_image.specs.declared.lists.BreakpointList.{BreakpointList}
use Rattle.lab_image.specs.Breakpoints.{has_breakpoint, is_met, is_met_by, is_met_among}

abbrev on_line : List BreakpointList → MappedAddress → Bool
on_line lists m = has_breakpoint lists m.source m.line

-- a search among those of one address
among_filter : {X : Type 0} (t p : X → Bool) (xs : List X)
    → list_any (λ x. t x && p x) xs ≡ list_any p (filter t xs)
among_filter t p [] = refl
among_filter t p (x ∷ xs) = elim (cases_Bool (t x)) [
  | inl here ↦ rw (here, among_filter t p xs) refl
  | inr other ↦ rw (other, among_filter t p xs) refl
]

met_by : (lists : List BreakpointList) (a : ℕ) (o : Option Origin)
    → list_any (on_line lists) (mapped_by a o) ≡ is_met_by lists o
met_by lists a None = refl
met_by lists a (Some o) = elim (cases_Bool o.is_first) [
  | inl first ↦ rw (first, or-false) refl
  | inr later ↦ rw later refl
]

pub met_among : (lists : List BreakpointList) (loads : List Load) (all : List MappedAddress) (a : ℕ)
    → AreMapped loads all → a < 65536
    → is_met_among lists all a ≡ is_met lists loads a
met_among lists loads all a are within =
    among_filter (λ m. m.address == a) (on_line lists) all
    ∙ ap (list_any (on_line lists)) (are a within) ∙ met_by lists a (origin_of loads a)

-- one more is marked, or passed over
pub one_marked : (b c rest : Bool) → ((b || c) || rest) ≡ (b || (c && true || rest))
one_marked true c rest = refl
one_marked false true rest = refl
one_marked false false rest = refl

pub one_passed : (b c rest : Bool) → (b || rest) ≡ (b || (c && false || rest))
one_passed b true rest = refl
one_passed b false rest = refl
