-- Hits of a part of a run, counted apart from the breakpoints' own counts.
use Rattle.std.specs.Prelude.{◌≡◌, ◌-◌, List, [], ◌∷◌, map, Bool, false, nat_le, Option, Some, None}
use Rattle.std.specs.List.{list_any}
use Rattle.dap_slice.specs.declared.conditions.ConditionalBreakpoint.{ConditionalBreakpoint}
use Rattle.dap_slice.specs.declared.hits.Hits.{Hits}
use Rattle.dap_slice.specs.Counts.{without_hits}

-- what each breakpoint has counted, if it counts hits
abbrev pub hits_in : List ConditionalBreakpoint → List (Option Hits)
hits_in points = map (λ p. p.hits) points

-- A tally for the first breakpoints has the hits of the second, which are the same but for their counts.
pub record IsTallyOf (points counted : List ConditionalBreakpoint) (tally : List (Option Hits)) : Type 0 where
  pub others : without_hits counted ≡ without_hits points
  pub hits : tally ≡ hits_in counted

-- a count less another one
abbrev pub less : Option Hits → Option Hits → Option Hits
less (Some h) (Some taken) = Some (record h { count = h.count - taken.count })
less h taken = h

abbrev pub with_less : Option Hits → ConditionalBreakpoint → ConditionalBreakpoint
with_less taken p = record p { hits = less p.hits taken }

-- each count less that of the tally at the same place
abbrev pub without_tally : List (Option Hits) → List ConditionalBreakpoint → List ConditionalBreakpoint
without_tally [] points = points
without_tally (taken ∷ more) [] = []
without_tally (taken ∷ more) (p ∷ ps) = with_less taken p ∷ without_tally more ps

-- ---- for laws

-- the count has come to 2^64 - 1, from where on no hit is counted
abbrev pub is_full : Option Hits → Bool
is_full None = false
is_full (Some h) = nat_le 18446744073709551615 h.count

abbrev pub is_any_full : List ConditionalBreakpoint → Bool
is_any_full points = list_any (λ p. is_full p.hits) points
