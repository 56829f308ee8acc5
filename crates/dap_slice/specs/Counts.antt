-- Counts of hits: how often a run came to each breakpoint with its condition true.
use Rattle.std.specs.Prelude.{ℕ, zero, suc, ◌+◌, ◌-◌, ◌*◌, List, [], ◌∷◌, map, Bool, false, ◌&&◌, ◌==◌, not}
use Rattle.std.specs.Prelude.{nat_le, nat_lt, Option, Some, None, if◌then◌else◌}
use Rattle.std.specs.List.{list_any}
use Rattle.lab_core.specs.Board.{Board}
use Rattle.lab_core.specs.Slices.{after_steps}
use Rattle.lab_core.specs.Marks.{value_at}
use Rattle.dap_slice.specs.declared.conditions.ConditionalBreakpoint.{ConditionalBreakpoint}
use Rattle.dap_slice.specs.declared.conditions.Trigger.{Trigger}
use Rattle.dap_slice.specs.declared.conditions.Trigger.TheVariants as trigger
use Rattle.dap_slice.specs.declared.hits.Hits.{Hits}
use Rattle.dap_slice.specs.Hits.{once_more, none_yet}
use Rattle.dap_slice.specs.Conditions.{holds_on}

-- The step from the first board to the second leads there. Hits of lines, where the board itself stops,
-- aren't counted.
abbrev pub is_come_to : Board → Board → Trigger → Bool
is_come_to was b (trigger.Address address) = address == b.machine.regs.pc
is_come_to was b (trigger.Change place) = not (value_at place was.machine == value_at place b.machine)
is_come_to was b (trigger.Line line) = false

-- and the condition is true after it
abbrev pub is_hit_by : Board → Board → ConditionalBreakpoint → Bool
is_hit_by was b p = is_come_to was b p.trigger && holds_on b p.condition

-- The step is a hit of the breakpoint with this number: one on several places of data is hit once by a step,
-- however many of them it changes.
abbrev pub is_hit : List ConditionalBreakpoint → ℕ → Board → Board → Bool
is_hit points id was b = list_any (λ p. p.id == id && is_hit_by was b p) points

abbrev pub counted_if : Bool → ConditionalBreakpoint → ConditionalBreakpoint
counted_if is_one p = if is_one then record p { hits = once_more p.hits } else p

-- the breakpoints with the hits of this step
abbrev pub after_hits : List ConditionalBreakpoint → Board → Board → List ConditionalBreakpoint
after_hits points was b = map (λ p. counted_if (is_hit points p.id was b) p) points

-- those after a slice of k steps, of which only the last one may be a hit
abbrev pub points_after : List ConditionalBreakpoint → ℕ → Board → List ConditionalBreakpoint
points_after points k b =
    if nat_lt 0 k then after_hits points (after_steps (k - 1) b) (after_steps k b) else points

-- the breakpoints with no hits yet
abbrev pub without_count : ConditionalBreakpoint → ConditionalBreakpoint
without_count p = record p { hits = none_yet p.hits }

abbrev pub without_hits : List ConditionalBreakpoint → List ConditionalBreakpoint
without_hits points = map without_count points

-- ---- counts that are kept

-- what the breakpoint with this number has counted, if it counts hits
abbrev pub hits_of : ℕ → List ConditionalBreakpoint → Option Hits
hits_of id [] = None
hits_of id (p ∷ ps) = if p.id == id then p.hits else hits_of id ps

-- the count of the first in place of that of the second
abbrev pub with_count : Option Hits → Option Hits → Option Hits
with_count (Some was) (Some h) = Some (record h { count = was.count })
with_count was h = h

-- the breakpoint is one of the list with this number
abbrev pub is_of_list : ℕ → ℕ → Bool
is_of_list number id = nat_lt (256 * number) id && nat_le id (256 * number + 256)

-- Those of the list with this number were set, and begin to count. The others count on as the old ones with
-- their numbers.
abbrev pub hits_on : ℕ → List ConditionalBreakpoint → ConditionalBreakpoint → Option Hits
hits_on number old p = if is_of_list number p.id then p.hits else with_count (hits_of p.id old) p.hits

abbrev pub counting_on : ℕ → List ConditionalBreakpoint → ConditionalBreakpoint → ConditionalBreakpoint
counting_on number old p = record p { hits = hits_on number old p }

abbrev pub with_counts : ℕ → List ConditionalBreakpoint → List ConditionalBreakpoint
    → List ConditionalBreakpoint
with_counts number old new = map (counting_on number old) new

-- ---- for laws

-- those after each of k steps
abbrev pub after_each_step : List ConditionalBreakpoint → ℕ → Board → List ConditionalBreakpoint
after_each_step points zero b = points
after_each_step points (suc k) b =
    after_hits (after_each_step points k b) (after_steps k b) (after_steps (suc k) b)
