-- Breakpoints with conditions or log messages (Debug Adapter Protocol, "SourceBreakpoint").
use Rattle.std.specs.Prelude.{◌≡◌, ℕ, List, map, filter_map, Bool, true, false, ◌&&◌, ◌==◌, not}
use Rattle.std.specs.Prelude.{Option, Some, None, is_none, Result, Ok, Err}
use Rattle.std.specs.List.{list_any}
use Rattle.asm_expr.specs.declared.evaluation.ExprFault.{ExprFault}
use Rattle.lab_image.specs.Addresses.{has}
use Rattle.lab_shown.specs.declared.place.Place.{Place}
use Rattle.lab_core.specs.declared.marks.Watch.{Watch}
use Rattle.lab_core.specs.Board.{Board}
use Rattle.lab_core.specs.Marks.{MarksState}
use Rattle.dap_expr.specs.declared.expression.Expression.{Expression}
use Rattle.dap_expr.specs.Values.{value_on}
use Rattle.dap_slice.specs.declared.conditions.ConditionalBreakpoint.{ConditionalBreakpoint}
use Rattle.dap_slice.specs.declared.conditions.Trigger.{Trigger}
use Rattle.dap_slice.specs.declared.conditions.Trigger.TheVariants as trigger
use Rattle.dap_slice.specs.Hits.{is_wanted}

-- the address is one to which PC is to come
abbrev pub is_reached : ℕ → Trigger → Bool
is_reached address (trigger.Address a) = a == address
is_reached address (trigger.Change place) = false
is_reached address (trigger.Line line) = false

abbrev pub is_there : ℕ → ConditionalBreakpoint → Bool
is_there address p = is_reached address p.trigger

-- a breakpoint is at this address
abbrev pub is_any_at : List ConditionalBreakpoint → ℕ → Bool
is_any_at points address = list_any (is_there address) points

-- A condition is true unless its value is 0. One that has no value stops the run too, so that it is seen.
abbrev pub is_true : Result ℕ ExprFault → Bool
is_true (Ok value) = not (value == 0)
is_true (Err fault) = true

abbrev pub holds_on : Board → Option Expression → Bool
holds_on b None = true
holds_on b (Some condition) = is_true (value_on b condition)

-- it is at PC, and its condition is true
abbrev pub is_met_on : Board → ConditionalBreakpoint → Bool
is_met_on b p = is_there b.machine.regs.pc p && holds_on b p.condition

-- with a hit condition it acts only at the hits that this names
abbrev pub acts_on : Board → ConditionalBreakpoint → Bool
acts_on b p = is_wanted p.hits && is_met_on b p

-- one with a log message stops nothing
abbrev pub stops_on : Board → ConditionalBreakpoint → Bool
stops_on b p = is_none p.log && acts_on b p

-- A run that goes back passes over those with hit conditions.
abbrev pub stops_back : Board → ConditionalBreakpoint → Bool
stops_back b p = is_none p.hits && stops_on b p

-- a breakpoint stops the run, while a debugger is attached
abbrev pub is_any_met : List ConditionalBreakpoint → Board → Bool
is_any_met points b = b.is_attached && list_any (stops_on b) points

-- ---- marks

abbrev pub watched_by : Trigger → Option Place
watched_by (trigger.Address address) = None
watched_by (trigger.Change place) = Some place
watched_by (trigger.Line line) = None

-- the places that these breakpoints watch, in their order
abbrev pub watched_places : List ConditionalBreakpoint → List Place
watched_places points = filter_map (λ p. watched_by p.trigger) points

-- A slice looks for it. At lines the board itself stops.
abbrev pub is_looked_for : Trigger → Bool
is_looked_for (trigger.Address address) = true
is_looked_for (trigger.Change place) = true
is_looked_for (trigger.Line line) = false

abbrev pub is_any_looked_for : List ConditionalBreakpoint → Bool
is_any_looked_for points = list_any (λ p. is_looked_for p.trigger) points

-- the marks are at these breakpoints' addresses, and the watches are of their places
pub record IsMarked (points : List ConditionalBreakpoint) (marks : MarksState) : Type 0 where
  pub addresses : (address : ℕ) → has marks.addresses address ≡ is_any_at points address
  pub watches : map (λ (w : Watch). w.place) marks.watches ≡ watched_places points
