-- The numbers of the breakpoints at which a run is stopped (Debug Adapter Protocol, "Stopped Event":
-- `hitBreakpointIds`).
use Rattle.std.specs.Prelude.{◌≡◌, ◌≤◌, ℕ, List, [], ◌∷◌, ◌++◌, length, Bool, true, false, ◌&&◌, ◌||◌}
use Rattle.std.specs.Prelude.{◌==◌, Option, Some, None, is_none, if◌then◌else◌}
use Rattle.std.specs.List.{Contains, fold, list_any}
use Rattle.lab_image.specs.declared.origin.Origin.{Origin}
use Rattle.lab_image.specs.Loads.{origin_of}
use Rattle.lab_core.specs.declared.answer.SliceOutcome.{SliceOutcome}
use Rattle.lab_core.specs.declared.answer.SliceOutcome.TheVariants as outcome
use Rattle.lab_core.specs.Board.{Board}
use Rattle.dap_slice.specs.declared.conditions.ConditionalBreakpoint.{ConditionalBreakpoint}
use Rattle.dap_slice.specs.declared.conditions.Trigger.{Trigger}
use Rattle.dap_slice.specs.declared.conditions.Trigger.TheVariants as trigger
use Rattle.dap_slice.specs.Hits.{is_wanted}
use Rattle.dap_slice.specs.Conditions.{holds_on, stops_back}
use Rattle.dap_slice.specs.Counts.{is_come_to}

-- ---- which ones stop it

-- the statement of a byte is on this line, and begins with the byte
abbrev pub begins_in : ℕ → Option Origin → Bool
begins_in line None = false
begins_in line (Some o) = o.is_first && o.line == line

-- A statement on this line begins at PC. A debugger's board has one text, so the line says enough.
abbrev pub begins_on : Board → ℕ → Bool
begins_on b line = begins_in line (origin_of b.loads b.machine.regs.pc)

-- the board's own breakpoint on a line is at PC
abbrev pub is_on_line : Board → Trigger → Bool
is_on_line b (trigger.Line line) = begins_on b line
is_on_line b other = false

-- the step from the first board to the second leads to the breakpoint
abbrev pub leads_to : Board → Board → Trigger → Bool
leads_to was b t = is_come_to was b t || is_on_line b t

-- and it stops the run there, at a hit that it names
abbrev pub stops_behind : Board → Board → ConditionalBreakpoint → Bool
stops_behind was b p =
    leads_to was b p.trigger && (is_none p.log && (is_wanted p.hits && holds_on b p.condition))

-- one stops a run that goes back, or the board's own does
abbrev pub stops_going_back : Board → ConditionalBreakpoint → Bool
stops_going_back b p = is_on_line b p.trigger || stops_back b p

-- ---- their numbers

-- each number once: breakpoints for the places of one data breakpoint have the same
abbrev pub with_id : List ℕ → ℕ → List ℕ
with_id ids id = if list_any (λ i. i == id) ids then ids else ids ++ id ∷ []

abbrev pub with_id_if : (ConditionalBreakpoint → Bool) → List ℕ → ConditionalBreakpoint → List ℕ
with_id_if test ids p = if test p then with_id ids p.id else ids

-- those of the breakpoints that pass the test, in their order
abbrev pub ids_by : (ConditionalBreakpoint → Bool) → List ConditionalBreakpoint → List ℕ
ids_by test points = fold (with_id_if test) [] points

-- those that stop a run behind the step from the first board to the second
abbrev pub stop_ids : List ConditionalBreakpoint → Board → Board → List ℕ
stop_ids points was b = ids_by (stops_behind was b) points

-- those that stop a run that goes back to this board
abbrev pub back_ids : List ConditionalBreakpoint → Board → List ℕ
back_ids points b = ids_by (stops_going_back b) points

-- A run that is stopped is told of them, whatever else stopped it there.
abbrev pub ids_told : List ConditionalBreakpoint → Board → Board → SliceOutcome → List ℕ
ids_told points was b (outcome.Stop reason) = stop_ids points was b
ids_told points was b ending = []

-- ---- what is allocated before a slice

-- no number yet, and room for those of all these breakpoints
pub record IsRoomFor (points : List ConditionalBreakpoint) (ids : List ℕ) (capacity : ℕ) : Type 0 where
  pub none : ids ≡ []
  pub room : length points ≤ capacity

-- ---- for laws

-- the number is that of a breakpoint that stops a run behind the step
abbrev pub StopsBehind : List ConditionalBreakpoint → Board → Board → ℕ → Type 0
StopsBehind points was b id = (p : ConditionalBreakpoint) × Contains points p × (stops_behind was b p ≡ true)
    × (p.id ≡ id)
