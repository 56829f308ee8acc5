-- Breakpoints at instructions, as an editor is told of them, and the addresses where they stop a run (Debug
-- Adapter Protocol, "InstructionBreakpoint").
use Rattle.std.specs.Prelude.{ℕ, List, map, Option, Some, None, if◌then◌else◌}
use Rattle.std.specs.List.{filter_map}
use Rattle.lab_core.specs.Board.{Board}
use Rattle.dap_slice.specs.declared.conditions.ConditionalBreakpoint.{ConditionalBreakpoint}
use Rattle.dap_slice.specs.declared.conditions.Trigger.TheVariants.{Address}
use Rattle.dap_messages.specs.declared.message.BreakpointNote.{BreakpointNote}
use Rattle.dap_messages.specs.declared.message.BreakpointNote.TheVariants.{NoAddress}
use Rattle.dap_messages.specs.declared.message.PlacedBreakpoint.{PlacedBreakpoint}
use Rattle.dap_requests.specs.declared.request.InstructionBreakpoint.{InstructionBreakpoint}
use Rattle.dap_points.specs.declared.placed.CheckedInstruction.{CheckedInstruction}
use Rattle.dap_points.specs.Placed as placed
use Rattle.dap_conditions.specs.Conditions.{objection, stop_by}

-- ---- what there is to object to one

-- if there is such an address, its options decide
abbrev pub address_objection : Board → InstructionBreakpoint → Option ℕ → Option BreakpointNote
address_objection b i None = Some NoAddress
address_objection b i (Some address) = objection b i.options i.has_texts

abbrev pub instruction_objection : Board → InstructionBreakpoint → Option BreakpointNote
instruction_objection b i = address_objection b i i.address

-- ---- as an editor is told of them

abbrev pub checked_instruction : Board → InstructionBreakpoint → CheckedInstruction
checked_instruction b i =
    record { address = i.address; options = i.options; objection = instruction_objection b i }

abbrev pub instructions_on : Board → List InstructionBreakpoint → List PlacedBreakpoint
instructions_on b asked = placed.instruction_points 0 (map (checked_instruction b) asked)

-- ---- where they stop a run

-- before the instruction at the address
abbrev pub break_at : PlacedBreakpoint → Option ℕ → Option ConditionalBreakpoint
break_at p None = None
break_at p (Some address) = stop_by p.id (Address address) p.options

-- if an editor is told that the breakpoint is verified
abbrev pub break_of : PlacedBreakpoint → Option ConditionalBreakpoint
break_of p = if p.is_verified then break_at p p.address else None

abbrev pub breaks_on : Board → List InstructionBreakpoint → List ConditionalBreakpoint
breaks_on b asked = filter_map break_of (instructions_on b asked)
