-- The scopes of an editor: the board's own by their references, and the stack.
use Rattle.std.specs.Prelude.{ℕ, ◌==◌, List, length, map, min, Option, Some, None, Result, Ok, Err}
use Rattle.std.specs.Prelude.{if◌then◌else◌}
use Rattle.i80_devs.specs.Past.{panel_after}
use Rattle.lab_shown.specs.declared.scope.Scope.{Scope}
use Rattle.lab_shown.specs.declared.scope.Scope.TheVariants as scope
use Rattle.lab_shown.specs.Scopes.{scope_with}
use Rattle.lab_views.specs.Paging.{asked_for, page}
use Rattle.lab_core.specs.declared.fault.EventFault.{EventFault}
use Rattle.lab_core.specs.declared.fault.EventFault.TheVariants.{BadReference}
use Rattle.lab_core.specs.Board.{Board}
use Rattle.dap_messages.specs.declared.message.EditorVariable.{EditorVariable}
use Rattle.dap_messages.specs.declared.message.ValueFormat.{ValueFormat}
use Rattle.dap_scopes.specs.declared.scopes.ScopeSizes.{ScopeSizes}
use Rattle.dap_scopes.specs.Rows.{register_rows, flag_rows, device_rows, symbol_row, memory_rows}
use Rattle.dap_scopes.specs.Stack.{stack_rows, stack_words}

abbrev pub rows_in : Scope → Board → ℕ → ℕ → ValueFormat → List EditorVariable
rows_in scope.Registers b start count format = register_rows format b.machine.regs
rows_in scope.Flags b start count format = flag_rows format b.machine.regs
rows_in scope.Devices b start count format = device_rows format (panel_after b.past)
rows_in scope.Symbols b start count format =
    map (symbol_row format) (page start (asked_for 256 256 count) b.symbols)
rows_in scope.Memory b start count format = memory_rows format b.machine start (asked_for 16 256 count)

abbrev pub rows_or_fault : Option Scope → Board → ℕ → ℕ → ValueFormat
    → Result (List EditorVariable) EventFault
rows_or_fault None b start count format = Err BadReference
rows_or_fault (Some scope) b start count format = Ok (rows_in scope b start count format)

-- the reference of the stack
abbrev pub stack_reference : ℕ
stack_reference = 6

-- the rows of a scope, with numbers in a format
abbrev pub variables_on : Board → ℕ → ℕ → ℕ → ValueFormat → Result (List EditorVariable) EventFault
variables_on b reference start count format =
    if reference == stack_reference
    then Ok (stack_rows format b start (asked_for 16 256 count))
    else rows_or_fault (scope_with reference) b start count format

-- how many symbols there are, up to what a message can say, and how many words on the stack
abbrev pub sizes_on : Board → ScopeSizes
sizes_on b = record { symbols = min (length b.symbols) 4294967295; words = stack_words b.machine.regs.sp }
