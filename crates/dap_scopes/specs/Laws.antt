-- What the rows that an editor shows have to do with the board's views, with addresses and with formats.
use Rattle.std.specs.Prelude.{◌≡◌, ◌<◌, ◌+◌, ℕ, List, [], Some, Result, length, map, slice_get, take}
use Rattle.std.specs.Result.{result_map_both}
use Rattle.base_text.specs.Hexadecimal.{word_spelled}
use Rattle.lab_shown.specs.declared.shown.Variable.{Variable}
use Rattle.lab_views.specs.Variables.{variable}
use Rattle.lab_core.specs.declared.fault.EventFault.{EventFault}
use Rattle.lab_core.specs.Board.{Board}
use Rattle.dap_messages.specs.declared.message.EditorVariable.{EditorVariable}
use Rattle.dap_messages.specs.declared.message.ValueFormat.{ValueFormat}
use Rattle.dap_scopes.specs.Rows.{row}
use Rattle.dap_scopes.specs.Stack.{stack_address, word_row}

-- a row as the board's view has it: its name, and its value as text
abbrev pub view_row : EditorVariable → Variable
view_row v = variable v.name v.value.text

-- the rows of a view come first, and no other rows are among them
abbrev pub ShowsView : List Variable → List EditorVariable → Type 0
ShowsView rows all = take (length rows) (map view_row all) ≡ rows

-- these are rows of words one after another, from this index on
abbrev pub AreWordsFrom : ℕ → ValueFormat → Board → List EditorVariable → Type 0
AreWordsFrom start format b rows = (i : ℕ) → i < length rows
    → slice_get rows i ≡ Some (word_row format b (stack_address b.machine.regs.sp (start + i)))

-- a memory window on the value begins at the address that is the row's name
abbrev pub LeadsToNamed : EditorVariable → Type 0
LeadsToNamed v = word_spelled v.name ≡ v.value.memory

-- a row without the text of its value
abbrev pub without_text : EditorVariable → EditorVariable
without_text v = row v.name [] v.value.memory v.expression

-- rows without the texts of their values, or the fault
abbrev pub without_texts : Result (List EditorVariable) EventFault → Result (List EditorVariable) EventFault
without_texts shown = result_map_both (map without_text) (λ fault. fault) shown
