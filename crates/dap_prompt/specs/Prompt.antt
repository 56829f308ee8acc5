-- Lines of the debugger's prompt.
use Rattle.std.specs.Prelude.{ℕ, ◌++◌, take, drop, length, Option, Some, None, Result, Ok, Err, codes}
use Rattle.std.specs.Prelude.{if◌then◌else◌}
use Rattle.std.specs.Str.{trim, bytes_eq}
use Rattle.base_text.specs.Bytes.{Text}
use Rattle.lab_shown.specs.declared.place.Place.TheVariants.{A}
use Rattle.lab_views.specs.declared.poke_fault.PokeFault.{PokeFault}
use Rattle.lab_views.specs.Values.{value_spelled}
use Rattle.dap_requests.specs.declared.request.BoardCommand.{BoardCommand}
use Rattle.dap_requests.specs.declared.request.BoardCommand.TheVariants as command
use Rattle.dap_prompt.specs.declared.prompt.PromptCommand.{PromptCommand}
use Rattle.dap_prompt.specs.declared.prompt.PromptCommand.TheVariants as prompt

-- what stands behind this beginning of a text, if the text begins so
abbrev pub behind : Text → Text → Option Text
behind beginning text =
    if bytes_eq (take (length beginning) text) beginning then Some (drop (length beginning) text) else None

abbrev pub value_in : Result ℕ PokeFault → Option ℕ
value_in (Ok value) = Some value
value_in (Err fault) = None

-- a number from 0 to 255, as the assembler reads it
abbrev pub byte_spelled : Text → Option ℕ
byte_spelled text = value_in (value_spelled A (trim text))

abbrev pub byte_command : (ℕ → BoardCommand) → Option ℕ → PromptCommand
byte_command to_command (Some value) = prompt.Board (to_command value)
byte_command to_command None = prompt.MissingByte

-- `switches N`, `press N`, and `type TEXT`, which types a line
abbrev pub command_with : Option Text → Option Text → Option Text → PromptCommand
command_with (Some n) press line = byte_command (λ value. command.BoardSwitches value) (byte_spelled n)
command_with None (Some n) line = byte_command (λ vector. command.BoardPress vector) (byte_spelled n)
command_with None None (Some line) = prompt.Board (command.BoardType (line ++ codes "\n"))
command_with None None None = prompt.Evaluate

abbrev pub prompt_command : Text → PromptCommand
prompt_command text =
    command_with (behind (codes "switches ") text) (behind (codes "press ") text)
    (behind (codes "type ") text)
