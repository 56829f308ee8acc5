-- The JSON of a line of disassembly (Debug Adapter Protocol, "DisassembledInstruction"). The members of an
-- object stand in the order of their keys' bytes.
use Rattle.std.specs.Prelude.{List, [], ◌∷◌, ◌++◌, Option, Some, None, codes}
use Rattle.base_text.specs.Bytes.{Text}
use Rattle.serde_json.specs.Data.{Data, string}
use Rattle.lab_shown.specs.declared.shown.CodeLine.{CodeLine}
use Rattle.dap_answers.specs.Json.{object_of, whole_number, reference, spaced_bytes}
use Rattle.dap_messages.specs.declared.message.Numbering.{Numbering}
use Rattle.dap_messages.specs.declared.message.InstructionLine.{InstructionLine}
use Rattle.dap_messages.specs.declared.message.EditorInstruction.{EditorInstruction}
use Rattle.dap_messages.specs.Numbering.{line_told}
use Rattle.dap_json.specs.Sources.{source_json}

-- the members of every line
abbrev pub code_members : CodeLine → List (Text × Data)
code_members c =
    (codes "address", string (reference c.address)) ∷
    (codes "instruction", string c.text) ∷
    (codes "instructionBytes", string (spaced_bytes c.bytes)) ∷ []

-- where it comes from, if that is known
abbrev pub origin_members : Numbering → Option InstructionLine → List (Text × Data)
origin_members numbering None = []
origin_members numbering (Some origin) =
    (codes "line", whole_number (line_told numbering origin.line)) ∷
    (codes "location", source_json origin.path) ∷ []

-- the label at its address, if there is one
abbrev pub symbol_members : Option Text → List (Text × Data)
symbol_members None = []
symbol_members (Some symbol) = (codes "symbol", string symbol) ∷ []

abbrev pub instruction_json : Numbering → EditorInstruction → Data
instruction_json numbering i = object_of (
    code_members i.code ++ (origin_members numbering i.origin ++ symbol_members i.symbol))
