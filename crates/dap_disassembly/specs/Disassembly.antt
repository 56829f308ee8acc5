-- Lines of code as an editor shows them (Debug Adapter Protocol, "DisassembledInstruction").
use Rattle.std.specs.Prelude.{⊤, ◌≡◌, ℕ, ◌+◌, ◌-◌, ◌*◌, List, [], ◌∷◌, ◌++◌, length, map, take, Contains}
use Rattle.std.specs.Prelude.{Option, Some, None}
use Rattle.base_text.specs.Bytes.{Bytes, Text}
use Rattle.asm_syntax.specs.Numerals.{word_text}
use Rattle.asm_build.specs.declared.symbols.Symbol.{Symbol}
use Rattle.asm_build.specs.declared.symbols.SymbolKind.TheVariants.{Label}
use Rattle.asm_build.specs.Reading.{Entries}
use Rattle.lab_image.specs.declared.origin.Origin.{Origin}
use Rattle.lab_image.specs.Loads.{origin_of}
use Rattle.lab_shown.specs.declared.shown.CodeLine.{CodeLine}
use Rattle.lab_views.specs.Code.{lines_from}
use Rattle.lab_views.specs.Frames.{label_of}
use Rattle.lab_core.specs.Board.{Board}
use Rattle.dap_messages.specs.declared.message.EditorInstruction.{EditorInstruction}
use Rattle.dap_messages.specs.declared.message.InstructionLine.{InstructionLine}
use Rattle.dap_messages.specs.declared.message.OperandStyle.{OperandStyle}
use Rattle.dap_messages.specs.declared.message.OperandStyle.TheVariants.{Numbers, Labels}

-- ---- operands

-- an instruction of three bytes has a word in the last two, low byte first
abbrev pub operand_of : Bytes → Option ℕ
operand_of (opcode ∷ (low ∷ (high ∷ []))) = Some (low + 256 * high)
operand_of _ = None

-- a text ends with an operand, if there is one, as the assembler writes it
abbrev pub EndsWith : Option ℕ → Text → Type 0
EndsWith None text = ⊤
EndsWith (Some word) text = (front : Text) × (text ≡ front ++ word_text word)

-- a text that ends with a word, with a name for it
abbrev pub with_name : Text → ℕ → Option Text → Text
with_name text word None = text
with_name text word (Some name) = take (length text - length (word_text word)) text ++ name

-- a text that ends with an operand, with the label for it that has its value
abbrev pub with_label : Entries → Option ℕ → Text → Text
with_label symbols None text = text
with_label symbols (Some word) text = with_name text word (label_of symbols word)

-- the text of these bytes with its operand in a style
abbrev pub operand_shown : OperandStyle → Entries → Bytes → Text → Text
operand_shown Numbers symbols bytes text = text
operand_shown Labels symbols bytes text = with_label symbols (operand_of bytes) text

-- ---- lines

-- the line that a byte was loaded from, of the text with this path
abbrev pub line_in : Text → Option Origin → Option InstructionLine
line_in path None = None
line_in path (Some o) = Some (record { path = path; line = o.line })

abbrev pub code_shown : Board → OperandStyle → CodeLine → CodeLine
code_shown b operands line = record line { text = operand_shown operands b.symbols line.bytes line.text }

abbrev pub line_shown : Board → Text → OperandStyle → CodeLine → EditorInstruction
line_shown b path operands line = record {
  code = code_shown b operands line;
  symbol = label_of b.symbols line.address;
  origin = line_in path (origin_of b.loads line.address);
}

-- that many lines from an address on, of a program whose text has this path
abbrev pub instructions_from : Board → Text → OperandStyle → ℕ → ℕ → List EditorInstruction
instructions_from b path operands address count =
    map (line_shown b path operands) (lines_from b.machine address count)

-- ---- what a label in a text says

abbrev pub label_text : Entries → CodeLine → Text
label_text symbols line = operand_shown Labels symbols line.bytes line.text

-- the text is the line's with a label's name for the operand, which is the label's value
pub record NamesOperand (symbols : Entries) (line : CodeLine) (text : Text) : Type 0 where
  pub front : Text
  pub name : Text
  pub label : Symbol
  pub plain : line.text ≡ front ++ word_text label.value
  pub named : text ≡ front ++ name
  pub operand : operand_of line.bytes ≡ Some label.value
  pub defined : Contains symbols (name, label)
  pub kind : label.kind ≡ Label
