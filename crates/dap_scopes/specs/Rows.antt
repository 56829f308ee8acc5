-- The rows of the board's own views as an editor shows them: each with an expression that has its value, and
-- the address at which a memory window on it begins (Debug Adapter Protocol, "Variable").
use Rattle.std.specs.Prelude.{ℕ, ◌+◌, ◌-◌, ◌*◌, List, [], ◌∷◌, ◌++◌, map, Option, Some, None, codes}
use Rattle.std.specs.Prelude.{length, min}
use Rattle.std.specs.List.{range_with_len}
use Rattle.std.specs.Fmt.{decimal}
use Rattle.base_text.specs.Bytes.{Text}
use Rattle.base_text.specs.Hexadecimal.{upper_word}
use Rattle.i80_base.specs.FlagValues.{flag_byte}
use Rattle.i80_exec.specs.State.{MachineState, byte_at}
use Rattle.i80_exec.specs.declared.registers.Registers.{Registers}
use Rattle.i80_devs.specs.Past.{PanelState}
use Rattle.asm_syntax.specs.Numerals.{word_text}
use Rattle.asm_build.specs.declared.symbols.Symbol.{Symbol}
use Rattle.lab_views.specs.Variables.{bit_text, interrupts_text, latched_text}
use Rattle.dap_messages.specs.declared.message.EditorVariable.{EditorVariable}
use Rattle.dap_messages.specs.declared.message.ValueFormat.{ValueFormat}
use Rattle.dap_values.specs.Format.{byte_shown, word_shown}
use Rattle.dap_scopes.specs.declared.rows.RowValue.{RowValue}
use Rattle.dap_scopes.specs.declared.rows.RowValue.TheVariants as value

-- a name and a value, which memory windows begin at, and the expression for it
abbrev pub row : Text → Text → Option ℕ → Option Text → EditorVariable
row name text memory expression = record {
  name = name;
  value = record { text = text; memory = memory };
  expression = expression;
}

-- ---- parts of the machine

abbrev pub value_text : ValueFormat → RowValue → Text
value_text format (value.Byte byte) = byte_shown format byte
value_text format (value.Word word) = word_shown format word
value_text format (value.Address word) = word_shown format word
value_text format (value.Flag flag) = bit_text flag
value_text format (value.Interrupts interrupts) = interrupts_text interrupts
value_text format (value.Lines byte) = byte_shown format byte
value_text format (value.Latched request) = latched_text request
value_text format (value.Count many) = decimal many

-- a word that may be an address has a memory window
abbrev pub window : RowValue → Option ℕ
window (value.Address word) = Some word
window _ = None

-- by the name of a part that no symbol has; no expression has the interrupt state, or what the devices have
abbrev pub expression_of : Text → RowValue → Option Text
expression_of name (value.Interrupts interrupts) = None
expression_of name (value.Lines byte) = None
expression_of name (value.Latched request) = None
expression_of name (value.Count many) = None
expression_of name _ = Some (codes "$" ++ name)

abbrev pub value_row : ValueFormat → Text → RowValue → EditorVariable
value_row format name shown = row name (value_text format shown) (window shown) (expression_of name shown)

-- The registers of the board's view, and then the pairs: the first register of a pair is its high byte, and
-- the PSW is A and the flag byte.
abbrev pub register_rows : ValueFormat → Registers → List EditorVariable
register_rows format r =
    value_row format (codes "A") (value.Byte r.a)
    ∷ value_row format (codes "B") (value.Byte r.b)
    ∷ value_row format (codes "C") (value.Byte r.c)
    ∷ value_row format (codes "D") (value.Byte r.d)
    ∷ value_row format (codes "E") (value.Byte r.e)
    ∷ value_row format (codes "H") (value.Byte r.h)
    ∷ value_row format (codes "L") (value.Byte r.l)
    ∷ value_row format (codes "SP") (value.Address r.sp)
    ∷ value_row format (codes "PC") (value.Address r.pc)
    ∷ value_row format (codes "BC") (value.Address (256 * r.b + r.c))
    ∷ value_row format (codes "DE") (value.Address (256 * r.d + r.e))
    ∷ value_row format (codes "HL") (value.Address (256 * r.h + r.l))
    ∷ value_row format (codes "PSW") (value.Word (256 * r.a + flag_byte r.flags))
    ∷ []

abbrev pub flag_rows : ValueFormat → Registers → List EditorVariable
flag_rows format r =
    value_row format (codes "S") (value.Flag r.flags.s)
    ∷ value_row format (codes "Z") (value.Flag r.flags.z)
    ∷ value_row format (codes "AC") (value.Flag r.flags.ac)
    ∷ value_row format (codes "P") (value.Flag r.flags.p)
    ∷ value_row format (codes "CY") (value.Flag r.flags.cy)
    ∷ value_row format (codes "INTE") (value.Interrupts r.interrupts)
    ∷ []

abbrev pub device_rows : ValueFormat → PanelState → List EditorVariable
device_rows format d =
    value_row format (codes "switches") (value.Lines d.switches)
    ∷ value_row format (codes "lamps") (value.Lines d.lamps)
    ∷ value_row format (codes "latched") (value.Latched d.latched)
    ∷ value_row format (codes "waiting") (value.Count (length d.waiting))
    ∷ []

-- ---- symbols and memory

-- a symbol leads to what it names
abbrev pub symbol_row : ValueFormat → List ℕ × Symbol → EditorVariable
symbol_row format e = row e.0 (word_shown format e.1.value) (Some e.1.value) (Some e.0)

-- what is at an address, by what begins the expression
abbrev pub expression_at : Text → ℕ → Text
expression_at front address = front ++ word_text address ++ codes "]"

abbrev pub row_at : Text → Text → ℕ → EditorVariable
row_at front text address = row (upper_word address) text (Some address) (Some (expression_at front address))

abbrev pub memory_row : ValueFormat → MachineState → ℕ → EditorVariable
memory_row format m address = row_at (codes "[") (byte_shown format (byte_at m address)) address

-- that many bytes from an address on, but none past the last address
abbrev pub memory_rows : ValueFormat → MachineState → ℕ → ℕ → List EditorVariable
memory_rows format m start count =
    map (memory_row format m) (range_with_len start (min count (65536 - start)))
