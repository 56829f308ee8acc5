-- The lines of labels.
use Rattle.std.specs.Prelude.{ℕ, ◌^◌, map, Option, Some, None, Bool, true, false, ◌&&◌, nat_lt}
use Rattle.std.specs.Prelude.{option_and_then, if◌then◌else◌}
use Rattle.std.specs.Char.{to_ascii_uppercase}
use Rattle.base_text.specs.Bytes.{Text}
use Rattle.asm_build.specs.declared.symbols.SymbolKind.{SymbolKind}
use Rattle.asm_build.specs.declared.symbols.SymbolKind.TheVariants as kind
use Rattle.asm_build.specs.declared.symbols.Symbol.{Symbol}
use Rattle.asm_build.specs.Reading.{symbol_at}
use Rattle.lab_image.specs.declared.origin.Origin.{Origin}
use Rattle.lab_image.specs.Loads.{origin_of}
use Rattle.lab_core.specs.Board.{Board}
use Rattle.dap_disassembly.specs.declared.label.SourceLine.{SourceLine}

-- a name of an EQU or a SET is no label
abbrev pub is_label : SymbolKind → Bool
is_label kind.Label = true
is_label kind.Equ = false
is_label kind.Set = false

abbrev pub value_of_label : Symbol → Option ℕ
value_of_label d = if is_label d.kind then Some d.value else None

-- the value of the label of a name, which is kept in upper case
abbrev pub label_value : Board → Text → Option ℕ
label_value b name = option_and_then value_of_label (symbol_at b.symbols (map to_ascii_uppercase name))

-- the line of the statement that begins here, if it fits a breakpoint's line
abbrev pub line_begun : Option Origin → Option SourceLine
line_begun None = None
line_begun (Some o) =
    if o.is_first && nat_lt o.line (2 ^ 32) then Some (record { source = o.source; line = o.line }) else None

-- the line of the statement that begins at the value of a label
abbrev pub line_of_label : Board → Text → Option SourceLine
line_of_label b name = option_and_then (λ address. line_begun (origin_of b.loads address))
    (label_value b name)
