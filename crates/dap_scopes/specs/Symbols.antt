-- The symbols that have a part in their names, a line for each.
use Rattle.std.specs.Prelude.{ℕ, List, [], ◌∷◌, ◌++◌, map, take, Bool, ◌||◌, codes}
use Rattle.std.specs.List.{filter, join_with_byte}
use Rattle.base_text.specs.Bytes.{Text}
use Rattle.asm_syntax.specs.Numerals.{word_text}
use Rattle.asm_build.specs.declared.symbols.Symbol.{Symbol}
use Rattle.asm_build.specs.Reading.{Entries}
use Rattle.lab_core.specs.Board.{Board}
use Rattle.dap_scopes.specs.Completions.{begins_with}

abbrev pub line_feed : ℕ
line_feed = 10

-- a name has a part if the name, or one of its ends, begins with it, in either case of letters
abbrev pub has_part : Text → Text → Bool
has_part [] part = begins_with [] part
has_part (c ∷ cs) part = begins_with (c ∷ cs) part || has_part cs part

-- the first 256 symbols whose names have the part, in order of definition
abbrev pub entries_with : Entries → Text → Entries
entries_with symbols part = take 256 (filter (λ e. has_part e.0 part) symbols)

-- a name and its value
abbrev pub symbol_line : List ℕ × Symbol → Text
symbol_line e = e.0 ++ codes " " ++ word_text e.1.value

abbrev pub lines_with : Entries → Text → List Text
lines_with symbols part = map symbol_line (entries_with symbols part)

-- lines with a line feed between each two
abbrev pub joined_lines : List Text → Text
joined_lines lines = join_with_byte line_feed lines

abbrev pub text_with : Entries → Text → Text
text_with symbols part = joined_lines (lines_with symbols part)

-- the text of the board's symbols whose names have the part
abbrev pub symbols_with : Board → Text → Text
symbols_with b part = text_with b.symbols part
