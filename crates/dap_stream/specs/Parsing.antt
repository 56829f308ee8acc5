-- What a line of a header is read as, part by part.
use Rattle.std.specs.Prelude.{ℕ, ◌==◌, if◌then◌else◌, Option, Some, None, Result, Ok, Err, [], ◌∷◌}
use Rattle.dap_stream.specs.Wire.{Bytes}
use Rattle.dap_stream.specs.Header.{is_length_name}
use Rattle.dap_stream.specs.Lengths.{value_from}
use Rattle.dap_stream.specs.declared.fault.StreamFault.{StreamFault}
use Rattle.dap_stream.specs.declared.fault.StreamFault.TheVariants as fault
use Rattle.dap_stream.specs.declared.line.Line.{Line}
use Rattle.dap_stream.specs.declared.line.Line.TheVariants as line

-- the beginning of a line; a field's line or the empty one, with the bytes after it and the body's size; or
-- a fault
pub data Parse : Type 0 where
  Partial : Parse
  Field : Bytes → Option ℕ → Parse
  Last : Bytes → ℕ → Parse
  Broken : StreamFault → Parse

abbrev pub parse_of : Line → Parse
parse_of line.Begun = Partial
parse_of (line.Field others size) = Field others.now size
parse_of (line.End others size) = Last others.now size
parse_of (line.Broken c) = Broken c

-- what follows the first byte of the empty line
abbrev pub empty_line : Option ℕ → Bytes → Parse
empty_line None bytes = Broken fault.NoLength
empty_line (Some size) [] = Partial
empty_line (Some size) (byte ∷ others) = if byte == 10 then Last others size else Broken fault.HeaderLine

-- a line that begins with a byte that is none of a name's
abbrev pub nameless : Option ℕ → ℕ → Bytes → Parse
nameless size byte bytes = if byte == 13 then empty_line size bytes else Broken fault.HeaderLine

-- what follows the carriage return of a field's line
abbrev pub line_feed : Option ℕ → Bytes → Parse
line_feed size [] = Partial
line_feed size (byte ∷ others) = if byte == 10 then Field others size else Broken fault.HeaderLine

-- what follows a field's value
abbrev pub after_value : Option ℕ → Bytes → Parse
after_value size [] = Partial
after_value size (byte ∷ others) = if byte == 13 then line_feed size others else Broken fault.HeaderLine

-- what follows the blanks of a Content-Length that has no digit
abbrev pub after_blanks : Bytes → Parse
after_blanks [] = Partial
after_blanks (byte ∷ others) = if byte == 13 then Broken fault.LengthValue else Broken fault.HeaderLine

-- what follows the value of a Content-Length, which says this
abbrev pub after_length : Result (Option ℕ) StreamFault → Bytes → Parse
after_length (Err c) others = Broken c
after_length (Ok None) others = after_blanks others
after_length (Ok (Some size)) others = after_value (Some size) others

-- a Content-Length of this value
abbrev pub length_field : Option ℕ → Bytes → Bytes → Parse
length_field (Some size) value others = Broken fault.SecondLength
length_field None value others = after_length (value_from 0 0 value) others

-- a field of this name and value
abbrev pub field : Option ℕ → Bytes → Bytes → Bytes → Parse
field size name value others =
    if is_length_name name then length_field size value others else after_value size others
