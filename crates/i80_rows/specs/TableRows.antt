-- What a row of the code's table stands for in the table of 256 rows.
use Rattle.i80_rows.specs.declared.decoding.rows.Row.{Row as Held}
use Rattle.i80_rows.specs.declared.decoding.rows.Row.TheVariants as held
use Rattle.i80_base.specs.Instructions.{byte_instruction, word_instruction}
use Rattle.i80_base.specs.Rows.{Row, Undefined, Alone, Byte, Word}

abbrev pub row_of : Held → Row
row_of held.Undefined = Undefined
row_of (held.Alone i) = Alone i
row_of (held.Byte operation) = Byte (byte_instruction operation)
row_of (held.Word operation) = Word (word_instruction operation)
