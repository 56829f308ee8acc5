-- Hexadecimal numbers as a cell may have them (8080/8085 Assembly Language Programming Manual, chapter 2):
-- they begin with a digit and end with H.
use Rattle.std.specs.Prelude.{ℕ, List, ◌++◌, codes}
use Rattle.base_text.specs.Hexadecimal.{upper_byte, upper_word}

-- a byte as `0hhH`
abbrev pub byte_text : ℕ → List ℕ
byte_text n = codes "0" ++ upper_byte n ++ codes "H"

-- a word as `0hhhhH`
abbrev pub word_text : ℕ → List ℕ
word_text n = codes "0" ++ upper_word n ++ codes "H"
