-- The characters of a line (8080/8085 Assembly Language Programming Manual, chapter 2).
use Rattle.std.specs.Prelude.{ℕ, Bool, nat_le, ◌==◌, ◌&&◌, ◌||◌}
use Rattle.std.specs.Char.{is_ascii_alphanumeric}
use Rattle.asm_syntax.specs.Ascii.{tab, space, question_mark, at_sign, tilde}

-- a space or a tab
abbrev pub is_blank : ℕ → Bool
is_blank b = b == space || b == tab

-- letters, digits, ? and @
abbrev pub is_word_part : ℕ → Bool
is_word_part b = is_ascii_alphanumeric b || (b == question_mark || b == at_sign)

-- a space, or a visible ASCII character
abbrev pub is_printed : ℕ → Bool
is_printed b = nat_le space b && nat_le b tilde
