-- Strings: characters between single quotes, where a quote in the string is doubled (8080/8085
-- Assembly Language Programming Manual, chapter 2).
use Rattle.std.specs.Prelude.{ℕ, ◌+◌, List, [], ◌∷◌, length, Option, Some, None}
use Rattle.std.specs.Prelude.{Bool, if◌then◌else◌, nat_lt, nat_le, ◌==◌, ◌&&◌}
use Rattle.std.specs.List.{list_all}
use Rattle.asm_syntax.specs.Ascii.{quote}
use Rattle.asm_syntax.specs.Lexemes.{characters_of}
use Rattle.asm_lex.specs.Characters.{is_printed}

-- a place counted from so many characters before
abbrev pub moved_by : ℕ → Option ℕ → Option ℕ
moved_by n None = None
moved_by n (Some m) = Some (n + m)

-- where the closing quote stands after an opening one: it is the first that isn't doubled
abbrev pub closing_quote : List ℕ → Option ℕ
closing_quote [] = None
closing_quote (b ∷ []) = if b == quote then Some 0 else None
closing_quote (b ∷ c ∷ rest) =
    if b == quote then (if c == quote then moved_by 2 (closing_quote rest) else Some 0)
    else moved_by 1 (closing_quote (c ∷ rest))

-- what may stand between a string's quotes: from 1 to 128 characters, a doubled quote as one
abbrev pub is_text : List ℕ → Bool
is_text t =
    let count = length (characters_of t)
    in list_all is_printed t && (nat_lt 0 count && nat_le count 128)
