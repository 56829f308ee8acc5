-- Where the first line of a text ends.
use Rattle.std.specs.Prelude.{ℕ, suc, ◌==◌, [], ◌∷◌, if◌then◌else◌}
use Rattle.base_text.specs.Bytes.{Text}

-- the number of bytes before the first line feed, or of all
abbrev pub line_length : Text → ℕ
line_length [] = 0
line_length (c ∷ cs) = if (c == 10) then 0 else (suc (line_length cs))
