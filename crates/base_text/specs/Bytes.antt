-- Bytes, texts and the frames of a message, as contracts see them.
use Rattle.std.specs.Prelude.{ℕ, List}

abbrev pub Bytes : Type 0
Bytes = List ℕ

-- its bytes in UTF-8
abbrev pub Text : Type 0
Text = List ℕ

abbrev pub Frames : Type 0
Frames = List Bytes
