-- What is kept of a text while it is read, and what is known of it at its end.
use Rattle.std.specs.Prelude.{◌≡◌, ℕ, ◌+◌, ◌<◌, ◌≤◌, List, [], ◌++◌, Bool, true, false, Option, Some, None}
use Rattle.std.specs.Prelude.{Result, Ok, Err, nat_lt, length, take, drop, IsUtf8, String, string_bytes}
use Rattle.std.specs.Global.{Global}
use Rattle.std.specs.Str.{is_utf8}
use Rattle.cli_io.specs.declared.text_input.TextFault.{TextFault}
use Rattle.cli_io.specs.declared.text_input.TextFault.TheVariants as fault

-- the bytes that are kept, how many there may be, and whether there were more
pub record TextState : Type 0 where
  pub kept : List ℕ
  pub limit : ℕ
  pub is_long : Bool

-- the text is whole characters and then these bytes, which are no whole characters
pub record IsCut (kept text : List ℕ) : Type 0 where
  pub front : List ℕ
  pub whole : IsUtf8 front
  pub text_is : text ≡ front ++ kept
  pub alone : IsUtf8 kept → kept ≡ []

-- whether the text so far has more bytes than the limit, and what is kept of it
pub record HasReadText (t : TextState) (text : List ℕ) : Type 0 where
  pub long : t.is_long ≡ nat_lt t.limit (length text)
  pub keeps : t.is_long ≡ false → t.kept ≡ text
  pub cuts : t.is_long ≡ true → IsCut t.kept text

-- whatever text the old one represents, the new one represents it and this piece
abbrev pub TakesPiece : List ℕ → TextState → TextState → Type 0
TakesPiece piece old new = (text : List ℕ) → HasReadText old text → HasReadText new (text ++ piece)

-- whatever follows, it isn't UTF-8
abbrev pub NeverText : List ℕ → Type 0
NeverText bytes = (more : List ℕ) → is_utf8 (bytes ++ more) ≡ false

-- after the text so far this piece makes what can't be UTF-8
abbrev pub IsBad : List ℕ → TextState → Type 0
IsBad piece old = (text : List ℕ) → HasReadText old text → NeverText (text ++ piece)

-- so many bytes at the front are whole characters, and the others, at most three, are no whole characters
pub record Splits (bytes : List ℕ) (n : ℕ) : Type 0 where
  pub within : n ≤ length bytes
  pub few : length bytes < n + 4
  pub whole : IsUtf8 (take n bytes)
  pub alone : IsUtf8 (drop n bytes) → drop n bytes ≡ []

-- only what follows some whole characters was kept
abbrev pub Cuts : TextState → TextState → Type 0
Cuts old new = (n : ℕ) × Splits old.kept n × (new ≡ record old { kept = drop n old.kept })

-- no more bytes are kept than the limit allows, and past it no more than three
abbrev pub KeepsFew : TextState → Type 0
KeepsFew t = (t.is_long ≡ false → length t.kept ≤ t.limit) × (t.is_long ≡ true → length t.kept ≤ 3)

-- the bytes as a text, or that they aren't UTF-8
abbrev pub IsDecoded : Result (Option (String Global)) TextFault → List ℕ → Type 0
IsDecoded (Ok (Some text)) bytes = (is_utf8 bytes ≡ true) × (string_bytes text ≡ bytes)
IsDecoded (Err fault.BadText) bytes = is_utf8 bytes ≡ false
IsDecoded _ bytes = ⊥

-- the input as a text, or that it is longer than the limit allows, or that it isn't UTF-8
abbrev pub IsText : ℕ → Result (Option (String Global)) TextFault → List ℕ → Type 0
IsText limit (Ok (Some text)) input = (is_utf8 input ≡ true) × (string_bytes text ≡ input)
IsText limit (Ok None) input = (is_utf8 input ≡ true) × (limit < length input)
IsText limit (Err fault.BadText) input = is_utf8 input ≡ false
IsText limit (Err fault.OutOfMemory) input = Unit {0}
IsText limit (Err fault.Read) input = Unit {0}

-- what is kept of an input that was read to its end, or that it isn't UTF-8
abbrev pub IsTextReading : Result TextState TextFault → List ℕ → Type 0
IsTextReading (Ok t) input = HasReadText t input
IsTextReading (Err fault.BadText) input = is_utf8 input ≡ false
IsTextReading (Err fault.OutOfMemory) input = Unit {0}
IsTextReading (Err fault.Read) input = Unit {0}
