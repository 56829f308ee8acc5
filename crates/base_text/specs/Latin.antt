-- Text of ISO 8859-1 (Latin-1): the character of number n, up to FFh, is the byte n.
use Rattle.std.specs.Prelude.{ℕ, map, nat_lt, if◌then◌else◌}
use Rattle.std.specs.Str.{chars, encode_utf8_all}
use Rattle.base_text.specs.Bytes.{Bytes, Text}

-- the byte of the character with this number, or a `?` above FFh
abbrev pub latin_byte : ℕ → ℕ
latin_byte c = if nat_lt c 256 then c else 63

-- the bytes of the characters of a text
unfoldable pub latin_bytes : Text → Bytes
latin_bytes text = map latin_byte (chars text)

-- the text of the characters with the numbers of these bytes
unfoldable pub latin_text : Bytes → Text
latin_text bytes = encode_utf8_all bytes
