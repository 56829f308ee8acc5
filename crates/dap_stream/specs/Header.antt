-- The header part of a message (DAP, "Base protocol", "Header Part"): lines of fields, and an empty line.
use Rattle.std.specs.Prelude.{◌≡◌, ℕ, ◌<◌, ◌≤◌, ◌==◌, ◌||◌, if◌then◌else◌, Bool, true, List, [], ◌∷◌}
use Rattle.std.specs.Prelude.{◌++◌, length, codes}
use Rattle.std.specs.List.{list_all}
use Rattle.std.specs.Int.{is_in_range}
use Rattle.std.specs.Char.{is_ascii_digit}
use Rattle.std.specs.Str.{str_eq_ignore_ascii_case}
use Rattle.std.specs.Str.Parse.{digits_value}
use Rattle.dap_stream.specs.Wire.{Bytes}

-- carriage return and line feed
abbrev pub line_end : Bytes
line_end = 13 ∷ 10 ∷ []

abbrev pub colon : ℕ
colon = 58

-- a name is of printing characters of ASCII but the blank and the colon
abbrev pub is_name_byte : ℕ → Bool
is_name_byte byte = is_in_range 33 57 byte || is_in_range 59 126 byte

-- a value is of printing characters, blanks and tabs
abbrev pub is_value_byte : ℕ → Bool
is_value_byte byte = (byte == 9) || is_in_range 32 126 byte

abbrev pub is_blank : ℕ → Bool
is_blank byte = (byte == 32) || (byte == 9)

pub record Field : Type 0 where
  pub name : Bytes
  pub value : Bytes

-- a field's line: a name, which isn't empty, a colon, a value, and the line's end
pub record IsLine (line : Bytes) (field : Field) : Type 0 where
  pub some : 0 < length field.name
  pub name_is : list_all is_name_byte field.name ≡ true
  pub value_is : list_all is_value_byte field.value ≡ true
  pub spelled : line ≡ field.name ++ colon ∷ (field.value ++ line_end)

-- lines of fields, and nothing else
pub data IsLines : Bytes → List Field → Type 0 where
  Ends : (bytes : Bytes) → bytes ≡ [] → IsLines bytes []
  Next : (bytes line others : Bytes) (field : Field) (fields : List Field) → IsLine line field
      → bytes ≡ line ++ others → IsLines others fields → IsLines bytes (field ∷ fields)

-- lines of fields, and an empty line
pub record IsHeader (bytes : Bytes) (fields : List Field) : Type 0 where
  pub lines : Bytes
  pub are : IsLines lines fields
  pub spelled : bytes ≡ lines ++ line_end

-- upper and lower case of ASCII are one
abbrev pub is_length_name : Bytes → Bool
is_length_name name = str_eq_ignore_ascii_case name (codes "Content-Length")

-- the values of the fields Content-Length
abbrev pub lengths : List Field → List Bytes
lengths [] = []
lengths (field ∷ fields) =
    if is_length_name field.name then (field.value ∷ lengths fields) else (lengths fields)

-- the value of a Content-Length, which says this size: blanks, and 1 to 10 digits
pub record IsLength (value : Bytes) (size : ℕ) : Type 0 where
  pub blanks : Bytes
  pub digits : Bytes
  pub spelled : value ≡ blanks ++ digits
  pub blanks_are : list_all is_blank blanks ≡ true
  pub digits_are : list_all is_ascii_digit digits ≡ true
  pub some : 0 < length digits
  pub few : length digits ≤ 10
  pub size_is : size ≡ digits_value 10 digits

-- a Content-Length of a size within the limit
pub record IsAllowed (value : Bytes) (size : ℕ) : Type 0 where
  pub length_is : IsLength value size
  pub within : size ≤ 1048576

-- one Content-Length, and this size
pub record SaysOnce (values : List Bytes) (size : ℕ) : Type 0 where
  pub value : Bytes
  pub one : values ≡ value ∷ []
  pub allowed : IsAllowed value size

-- a header whose one Content-Length says this size
pub record IsHeaderOf (bytes : Bytes) (size : ℕ) : Type 0 where
  pub fields : List Field
  pub header : IsHeader bytes fields
  pub length_is : SaysOnce (lengths fields) size
