-- The arguments of an editor's request, and their kinds.
use Rattle.std.specs.Prelude.{ℕ, ℤ, pos, negsuc, ◌+◌, ◌-◌, ◌≤◌, nat_le, if◌then◌else◌, length, Option, Some}
use Rattle.std.specs.Prelude.{None, option_map, option_and_then, Result, ok_or, codes}
use Rattle.base_text.specs.Bytes.{Bytes, Text}
use Rattle.serde_json.specs.Data.{Data}
use Rattle.serde_json.specs.Find.{as_number, as_i64, as_str}
use Rattle.lab_shown.specs.declared.step.Granularity.{Granularity}
use Rattle.dap_talk.specs.Argument.{argument_at, address_of, granularity_of, when_between, whole_between}
use Rattle.dap_requests.specs.declared.offset.SignedOffset.{SignedOffset}
use Rattle.dap_requests.specs.declared.offset.SignedOffset.TheVariants.{Forward, Back}
use Rattle.dap_messages.specs.Base64.{bytes_of}

-- ---- where they stand

-- the argument at a key as one of this kind
abbrev pub required_argument : {T : Type 0} → Text → (Data → Option T) → Data → Option T
required_argument key kind request = option_and_then (option_and_then kind) (argument_at key request)

abbrev pub kind_or : {T : Type 0} → (Data → Option T) → T → Option Data → Option T
kind_or kind absent None = Some absent
kind_or kind absent (Some d) = kind d

-- the same, or a default if the argument is absent
abbrev pub optional : {T : Type 0} → Text → (Data → Option T) → T → Data → Option T
optional key kind absent request = option_and_then (kind_or kind absent) (argument_at key request)

-- a required argument, or its name if it isn't of its kind
abbrev pub required_value : {T : Type 0} → Text → (Data → Option T) → Data → Result T Text
required_value key kind request = ok_or (required_argument key kind request) key

-- the same of one that may be absent
abbrev pub value_or : {T : Type 0} → Text → (Data → Option T) → T → Data → Result T Text
value_or key kind absent request = ok_or (optional key kind absent request) key

-- ---- numbers

abbrev pub byte : Data → Option ℕ
byte = whole_between 0 255

abbrev pub word : Data → Option ℕ
word = whole_between 0 65535

abbrev pub some_word : Data → Option (Option ℕ)
some_word d = option_map Some (word d)

abbrev pub any_number : Data → Option ℕ
any_number = whole_between 0 4294967295

-- ---- addresses and offsets

-- `0x` and four hexadecimal digits
abbrev pub address : Data → Option ℕ
address d = option_and_then address_of (as_str d)

abbrev pub memory_reference : Data → Result ℕ Text
memory_reference = required_value (codes "memoryReference") address

-- forward up to 4,294,967,295, and back up to a limit
abbrev pub shift_within : ℕ → ℤ → Option SignedOffset
shift_within limit (pos n) = option_map Forward (when_between 0 4294967295 n)
shift_within limit (negsuc n) = option_map Back (when_between 1 limit (n + 1))

-- a whole number, written without fraction and exponent, and not `-0`
abbrev pub shift : ℕ → Data → Option SignedOffset
shift limit d = option_and_then (shift_within limit) (option_and_then as_i64 (as_number d))

-- not back beyond a limit
abbrev pub IsBackWithin : ℕ → SignedOffset → Type 0
IsBackWithin limit (Forward n) = Unit {0}
IsBackWithin limit (Back n) = n ≤ limit

-- a number of bytes after a place, or before it
abbrev pub offset : Data → Result SignedOffset Text
offset = value_or (codes "offset") (shift 4294967295) (Forward 0)

-- ---- steps

-- `instruction`, or any other text
abbrev pub granularity : Data → Option Granularity
granularity d = option_map granularity_of (as_str d)

abbrev pub at_most_65536 : Bytes → Option Bytes
at_most_65536 bytes = if nat_le (length bytes) 65536 then Some bytes else None

-- at most 65,536 bytes, in base64
abbrev pub base64 : Data → Option Bytes
base64 d = option_and_then at_most_65536 (option_and_then bytes_of (as_str d))
