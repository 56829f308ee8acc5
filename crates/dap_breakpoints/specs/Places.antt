-- What can be watched, and the texts by which it is set (Debug Adapter Protocol, `dataId`).
use Rattle.std.specs.Prelude.{ℕ, ◌+◌, ◌≤◌, ◌==◌, List, [], ◌∷◌, ◌++◌, Option, Some, None, option_and_then}
use Rattle.std.specs.Prelude.{map, find, codes, decimal, nat_le, if◌then◌else◌}
use Rattle.std.specs.List.{range_with_len}
use Rattle.std.specs.Option.{option_or}
use Rattle.std.specs.Str.{byte, bytes_eq}
use Rattle.base_text.specs.Bytes.{Text}
use Rattle.base_text.specs.Hexadecimal.{upper_word, word_spelled}
use Rattle.lab_shown.specs.declared.place.Place.{Place}
use Rattle.lab_shown.specs.declared.place.Place.TheVariants as place
use Rattle.lab_views.specs.Places.{shown_name}
use Rattle.dap_breakpoints.specs.declared.place.DataPlace.{DataPlace}
use Rattle.dap_breakpoints.specs.declared.place.DataPlace.TheVariants.{Register, Pair, Bytes}

-- each register but PC, which changes at every step
abbrev pub registers : List DataPlace
registers =
    Register place.A ∷ Register place.B ∷ Register place.C ∷ Register place.D ∷ Register place.E ∷
    Register place.H ∷ Register place.L ∷ Register place.Sp ∷ []

abbrev pub pairs : List DataPlace
pairs = Pair place.B place.C ∷ Pair place.D place.E ∷ Pair place.H place.L ∷ []

-- the text by which it is set: the name under which it is shown, or the address and the number of bytes
abbrev pub id_of : DataPlace → Text
id_of (Register register) = shown_name register
id_of (Pair high low) = shown_name high ++ shown_name low
id_of (Bytes address count) = upper_word address ++ (codes ":" ++ decimal count)

-- the register or the pair with this name
abbrev pub register_named : Text → Option DataPlace
register_named name = find (λ d. bytes_eq name (id_of d)) (registers ++ pairs)

-- the number from 1 to 16 that this is in decimal
abbrev pub count_named : Text → Option ℕ
count_named digits = find (λ n. bytes_eq digits (decimal n)) (range_with_len 1 16)

-- bytes from an address on, if all of them are in memory
abbrev pub bytes_within : ℕ → ℕ → Option DataPlace
bytes_within address count = if nat_le (address + count) 65536 then Some (Bytes address count) else None

-- as many bytes from an address on as these digits say
abbrev pub bytes_counted : Text → ℕ → Option DataPlace
bytes_counted digits address = option_and_then (bytes_within address) (count_named digits)

-- the address as four hexadecimal digits in either case, `:`, and the number of bytes
abbrev pub bytes_named : Text → Option DataPlace
bytes_named (a ∷ b ∷ c ∷ d ∷ colon ∷ digits) =
    if colon == byte ":" then option_and_then (bytes_counted digits) (word_spelled (a ∷ b ∷ c ∷ d ∷ []))
    else None
bytes_named other = None

-- what is set by this text
abbrev pub data_named : Text → Option DataPlace
data_named id = option_or (register_named id) (bytes_named id)

-- the registers or bytes that are watched, in order
abbrev pub places_of : DataPlace → List Place
places_of (Register register) = register ∷ []
places_of (Pair high low) = high ∷ low ∷ []
places_of (Bytes address count) = map (λ at. place.Memory at) (range_with_len address count)

-- its bytes have addresses
abbrev pub IsInMemory : DataPlace → Type 0
IsInMemory (Bytes address count) = address + count ≤ 65536
IsInMemory _ = Unit {0}
