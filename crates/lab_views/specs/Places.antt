-- The places that can be changed by hand, and the names by which they are found.
use Rattle.std.specs.Prelude.{ℕ, List, [], ◌∷◌, Option, Some, None, Result, Ok, Err, option_map, find, codes}
use Rattle.std.specs.Str.{bytes_eq}
use Rattle.base_text.specs.Hexadecimal.{upper_word, word_spelled}
use Rattle.lab_shown.specs.declared.scope.Scope.{Scope}
use Rattle.lab_shown.specs.declared.scope.Scope.TheVariants.{Registers, Memory}
use Rattle.lab_shown.specs.Scopes.{scope_with}
use Rattle.lab_shown.specs.declared.place.Place.{Place}
use Rattle.lab_shown.specs.declared.place.Place.TheVariants as place
use Rattle.lab_views.specs.declared.poke_fault.PokeFault.{PokeFault}
use Rattle.lab_views.specs.declared.poke_fault.PokeFault.TheVariants.{BadReference, UnknownName}

-- the name under which a place is shown
abbrev pub shown_name : Place → List ℕ
shown_name place.A = codes "A"
shown_name place.B = codes "B"
shown_name place.C = codes "C"
shown_name place.D = codes "D"
shown_name place.E = codes "E"
shown_name place.H = codes "H"
shown_name place.L = codes "L"
shown_name place.Sp = codes "SP"
shown_name place.Pc = codes "PC"
shown_name (place.Memory address) = upper_word address

abbrev pub registers : List Place
registers =
    place.A ∷ place.B ∷ place.C ∷ place.D ∷ place.E ∷ place.H ∷ place.L ∷ place.Sp ∷ place.Pc ∷ []

-- the register that is shown under a name
abbrev pub register_named : List ℕ → Option Place
register_named name = find (λ register. bytes_eq name (shown_name register)) registers

-- the byte at the address that four hexadecimal digits spell, in either case
abbrev pub byte_named : List ℕ → Option Place
byte_named name = option_map (λ address. place.Memory address) (word_spelled name)

abbrev pub or_unknown : Option Place → Result Place PokeFault
or_unknown None = Err UnknownName
or_unknown (Some found) = Ok found

-- the place of a name in a scope
abbrev pub named_in : Option Scope → List ℕ → Result Place PokeFault
named_in (Some Registers) name = or_unknown (register_named name)
named_in (Some Memory) name = or_unknown (byte_named name)
named_in _ name = Err BadReference

abbrev pub place_named : ℕ → List ℕ → Result Place PokeFault
place_named reference name = named_in (scope_with reference) name
