-- Hit conditions as they are written: `5`, `= 5`, `== 5`, `> 5`, `>= 5`, `< 5`, `<= 5`, `% 5`, with numbers
-- from 1 to 4,294,967,295 in decimal (Debug Adapter Protocol, "SourceBreakpoint": `hitCondition`).
use Rattle.std.specs.Prelude.{ℕ, zero, suc, ◌+◌, [], ◌∷◌, ◌++◌, Option, Some, None, option_and_then}
use Rattle.std.specs.Prelude.{option_map, ◌&&◌, ◌==◌, if◌then◌else◌, codes, decimal}
use Rattle.std.specs.Int.{is_in_range}
use Rattle.std.specs.Str.{trim, all_ascii_digits}
use Rattle.std.specs.Str.Parse.{digits_value, without_leading_plus}
use Rattle.base_text.specs.Bytes.{Text}
use Rattle.dap_slice.specs.declared.hits.HitCondition.{HitCondition}
use Rattle.dap_slice.specs.declared.hits.HitCondition.TheVariants.{Exactly, AtLeast, AtMost, Every}

abbrev pub number_of_digits : Text → Option ℕ
number_of_digits digits =
    if all_ascii_digits digits && is_in_range 1 4294967295 (digits_value 10 digits)
    then Some (digits_value 10 digits) else None

-- blanks may stand around it, and a plus before it
abbrev pub number_of : Text → Option ℕ
number_of text = number_of_digits (without_leading_plus (trim text))

-- what stands behind a sign, if the text begins with it
abbrev pub behind_sign : ℕ → Text → Option Text
behind_sign sign [] = None
behind_sign sign (character ∷ rest) = if character == sign then Some rest else None

abbrev pub exactly : Text → Option HitCondition
exactly text = option_map Exactly (number_of text)

abbrev pub at_least : Text → Option HitCondition
at_least text = option_map AtLeast (number_of text)

-- the number after this one
abbrev pub next : ℕ → Option ℕ
next n = if n == 4294967295 then None else Some (n + 1)

-- the number before this one, from 1 on
abbrev pub previous : ℕ → Option ℕ
previous zero = None
previous (suc zero) = None
previous (suc n) = Some n

-- behind `>`, where `=` may follow
abbrev pub above_by : Option Text → Text → Option HitCondition
above_by (Some rest) text = at_least rest
above_by None text = option_map AtLeast (option_and_then next (number_of text))

abbrev pub above : Text → Option HitCondition
above text = above_by (behind_sign 61 text) text

-- and behind `<`
abbrev pub below_by : Option Text → Text → Option HitCondition
below_by (Some rest) text = option_map AtMost (number_of rest)
below_by None text = option_map AtMost (option_and_then previous (number_of text))

abbrev pub below : Text → Option HitCondition
below text = below_by (behind_sign 61 text) text

-- behind `=`, where another may follow
abbrev pub equals_by : Option Text → Text → Option HitCondition
equals_by (Some rest) text = exactly rest
equals_by None text = exactly text

abbrev pub equals : Text → Option HitCondition
equals text = equals_by (behind_sign 61 text) text

-- by its sign: `>`, `<`, `%`, `=`, or none
abbrev pub by_sign : Text → Option HitCondition
by_sign [] = exactly []
by_sign (character ∷ rest) =
    if character == 62 then above rest else
    (if character == 60 then below rest else
    (if character == 37 then option_map Every (number_of rest) else
    (if character == 61 then equals rest else exactly (character ∷ rest))))

abbrev pub hit_condition_of : Text → Option HitCondition
hit_condition_of text = by_sign (trim text)

-- ---- for laws

-- a way to write a hit condition
abbrev pub spelling : HitCondition → Text
spelling (Exactly n) = decimal n
spelling (AtLeast n) = codes ">=" ++ decimal n
spelling (AtMost n) = codes "<=" ++ decimal n
spelling (Every n) = codes "%" ++ decimal n

abbrev pub number_in : HitCondition → ℕ
number_in (Exactly n) = n
number_in (AtLeast n) = n
number_in (AtMost n) = n
number_in (Every n) = n
