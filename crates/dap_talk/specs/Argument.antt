-- The kinds of arguments, and what is found for one in a request.
use Rattle.std.specs.Prelude.{
  ℕ,
  ◌&&◌,
  nat_le,
  if◌then◌else◌,
  List,
  [],
  ◌∷◌,
  Option,
  Some,
  None,
  option_map,
  option_and_then,
  is_none,
  Bool,
  codes,
}
use Rattle.std.specs.Str.{bytes_eq}
use Rattle.base_text.specs.Bytes.{Text}
use Rattle.base_text.specs.Hexadecimal.{word_spelled}
use Rattle.serde_json.specs.Data.{Data, Items, no_items, item}
use Rattle.serde_json.specs.Events.{items_len}
use Rattle.serde_json.specs.Find.{get, get_member, as_number, as_u64, as_str, as_bool, as_array, as_object}
use Rattle.lab_shown.specs.declared.step.Granularity.{Granularity}
use Rattle.lab_shown.specs.declared.step.Granularity.TheVariants.{Line, Instruction}

-- what an argument must be
pub data Kind : Type 0 where
  -- a whole number, from the first to the second
  number : ℕ → ℕ → Kind
  text : Kind
  -- `true` or `false`
  truth : Kind
  -- an object with a text `path`
  source : Kind
  -- at most 256 objects with a whole number `line`, and nothing that a plain breakpoint doesn't have
  breakpoints : Kind
  -- `instruction`, or any other text
  granularity : Kind
  -- `0x` and four hexadecimal digits
  address : Kind

-- what was found for one
pub data Found : Type 0 where
  found_number : ℕ → Found
  found_text : Text → Found
  found_truth : Bool → Found
  found_lines : List ℕ → Found
  found_granularity : Granularity → Found

-- ---- the kinds

-- JSON's whole numbers are those written without fraction, exponent and minus sign
abbrev pub whole : Data → Option ℕ
whole d = option_and_then as_u64 (as_number d)

abbrev pub when_between : ℕ → ℕ → ℕ → Option ℕ
when_between low high n = if nat_le low n && nat_le n high then Some n else None

abbrev pub whole_between : ℕ → ℕ → Data → Option ℕ
whole_between low high d = option_and_then (when_between low high) (whole d)

abbrev pub text_at : Text → Data → Option Text
text_at key d = option_and_then as_str (get key d)

-- the value at a key of an object, if there is one
abbrev pub member_at : Text → Data → Option (Option Data)
member_at key d = option_map (get_member key) (as_object d)

-- conditions, hit counts and log messages aren't supported, whatever their values are
abbrev pub is_plain : Data → Bool
is_plain d =
    (is_none (get (codes "condition") d) && is_none (get (codes "hitCondition") d))
    && is_none (get (codes "logMessage") d)

abbrev pub line_of : Data → Option ℕ
line_of d =
    if is_plain d then option_and_then (whole_between 0 4294967295) (get (codes "line") d) else None

abbrev pub lines_of : Items → Option (List ℕ)
lines_of no_items = Some []
lines_of (item d ds) =
    option_and_then (λ line. option_map (λ lines. line ∷ lines) (lines_of ds)) (line_of d)

abbrev pub at_most_256 : Items → Option Items
at_most_256 ds = if nat_le (items_len ds) 256 then Some ds else None

abbrev pub granularity_of : Text → Granularity
granularity_of name = if bytes_eq name (codes "instruction") then Instruction else Line

-- the word after `0x`
abbrev pub address_of : Text → Option ℕ
address_of (first ∷ second ∷ digits) =
    if bytes_eq (first ∷ second ∷ []) (codes "0x") then word_spelled digits else None
address_of other = None

-- a value as an argument of this kind, if it is one
abbrev pub found_in : Kind → Data → Option Found
found_in (number low high) d = option_map found_number (whole_between low high d)
found_in text d = option_map found_text (as_str d)
found_in truth d = option_map found_truth (as_bool d)
found_in source d = option_map found_text (text_at (codes "path") d)
found_in breakpoints d =
    option_map found_lines (option_and_then lines_of (option_and_then at_most_256 (as_array d)))
found_in granularity d = option_map (λ name. found_granularity (granularity_of name)) (as_str d)
found_in address d = option_map found_number (option_and_then address_of (as_str d))

-- ---- the arguments of a command

-- an argument, and its default if it may be absent
pub record Argument : Type 0 where
  pub key : Text
  pub kind : Kind
  pub absent : Option Found

abbrev pub required_argument : Text → Kind → Argument
required_argument key kind = record { key = key; kind = kind; absent = None }

abbrev pub optional : Text → Kind → Found → Argument
optional key kind absent = record { key = key; kind = kind; absent = Some absent }

-- the value at a key of the arguments, if these are an object; absent arguments count as an empty object
abbrev pub member_of : Text → Option Data → Option (Option Data)
member_of key None = Some None
member_of key (Some arguments) = member_at key arguments

abbrev pub argument_at : Text → Data → Option (Option Data)
argument_at key request = member_of key (get (codes "arguments") request)

abbrev pub found_or : Argument → Option Data → Option Found
found_or argument None = argument.absent
found_or argument (Some d) = found_in argument.kind d

abbrev pub argument_value : Argument → Data → Option Found
argument_value argument request = option_and_then (found_or argument) (argument_at argument.key request)

-- the values of all arguments, if each is as it must be
abbrev pub all_found : List Argument → Data → Option (List Found)
all_found [] request = Some []
all_found (argument ∷ arguments) request =
    option_and_then
    (λ first. option_map (λ others. first ∷ others) (all_found arguments request))
    (argument_value argument request)
