-- The parts of a log message, and their text on a board.
use Rattle.std.specs.Prelude.{ℕ, ◌-◌, Bool, true, false, Result, Ok, Err, codes, decimal, length, take}
use Rattle.std.specs.Prelude.{if◌then◌else◌, nat_eq}
use Rattle.std.specs.List.{ends_with}
use Rattle.base_text.specs.Bytes.{Text}
use Rattle.asm_expr.specs.declared.evaluation.ExprFault.{ExprFault}
use Rattle.asm_expr.specs.declared.evaluation.ExprFault.TheVariants.{Undefined, Divisor}
use Rattle.asm_syntax.specs.Numerals.{word_text}
use Rattle.lab_core.specs.Board.{Board}
use Rattle.dap_expr.specs.Values.{value_on}
use Rattle.dap_log.specs.declared.part.Part.{Part}
use Rattle.dap_log.specs.declared.part.Part.TheVariants as part
use Rattle.dap_log.specs.declared.part.Radix.{Radix}
use Rattle.dap_log.specs.declared.part.Radix.TheVariants as radix

-- ---- how a value is asked for

-- `:x` behind an expression
abbrev pub has_suffix : Text → Bool
has_suffix text = ends_with nat_eq text (codes ":x")

abbrev pub radix_of : Text → Radix
radix_of text = if has_suffix text then radix.Hexadecimal else radix.Decimal

abbrev pub expression_text : Text → Text
expression_text text = if has_suffix text then take (length text - 2) text else text

-- ---- texts

abbrev pub fault_name : ExprFault → Text
fault_name Undefined = codes "Undefined"
fault_name Divisor = codes "Divisor"

abbrev pub number_text : Radix → ℕ → Text
number_text radix.Decimal number = decimal number
number_text radix.Hexadecimal number = word_text number

-- a value, or why there is none
abbrev pub value_text : Radix → Result ℕ ExprFault → Text
value_text r (Ok number) = number_text r number
value_text r (Err fault) = fault_name fault

abbrev pub part_text : Board → Part → Text
part_text b (part.Plain text) = text
part_text b (part.Value expression r) = value_text r (value_on b expression)

-- ---- names without a value

abbrev pub is_undefined_value : Result ℕ ExprFault → Bool
is_undefined_value (Err Undefined) = true
is_undefined_value value = false

abbrev pub is_undefined : Board → Part → Bool
is_undefined b (part.Plain text) = false
is_undefined b (part.Value expression r) = is_undefined_value (value_on b expression)
