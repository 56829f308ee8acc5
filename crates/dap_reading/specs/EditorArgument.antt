-- The kinds of arguments that only editors' commands have.
use Rattle.std.specs.Prelude.{ℕ, ◌&&◌, ◌||◌, if◌then◌else◌, List, [], ◌∷◌, Bool, true, false, Option, Some}
use Rattle.std.specs.Prelude.{None, is_some, option_map, option_and_then, unwrap_or, codes}
use Rattle.std.specs.Str.{bytes_eq}
use Rattle.base_text.specs.Bytes.{Text}
use Rattle.serde_json.specs.Data.{Data, Items, no_items, item}
use Rattle.serde_json.specs.Find.{get, as_bool, as_str, as_array, as_null}
use Rattle.dap_talk.specs.Argument.{at_most_256, address_of, text_at, member_at}
use Rattle.dap_requests.specs.declared.offset.SignedOffset.{SignedOffset}
use Rattle.dap_requests.specs.declared.offset.SignedOffset.TheVariants.{Forward}
use Rattle.dap_reading.specs.Argument.{kind_or, any_number, shift}
use Rattle.dap_requests.specs.Offsets.{address_at}
use Rattle.dap_messages.specs.declared.message.BreakpointOptions.{BreakpointOptions}
use Rattle.dap_messages.specs.declared.message.Numbering.{Numbering}
use Rattle.dap_messages.specs.declared.message.OperandStyle.{OperandStyle}
use Rattle.dap_messages.specs.declared.message.OperandStyle.TheVariants.{Numbers, Labels}
use Rattle.dap_messages.specs.declared.message.ValueFormat.{ValueFormat}
use Rattle.dap_messages.specs.declared.message.ValueFormat.TheVariants.{Hexadecimal, Decimal}
use Rattle.dap_messages.specs.Numbering.{line_meant}
use Rattle.dap_requests.specs.declared.request.ExceptionFilters.{ExceptionFilters}
use Rattle.dap_requests.specs.declared.request.EvaluateContext.{EvaluateContext}
use Rattle.dap_requests.specs.declared.request.EvaluateContext.TheVariants.{Repl, Watch, Other}
use Rattle.dap_requests.specs.declared.request.LineBreakpoint.{LineBreakpoint}
use Rattle.dap_requests.specs.declared.request.FunctionBreakpoint.{FunctionBreakpoint}
use Rattle.dap_requests.specs.declared.request.DataBreakpoint.{DataBreakpoint}
use Rattle.dap_requests.specs.declared.request.InstructionBreakpoint.{InstructionBreakpoint}

-- ---- how values are shown

-- `repl`, `watch`, or any other text
abbrev pub context_named : Text → EvaluateContext
context_named name =
    if bytes_eq name (codes "repl") then Repl
    else if bytes_eq name (codes "watch") then Watch else Other

abbrev pub context : Data → Option EvaluateContext
context d = option_map context_named (as_str d)

-- `hex` of a format
abbrev pub hex : Data → Option ValueFormat
hex d = option_map (λ is_hex. if is_hex then Hexadecimal else Decimal) (as_bool d)

-- an object; in hexadecimal unless its `hex` is false
abbrev pub value_format : Data → Option ValueFormat
value_format d = option_and_then (kind_or hex Hexadecimal) (member_at (codes "hex") d)

-- whether symbols are to be resolved
abbrev pub operand_style : Data → Option OperandStyle
operand_style d = option_map (λ resolves. if resolves then Labels else Numbers) (as_bool d)

-- ---- the filters of ends

abbrev pub is_text : Text → Data → Bool
is_text text d = unwrap_or (option_map (λ t. bytes_eq t text) (as_str d)) false

abbrev pub has_text : Text → Items → Bool
has_text text no_items = false
has_text text (item d ds) = is_text text d || has_text text ds

-- others are ignored
abbrev pub filters_in : Items → ExceptionFilters
filters_in ds = record {
  undefined = has_text (codes "undefined") ds;
  halt = has_text (codes "halt") ds;
}

abbrev pub filters : Data → Option ExceptionFilters
filters d = option_map filters_in (as_array d)

-- ---- breakpoints

-- absent, `null` or an empty text
abbrev pub is_unset : Option Data → Bool
is_unset None = true
is_unset (Some d) = is_some (as_null d) || is_text [] d

-- a text that isn't empty
abbrev pub some_text : Text → Option Text
some_text [] = None
some_text (character ∷ text) = Some (character ∷ text)

abbrev pub option_text : Text → Data → Option Text
option_text key d = option_and_then some_text (text_at key d)

abbrev pub options_of : Data → BreakpointOptions
options_of d = record {
  condition = option_text (codes "condition") d;
  hit_condition = option_text (codes "hitCondition") d;
  log_message = option_text (codes "logMessage") d;
}

-- of a breakpoint that can't have a log message
abbrev pub conditions_of : Data → BreakpointOptions
conditions_of d = record {
  condition = option_text (codes "condition") d;
  hit_condition = option_text (codes "hitCondition") d;
  log_message = None;
}

abbrev pub is_text_or_unset : Text → Data → Bool
is_text_or_unset key d = is_some (text_at key d) || is_unset (get key d)

-- those conditions that it has are texts
abbrev pub has_text_conditions : Data → Bool
has_text_conditions d =
    is_text_or_unset (codes "condition") d && is_text_or_unset (codes "hitCondition") d

-- and its log message
abbrev pub has_texts : Data → Bool
has_texts d = has_text_conditions d && is_text_or_unset (codes "logMessage") d

-- on a line
abbrev pub line_of : Numbering → Data → Option LineBreakpoint
line_of numbering d =
    option_map (λ n. record {
      line = line_meant numbering n;
      options = options_of d;
      has_texts = has_texts d;
    })
    (option_and_then any_number (get (codes "line") d))

-- at a label
abbrev pub function_of : Data → Option FunctionBreakpoint
function_of d =
    option_map (λ text. record { name = text; options = options_of d; has_texts = has_texts d })
    (text_at (codes "name") d)

-- absent, `null`, an empty text or `write`
abbrev pub is_write : Option Data → Bool
is_write None = true
is_write (Some d) = is_some (as_null d) || (is_text [] d || is_text (codes "write") d)

-- where a place is changed
abbrev pub data_breakpoint_of : Data → Option DataBreakpoint
data_breakpoint_of d =
    option_map (λ text. record {
      data_id = text;
      options = conditions_of d;
      is_write = is_write (get (codes "accessType") d);
      has_texts = has_text_conditions d;
    })
    (text_at (codes "dataId") d)

-- forward or back in bytes; not at all if it is absent
abbrev pub offset_in : Data → Option SignedOffset
offset_in d = kind_or (shift 4294967295) (Forward 0) (get (codes "offset") d)

-- an address, if there is one, by a reference and an offset
abbrev pub place_of : Data → Option (Option ℕ)
place_of d =
    option_and_then (λ reference. option_map (λ offset.
    option_and_then (λ from. address_at from offset) (address_of reference)) (offset_in d))
    (text_at (codes "instructionReference") d)

-- at an instruction
abbrev pub instruction_of : Data → Option InstructionBreakpoint
instruction_of d =
    option_map (λ place. record {
      address = place;
      options = conditions_of d;
      has_texts = has_text_conditions d;
    })
    (place_of d)

-- what each is, if each is one
abbrev pub all_of : {T : Type 0} → (Data → Option T) → Items → Option (List T)
all_of kind no_items = Some []
all_of kind (item d ds) = option_and_then (λ x. option_map (λ xs. x ∷ xs) (all_of kind ds)) (kind d)

-- at most 256 of them
abbrev pub breakpoints : Data → Option Items
breakpoints d = option_and_then at_most_256 (as_array d)

abbrev pub lines : Numbering → Data → Option (List LineBreakpoint)
lines numbering d = option_and_then (all_of (line_of numbering)) (breakpoints d)

abbrev pub functions : Data → Option (List FunctionBreakpoint)
functions d = option_and_then (all_of function_of) (breakpoints d)

abbrev pub data_breakpoints : Data → Option (List DataBreakpoint)
data_breakpoints d = option_and_then (all_of data_breakpoint_of) (breakpoints d)

abbrev pub instructions : Data → Option (List InstructionBreakpoint)
instructions d = option_and_then (all_of instruction_of) (breakpoints d)
