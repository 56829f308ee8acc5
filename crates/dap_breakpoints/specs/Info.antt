-- What an editor is told of data that it may watch (Debug Adapter Protocol, `dataBreakpointInfo`).
use Rattle.std.specs.Prelude.{ℕ, ◌==◌, ◌++◌, Option, Some, None, Result, Ok, Err, codes, decimal}
use Rattle.std.specs.Prelude.{nat_le, nat_lt, ◌≡◌, ◌&&◌, option_map, if◌then◌else◌}
use Rattle.std.specs.Option.{unwrap_or}
use Rattle.std.specs.Str.{bytes_eq}
use Rattle.base_text.specs.Bytes.{Text}
use Rattle.base_text.specs.Hexadecimal.{upper_word, word_spelled}
use Rattle.asm_expr.specs.declared.evaluation.ExprFault.{ExprFault}
use Rattle.asm_expr.specs.declared.evaluation.ExprFault.TheVariants.{Undefined, Divisor}
use Rattle.asm_syntax.specs.Faults.{fault_name}
use Rattle.asm_syntax.specs.Outcome.{Fault, ◌>>=◌}
use Rattle.lab_shown.specs.declared.scope.Scope.{Scope}
use Rattle.lab_shown.specs.declared.scope.Scope.TheVariants as scope
use Rattle.lab_shown.specs.Scopes.{scope_with}
use Rattle.lab_views.specs.Places.{shown_name}
use Rattle.lab_core.specs.Board.{Board}
use Rattle.dap_expr.specs.declared.expression.Expression.{Expression}
use Rattle.dap_expr.specs.Expressions.{expression_of}
use Rattle.dap_expr.specs.Values.{value_on}
use Rattle.dap_messages.specs.declared.message.DataInfo.{DataInfo}
use Rattle.dap_requests.specs.declared.request.DataQuery.{DataQuery}
use Rattle.dap_breakpoints.specs.declared.place.DataPlace.{DataPlace}
use Rattle.dap_breakpoints.specs.declared.place.DataPlace.TheVariants.{Register, Pair, Bytes}
use Rattle.dap_breakpoints.specs.declared.info.QueryFault.{QueryFault}
use Rattle.dap_breakpoints.specs.declared.info.QueryFault.TheVariants as fault
use Rattle.dap_breakpoints.specs.Places.{id_of, register_named, bytes_within}

-- what a function returns is what the query asks for, or out of memory
abbrev pub QueryGives : {A : Type 0} → Result A QueryFault → Result A QueryFault → Type 0
QueryGives (Err fault.OutOfMemory) asked = Unit {0}
QueryGives result asked = result ≡ asked

-- ---- bytes at an address

abbrev pub or_past_end : Option DataPlace → Result DataPlace QueryFault
or_past_end None = Err fault.PastEnd
or_past_end (Some bytes) = Ok bytes

-- 1 to 16 of them, all in memory
abbrev pub bytes_at : ℕ → ℕ → Result DataPlace QueryFault
bytes_at count address =
    if nat_lt 0 count && nat_le count 16 then or_past_end (bytes_within address count) else Err fault.Count

-- ---- by a name in a scope

-- a register or a pair
abbrev pub register_at : Text → Option (Result DataPlace QueryFault)
register_at name =
    if bytes_eq name (codes "PC") then Some (Err fault.ProgramCounter)
    else option_map (λ d. Ok d) (register_named name)

-- bytes at an address in hexadecimal
abbrev pub word_at : ℕ → Text → Option (Result DataPlace QueryFault)
word_at count name = option_map (bytes_at count) (word_spelled name)

abbrev pub register_of_scope : Text → Result DataPlace QueryFault
register_of_scope name = unwrap_or (register_at name) (Err fault.Elsewhere)

-- None where the name is an expression
abbrev pub in_scope : Option Scope → DataQuery → Option (Result DataPlace QueryFault)
in_scope (Some scope.Registers) q = Some (register_of_scope q.name)
in_scope (Some scope.Memory) q = word_at q.count q.name
in_scope (Some scope.Symbols) q = None
in_scope _ q = Some (Err fault.Elsewhere)

-- The scope 0 has no variables: a name there is a register, or an expression. Those of 6 are the words of the
-- stack.
abbrev pub by_name : DataQuery → Option (Result DataPlace QueryFault)
by_name q =
    if q.is_address then None else
    if q.scope == 0 then register_at q.name else
    if q.scope == 6 then word_at 2 q.name else in_scope (scope_with q.scope) q

-- ---- by an expression

abbrev pub value_or_fault : Result ℕ ExprFault → Result ℕ QueryFault
value_or_fault (Ok address) = Ok address
value_or_fault (Err why) = Err (fault.NoValue why)

-- the address that is its value
abbrev pub address_of : Board → Result Expression Fault → Result ℕ QueryFault
address_of b (Ok e) = value_or_fault (value_on b e)
address_of b (Err (column, kind)) = Err (fault.Expression column kind)

abbrev pub by_expression : Board → DataQuery → Result DataPlace QueryFault
by_expression b q = address_of b (expression_of q.name) >>= bytes_at q.count

-- ---- what is told

abbrev pub place_at : Board → DataQuery → Result DataPlace QueryFault
place_at b q = unwrap_or (by_name q) (by_expression b q)

abbrev pub value_fault_name : ExprFault → Text
value_fault_name Undefined = codes "Undefined"
value_fault_name Divisor = codes "Divisor"

-- why what has this name can't be watched
abbrev pub fault_text : Text → QueryFault → Text
fault_text name fault.OutOfMemory = codes "out of memory"
fault_text name fault.ProgramCounter = codes "PC changes at every step"
fault_text name fault.Elsewhere = codes "only registers and memory can be watched"
fault_text name (fault.Expression column kind) =
    name ++ (codes ": column " ++ (decimal column ++ (codes ": " ++ fault_name kind)))
fault_text name (fault.NoValue why) = name ++ (codes ": " ++ value_fault_name why)
fault_text name fault.Count = codes "1 to 16 bytes can be watched"
fault_text name fault.PastEnd = codes "the bytes end beyond FFFF"

abbrev pub bytes_word : ℕ → Text
bytes_word count = if count == 1 then codes " byte at " else codes " bytes at "

abbrev pub bytes_text : ℕ → ℕ → Text
bytes_text address count = decimal count ++ (bytes_word count ++ upper_word address)

abbrev pub description_of : DataPlace → Text
description_of (Register register) = codes "register " ++ shown_name register
description_of (Pair high low) = codes "registers " ++ (shown_name high ++ (codes " and " ++ shown_name low))
description_of (Bytes address count) = bytes_text address count

abbrev pub info_of : Text → Result DataPlace QueryFault → DataInfo
info_of name (Ok d) = record { data_id = Some (id_of d); description = description_of d }
info_of name (Err why) = record { data_id = None; description = fault_text name why }

abbrev pub data_info : Board → DataQuery → DataInfo
data_info b q = info_of q.name (place_at b q)
