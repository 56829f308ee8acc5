-- What an editor is told of is set by the text that it is told.
use Rattle.std.proofs.Common.{◌≡◌, ◌≤◌, ◌+◌, ◌==◌, ℕ, List, [], ◌∷◌, ◌++◌, refl, ap, Bool, true, false, cond}
use Rattle.std.proofs.Common.{if◌then◌else◌, Option, Some, None, Result, Ok, Err, arith}
use Rattle.std.proofs.lemmas.Bool.{and_parts, leb-true, ltb-true}
use Rattle.std.specs.Prelude.{◌&&◌, nat_lt, nat_le, find, codes, option_map}
use Rattle.std.specs.Option.{unwrap_or}
use Rattle.std.specs.Str.{bytes_eq}
use Rattle.base_text.specs.Bytes.{Text}
use Rattle.base_text.specs.Hexadecimal.{word_spelled}
use Rattle.asm_syntax.specs.Outcome.{◌>>=◌}
use Rattle.lab_shown.specs.declared.scope.Scope.{Scope}
use Rattle.lab_shown.specs.declared.scope.Scope.TheVariants as scope
use Rattle.lab_shown.specs.Scopes.{scope_with}
use Rattle.lab_core.specs.Board.{Board}
use Rattle.dap_expr.specs.Expressions.{expression_of}
use Rattle.dap_requests.specs.declared.request.DataQuery.{DataQuery}
use Rattle.dap_breakpoints.specs.declared.info.QueryFault.{QueryFault}
use Rattle.dap_breakpoints.specs.declared.info.QueryFault.TheVariants as fault
use Rattle.dap_breakpoints.specs.declared.place.DataPlace.{DataPlace}
use Rattle.dap_breakpoints.specs.declared.place.DataPlace.TheVariants.{Bytes}
use Rattle.dap_breakpoints.specs.Places.{registers, pairs, id_of, register_named, data_named}
use Rattle.dap_breakpoints.specs.Info.{or_past_end, bytes_at, register_at, in_scope, address_of}
use Rattle.dap_breakpoints.specs.Info.{by_expression}
use Rattle.dap_breakpoints.specs.Info.{word_at, place_at, info_of, data_info}
use Rattle.dap_breakpoints.specs.Laws.{SetsDescribed}
use Rattle.dap_breakpoints.proofs.PlaceLemmas.{bytes_back}

-- its text sets it
abbrev IsSet : DataPlace → Type 0
IsSet d = data_named (id_of d) ≡ Some d

-- if it is data, its text sets it
abbrev IsSetIf : Result DataPlace QueryFault → Type 0
IsSetIf asked = (d : DataPlace) → asked ≡ Ok d → IsSet d

-- ---- bytes

bytes_if : (few fits : Bool) (count address : ℕ) → (few ≡ true → (1 ≤ count) × (count ≤ 16))
    → (fits ≡ true → address + count ≤ 65536)
    → IsSetIf (if few then or_past_end (if fits then Some (Bytes address count) else None)
    else Err fault.Count)
bytes_if true true count address some within d is =
    let same : Bytes address count ≡ d = cc in
    rw (← same) (bytes_back address count (some refl).0 (some refl).1 (within refl))
bytes_if true false count address some within d is = absurd cc
bytes_if false fits count address some within d is = absurd cc

some_of : (count : ℕ) → (nat_lt 0 count && nat_le count 16) ≡ true → (1 ≤ count) × (count ≤ 16)
some_of count h =
    let parts = and_parts (nat_lt 0 count) (nat_le count 16) h in
    let low = ltb-true 0 count parts.0 in
    (omega (arith, low), leb-true count 16 parts.1)

bytes_are_set : (count address : ℕ) → IsSetIf (bytes_at count address)
bytes_are_set count address =
    bytes_if (nat_lt 0 count && nat_le count 16) (nat_le (address + count) 65536) count address
    (some_of count) (leb-true (address + count) 65536)

-- ---- registers and pairs

AreSet : List DataPlace → Type 0
AreSet [] = Unit {0}
AreSet (d ∷ ds) = IsSet d × AreSet ds

registers_are_set : AreSet (registers ++ pairs)
unfolding AreSet
registers_are_set =
    (refl, (refl, (refl, (refl, (refl, (refl, (refl, (refl, (refl, (refl, (refl, tt)))))))))))

found_or_next : (passes : Bool) (first d : DataPlace) (next : Option DataPlace) → IsSet first
    → (next ≡ Some d → IsSet d) → cond passes (Some first) next ≡ Some d → IsSet d
found_or_next true first d next set later is = let same : first ≡ d = cc in rw (← same) set
found_or_next false first d next set later is = later is

found_is_set : (p : DataPlace → Bool) (ds : List DataPlace) (d : DataPlace) → AreSet ds → find p ds ≡ Some d
    → IsSet d
unfolding AreSet
found_is_set p [] d set is = absurd cc
found_is_set p (first ∷ ds) d set is =
    found_or_next (p first) first d (find p ds) set.0 (found_is_set p ds d set.1) is

register_is_set : (name : Text) (d : DataPlace) → register_named name ≡ Some d → IsSet d
register_is_set name d is =
    found_is_set (λ d. bytes_eq name (id_of d)) (registers ++ pairs) d registers_are_set is

-- ---- by a name, or otherwise

register_if : (is_pc : Bool) (found : Option DataPlace) (otherwise : Result DataPlace QueryFault)
    → ((d : DataPlace) → found ≡ Some d → IsSet d) → IsSetIf otherwise
    → IsSetIf (unwrap_or
    (if is_pc then Some (Err fault.ProgramCounter) else option_map (λ d. Ok d) found) otherwise)
register_if true found otherwise set other d is = absurd cc
register_if false None otherwise set other d is = other d is
register_if false (Some first) otherwise set other d is =
    set d (let same : first ≡ d = cc in ap (λ (d : DataPlace). Some d) same)

register_or : (name : Text) (otherwise : Result DataPlace QueryFault) → IsSetIf otherwise
    → IsSetIf (unwrap_or (register_at name) otherwise)
register_or name otherwise other =
    register_if (bytes_eq name (codes "PC")) (register_named name) otherwise (register_is_set name) other

no_data : (why : QueryFault) → IsSetIf (Err why)
no_data why d is = absurd cc

word_or : (count : ℕ) (read : Option ℕ) (otherwise : Result DataPlace QueryFault) → IsSetIf otherwise
    → IsSetIf (unwrap_or (option_map (bytes_at count) read) otherwise)
word_or count None otherwise other = other
word_or count (Some address) otherwise other = bytes_are_set count address

scope_or : (found : Option Scope) (q : DataQuery) (otherwise : Result DataPlace QueryFault)
    → IsSetIf otherwise → IsSetIf (unwrap_or (in_scope found q) otherwise)
scope_or (Some scope.Registers) q otherwise other =
    register_or q.name (Err fault.Elsewhere) (no_data fault.Elsewhere)
scope_or (Some scope.Memory) q otherwise other = word_or q.count (word_spelled q.name) otherwise other
scope_or (Some scope.Symbols) q otherwise other = other
scope_or (Some scope.Flags) q otherwise other = no_data fault.Elsewhere
scope_or (Some scope.Devices) q otherwise other = no_data fault.Elsewhere
scope_or None q otherwise other = no_data fault.Elsewhere

name_or : (is_address is_zero is_stack : Bool) (q : DataQuery) (otherwise : Result DataPlace QueryFault)
    → IsSetIf otherwise
    → IsSetIf (unwrap_or (if is_address then None else
    if is_zero then register_at q.name else
    if is_stack then word_at 2 q.name else in_scope (scope_with q.scope) q) otherwise)
name_or true is_zero is_stack q otherwise other = other
name_or false true is_stack q otherwise other = register_or q.name otherwise other
name_or false false true q otherwise other = word_or 2 (word_spelled q.name) otherwise other
name_or false false false q otherwise other = scope_or (scope_with q.scope) q otherwise other

expression_is_set : (count : ℕ) (address : Result ℕ QueryFault) → IsSetIf (address >>= bytes_at count)
expression_is_set count (Ok address) = bytes_are_set count address
expression_is_set count (Err why) = no_data why

place_is_set : (b : Board) (q : DataQuery) → IsSetIf (place_at b q)
place_is_set b q =
    name_or q.is_address (q.scope == 0) (q.scope == 6) q (by_expression b q)
    (expression_is_set q.count (address_of b (expression_of q.name)))

-- ---- the law

set_if : (name : Text) (asked : Result DataPlace QueryFault) → IsSetIf asked → (id : Text)
    → (info_of name asked).data_id ≡ Some id → SetsDescribed id (info_of name asked)
set_if name (Ok d) set id is =
    let same : id_of d ≡ id = cc in
    (d, rw (← same) (set d refl), refl)
set_if name (Err why) set id is = absurd cc

pub told_is_set : (b : Board) (q : DataQuery) (id : Text) → (data_info b q).data_id ≡ Some id
    → SetsDescribed id (data_info b q)
told_is_set b q id is = set_if q.name (place_at b q) (place_is_set b q) id is
