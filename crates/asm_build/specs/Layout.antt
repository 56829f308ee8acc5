-- The layout round: the place of each statement, or the first fault of the layout.
use Rattle.std.specs.Prelude.{◌≡◌, ℕ, ◌+◌, ◌%◌, List, [], ◌∷◌, length, Bool, true, false, ◌&&◌, ◌||◌, Option}
use Rattle.std.specs.Prelude.{Some, None, is_some, Result, Ok, Err, if◌then◌else◌, nat_lt}
use Rattle.std.specs.Str.{bytes_eq}
use Rattle.std.specs.List.{list_any}
use Rattle.asm_expr.specs.Value.{value_of}
use Rattle.asm_syntax.specs.declared.fault.FaultKind.TheVariants as fault
use Rattle.asm_syntax.specs.declared.statement.Label.{Label}
use Rattle.asm_syntax.specs.declared.statement.Operand.{Operand}
use Rattle.asm_syntax.specs.declared.statement.Operation.{Operation}
use Rattle.asm_syntax.specs.declared.statement.Statement.{Statement}
use Rattle.asm_syntax.specs.Outcome.{Fault, CellFault, ◌>>=◌, at_line}
use Rattle.asm_encode.specs.Lengths.{length_of}
use Rattle.asm_encode.specs.Values.{or_fault}
use Rattle.asm_build.specs.declared.symbols.SymbolKind.{SymbolKind}
use Rattle.asm_build.specs.declared.symbols.Symbol.{Symbol}
use Rattle.asm_build.specs.declared.laid.Laid.{Laid}
use Rattle.asm_build.specs.Statements.{on_action, definition_of, is_set, early_in, late_in, names_in}
use Rattle.asm_build.specs.Statements.{names_in_early}
use Rattle.asm_build.specs.Reading.{Entries, Lines, symbol_at, or_else, value_in, last_definition}
use Rattle.asm_build.specs.Reading.{place_after, parts_after, has_ended, is_selected}

-- a name is one of these
abbrev pub is_among : List ℕ → List (List ℕ) → Bool
is_among x names = list_any (bytes_eq x) names

-- the new set has the names that pass and those of the old one, and no others
abbrev pub Adds : (List ℕ → Bool) → List (List ℕ) → List (List ℕ) → Type 0
Adds passes old new = (x : List ℕ) → is_among x new ≡ (passes x || is_among x old)

-- the same for the names of a list
abbrev pub Notes : List (List ℕ) → List (List ℕ) → List (List ℕ) → Type 0
Notes names old new = Adds (λ x. is_among x names) old new

-- what can be said of a name after some lines
pub record Past : Type 0 where
  -- what was kept from before the cell
  pub kept : List ℕ → Option Symbol
  -- its latest definition in the cell
  pub defined : List ℕ → Option Symbol
  -- an assembled ORG, DS, EQU, SET or IF names it
  pub needed : List ℕ → Bool
  -- an assembled operand of any other kind names it
  pub used : List ℕ → Bool

-- an assembled ORG, DS, EQU, SET or IF names it
abbrev pub needs : Statement × Laid → List ℕ → Bool
needs p x = p.1.is_assembled && is_among x (names_in_early (on_action early_in None p.0))

-- an assembled operand of any other kind names it
abbrev pub uses : Statement × Laid → List ℕ → Bool
uses p x = p.1.is_assembled && is_among x (names_in (on_action late_in [] p.0))

-- what these lines say of a name
abbrev pub past : Entries → Lines → Past
past kept earlier = record {
  kept = symbol_at kept;
  defined = last_definition earlier;
  needed = λ x. list_any (λ p. needs p x) earlier;
  used = λ x. list_any (λ p. uses p x) earlier;
}

-- ---- definitions

-- the first definition of a name is late if an early operand took a kept value for it, in this
-- statement or an earlier one; that of a SET also if any operand of an earlier statement names it
abbrev pub is_late : Past → List ℕ → SymbolKind → Bool → Bool
is_late before x k itself =
    (is_some (before.kept x) && (before.needed x || itself))
    || (is_set k && (before.needed x || before.used x))

-- a second definition is Twice, except SET after SET
abbrev pub check_again : Label × SymbolKind → Symbol → Result (Unit {0}) Fault
check_again d was =
    if is_set was.kind && is_set d.1 then Ok tt else Err (d.0.column, fault.Twice)

-- the first definition of a name is not late
abbrev pub check_first : Past → Option Operand → Label × SymbolKind → Result (Unit {0}) Fault
check_first before o d =
    if is_late before d.0.name d.1 (is_among d.0.name (names_in_early o))
    then Err (d.0.column, fault.Early) else Ok tt

-- a first definition, or another one
abbrev pub check_defined : Past → Option Operand → Label × SymbolKind → Option Symbol
    → Result (Unit {0}) Fault
check_defined before o d None = check_first before o d
check_defined before o d (Some was) = check_again d was

-- the definition of a statement, if it has one
abbrev pub check_definition : Past → Option Operand → Option (Label × SymbolKind)
    → Result (Unit {0}) Fault
check_definition before o None = Ok tt
check_definition before o (Some d) = check_defined before o d (before.defined d.0.name)

-- ---- values that the layout needs

-- the value of an early operand, 0 where there is none
abbrev pub early : Past → ℕ → Option Operand → Result ℕ Fault
early before here None = Ok 0
early before here (Some o) =
    or_fault fault.Early o.column
    (value_of (λ x. value_in (or_else (before.defined x) (before.kept x))) here o.expr)

-- ---- places: no statement's bytes pass the last address

-- an operation's bytes are within memory
abbrev pub within : ℕ → ℕ → Option Operation → Result (Unit {0}) Fault
within place value None = Ok tt
within place value (Some o) =
    if nat_lt 65536 (place + length_of o.action value) then Err (o.column, fault.PastEnd) else Ok tt

-- ---- the round

-- how an assembled statement is laid out
abbrev pub lay_statement : Past → ℕ → Statement → Result Laid Fault
lay_statement before place s = do
  checked ← check_definition before (on_action early_in None s) (definition_of s)
  v ← early before (place % 65536) (on_action early_in None s)
  fits ← within place v s.operation
  Ok (record { place = place; is_assembled = true; value = v })

-- how a statement is laid out: one that isn't assembled only stands at its place
abbrev pub laid_out : Past → ℕ → Bool → Statement → Result Laid Fault
laid_out before place selected s =
    if selected then lay_statement before place s
    else Ok (record { place = place; is_assembled = false; value = 0 })

-- how a statement is laid out after these lines
abbrev pub laid_after : Entries → Lines → Statement → Result Laid Fault
laid_after kept earlier s =
    laid_out (past kept earlier) (place_after earlier)
    (is_selected (has_ended earlier) (parts_after earlier) s) s

-- the lines that statements give after these, or the first fault
unfoldable pub layout : Entries → Lines → List Statement → Result Lines CellFault
layout kept earlier [] = Ok earlier
layout kept earlier (s ∷ ss) = do
  r ← at_line (length earlier + 1) (laid_after kept earlier s)
  layout kept ((s, r) ∷ earlier) ss
