-- What is wrong with a cell (8080/8085 Assembly Language Programming Manual, chapters 2 and 4): for
-- each fault, what is at the place that it names, over a reading; and which of several is reported.
use Rattle.std.specs.Prelude.{◌≡◌, ◌<◌, ◌⊎◌, ℕ, ◌+◌, ◌%◌, List, [], ◌∷◌, ◌++◌, length, true, Some}
use Rattle.std.specs.Prelude.{None, IsSome, Result, Ok, Err, slice_get, Any, Contains}
use Rattle.asm_expr.specs.Value.{value_of}
use Rattle.asm_expr.specs.declared.evaluation.ExprFault.{ExprFault}
use Rattle.asm_expr.specs.declared.evaluation.ExprFault.TheVariants as expr
use Rattle.i80_rows.specs.Encoding.{encoding_of}
use Rattle.asm_syntax.specs.declared.fault.FaultKind.{FaultKind}
use Rattle.asm_syntax.specs.declared.fault.FaultKind.TheVariants as fault
use Rattle.asm_syntax.specs.declared.statement.Label.{Label}
use Rattle.asm_syntax.specs.declared.statement.Operand.{Operand}
use Rattle.asm_syntax.specs.declared.statement.Instruction.TheVariants as instruction
use Rattle.asm_syntax.specs.declared.statement.Action.{Action}
use Rattle.asm_syntax.specs.declared.statement.Action.TheVariants as action
use Rattle.asm_syntax.specs.declared.statement.Operation.{Operation}
use Rattle.asm_syntax.specs.declared.statement.Statement.{Statement}
use Rattle.asm_syntax.specs.Outcome.{Fault, CellFault, ComesBefore}
use Rattle.asm_encode.specs.Lengths.{length_of}
use Rattle.asm_build.specs.declared.symbols.SymbolKind.{SymbolKind}
use Rattle.asm_build.specs.declared.symbols.SymbolKind.TheVariants as kind
use Rattle.asm_build.specs.declared.symbols.Symbol.{Symbol}
use Rattle.asm_build.specs.declared.laid.Laid.{Laid}
use Rattle.asm_build.specs.Statements.{on_action, definition_of, early_in, late_in, names_in, names_in_early}
use Rattle.asm_build.specs.Reading.{Entries, Lines, symbol_at, last_definition, last_set, early_value}
use Rattle.asm_build.specs.Reading.{late_value, place_after, parts_after, has_ended, is_selected, Fits}
use Rattle.asm_build.specs.Reading.{IsReading}

-- the part of a statement that a fault is about
pub data Part : Type 0 where
  TheDefinition : Part
  TheOperand : (index : ℕ) → Part
  TheOperation : Part

-- ---- layout: a statement over a reading of those before it

-- a second definition of a name, except SET after SET
abbrev pub IsTwice : Lines → Label × SymbolKind → Type 0
IsTwice earlier d =
    (was : Symbol) × (last_definition earlier d.0.name ≡ Some was)
    × ((was.kind ≡ kind.Set) × (d.1 ≡ kind.Set) → ⊥)

-- the names in the operand of ORG, DS, EQU, SET or IF
abbrev pub early_names : Statement → List (List ℕ)
early_names s = names_in_early (on_action early_in None s)

-- the names in all other operands
abbrev pub late_names : Statement → List (List ℕ)
late_names s = names_in (on_action late_in [] s)

-- one of these lines is assembled and has the name among such names
abbrev pub IsNamed : (Statement → List (List ℕ)) → Lines → List ℕ → Type 0
IsNamed names ps x = Any (λ p. (p.1.is_assembled ≡ true) × Contains (names p.0) x) ps

-- the first definition of a name in the cell, of which ORG, DS, EQU, SET or IF took the kept value, on a
-- line before or in the statement itself
abbrev pub ComesAfterKept : Entries → Lines → Statement → List ℕ → Type 0
ComesAfterKept kept earlier s x =
    (last_definition earlier x ≡ None) × IsSome (symbol_at kept x)
    × (IsNamed early_names earlier x ⊎ Contains (early_names s) x)

-- the first SET of a name that a line before names in an operand
abbrev pub ComesAfterUse : Lines → List ℕ → Type 0
ComesAfterUse earlier x =
    (last_set earlier x ≡ None) × (IsNamed early_names earlier x ⊎ IsNamed late_names earlier x)

-- what is wrong with a definition
abbrev pub WrongDefinition : Entries → Lines → Statement → Label × SymbolKind → FaultKind → Type 0
WrongDefinition kept earlier s d fault.Twice = IsTwice earlier d
WrongDefinition kept earlier s d fault.Early =
    ComesAfterKept kept earlier s d.0.name ⊎ ((d.1 ≡ kind.Set) × ComesAfterUse earlier d.0.name)
WrongDefinition kept earlier s d _ = ⊥

-- what is wrong with an operand that the layout needs, which has this value
abbrev pub WrongEarly : Result ℕ ExprFault → FaultKind → Type 0
WrongEarly value fault.Early = value ≡ Err expr.Undefined
WrongEarly value fault.Divisor = value ≡ Err expr.Divisor
WrongEarly value _ = ⊥

-- laid out as it fits after these lines, a statement with this action has a byte past the last address
abbrev pub IsPastEnd : Entries → Lines → Statement → Action → Type 0
IsPastEnd kept earlier s a = (r : Laid) × Fits kept earlier s r × (65536 < r.place + length_of a r.value)

-- what is wrong with a part of a statement, at its column; of its operands one at most is needed here
abbrev pub WrongInLayout : Entries → Lines → Statement → Part → Fault → Type 0
WrongInLayout kept earlier s TheDefinition f =
    (d : Label × SymbolKind) × (definition_of s ≡ Some d) × (f.0 ≡ d.0.column)
    × WrongDefinition kept earlier s d f.1
WrongInLayout kept earlier s (TheOperand i) f =
    (o : Operand) × (on_action early_in None s ≡ Some o) × (i ≡ 0) × (f.0 ≡ o.column)
    × WrongEarly (value_of (early_value kept earlier) (place_after earlier % 65536) o.expr) f.1
WrongInLayout kept earlier s TheOperation f =
    (o : Operation) × (s.operation ≡ Some o) × (f ≡ (o.column, fault.PastEnd))
    × IsPastEnd kept earlier s o.action

-- a fault of the layout stands on a statement after these lines: only on one that is assembled
abbrev pub StandsAfter : Entries → Lines → Statement → Part → Fault → Type 0
StandsAfter kept earlier s part f =
    (is_selected (has_ended earlier) (parts_after earlier) s ≡ true)
    × WrongInLayout kept earlier s part f

-- ---- values: a line over a reading of all statements

-- out of range: for a byte 0100h to FEFFh, for the number of RST what is above 7
abbrev pub IsOutOfRange : Action → ℕ → Type 0
IsOutOfRange (action.Instruction (instruction.Byte op o)) v = (255 < v) × (v < 65280)
IsOutOfRange (action.Instruction (instruction.Restart o)) v = 7 < v
IsOutOfRange (action.Bytes ds) v = (255 < v) × (v < 65280)
IsOutOfRange _ v = ⊥

-- what is wrong with an operand of this action, which has this value
abbrev pub WrongOperand : Action → Result ℕ ExprFault → FaultKind → Type 0
WrongOperand a value fault.Undefined = value ≡ Err expr.Undefined
WrongOperand a value fault.Divisor = value ≡ Err expr.Divisor
WrongOperand a value fault.ByteRange = (v : ℕ) × (value ≡ Ok v) × IsOutOfRange a v
WrongOperand a value _ = ⊥

-- how many bytes an action gives: DS gives none of those that it passes over
abbrev pub bytes_given : Action → ℕ
bytes_given (action.Instruction (instruction.Alone i)) = length (encoding_of i)
bytes_given (action.Space o) = 0
bytes_given a = length_of a 0

-- a line gives a byte at this address
abbrev pub GivesByte : Statement × Laid → ℕ → Type 0
GivesByte p address =
    (o : Operation) × (p.0.operation ≡ Some o) × (p.1.is_assembled ≡ true)
    × (i : ℕ) × (i < bytes_given o.action) × (address ≡ (p.1.place + i) % 65536)

-- what is wrong with a part of a line with this operation, at its column
abbrev pub WrongInValues : Entries → Lines → Lines → Statement × Laid → Part → Operation → Fault → Type 0
WrongInValues kept all earlier p TheDefinition a f = ⊥
WrongInValues kept all earlier p (TheOperand i) a f =
    (o : Operand) × (slice_get (late_in a.action) i ≡ Some o) × (f.0 ≡ o.column)
    × WrongOperand a.action (value_of (late_value kept all earlier) (p.1.place % 65536) o.expr) f.1
WrongInValues kept all earlier p TheOperation a f =
    (f ≡ (a.column, fault.Overlap))
    × (address : ℕ) × GivesByte p address × Any (λ q. GivesByte q address) earlier

-- a fault of the values stands on a line: only on one that is assembled
abbrev pub StandsOn : Entries → Lines → Lines → Statement × Laid → Part → Fault → Type 0
StandsOn kept all earlier p part f =
    (p.1.is_assembled ≡ true) × (o : Operation) × (p.0.operation ≡ Some o)
    × WrongInValues kept all earlier p part o f

-- ---- cells

-- a fault of the layout stands in a cell, on a statement over a reading of those before it
abbrev pub LayoutFault : Entries → List Statement → Part → CellFault → Type 0
LayoutFault kept ss part f =
    (before : List Statement) × (s : Statement) × (after : List Statement)
    × (ss ≡ before ++ (s ∷ after)) × (f.0 ≡ length before + 1)
    × (earlier : Lines) × IsReading kept before earlier × StandsAfter kept earlier s part (f.1, f.2)

-- a fault of the values does, on a line of a reading of all
abbrev pub ValueFault : Entries → List Statement → Part → CellFault → Type 0
ValueFault kept ss part f =
    (all : Lines) × IsReading kept ss all
    × (after : Lines) × (p : Statement × Laid) × (earlier : Lines)
    × (all ≡ after ++ (p ∷ earlier)) × (f.0 ≡ length earlier + 1)
    × StandsOn kept all earlier p part (f.1, f.2)

-- where a fault comes in a statement: that of the definition, Twice before Early; those of the operands,
-- from the left; that of the operation
abbrev pub rank : Part → FaultKind → List ℕ
rank TheDefinition fault.Twice = 0 ∷ 0 ∷ []
rank TheDefinition _ = 0 ∷ 1 ∷ []
rank (TheOperand i) _ = 1 ∷ i ∷ []
rank TheOperation _ = 2 ∷ 0 ∷ []

-- no such fault stands
abbrev pub NoneStands : (Part → CellFault → Type 0) → Type 0
NoneStands represents = (part : Part) (f : CellFault) → represents part f → ⊥

-- of such faults this is the first: statement by statement, then by the order in a statement
abbrev pub IsFirst : (Part → CellFault → Type 0) → CellFault → Type 0
IsFirst represents f =
    (part : Part) × represents part f
    × ((other : Part) (g : CellFault) → represents other g
    → (g ≡ f) ⊎ ComesBefore (f.0 ∷ rank part f.2) (g.0 ∷ rank other g.2))

-- a cell's fault: the first of its layout, and only where its layout has none the first of its values
abbrev pub IsFaultOf : Entries → List Statement → CellFault → Type 0
IsFaultOf kept ss f =
    IsFirst (LayoutFault kept ss) f
    ⊎ (NoneStands (LayoutFault kept ss) × IsFirst (ValueFault kept ss) f)

-- a cell without faults
abbrev pub IsFaultless : Entries → List Statement → Type 0
IsFaultless kept ss = NoneStands (LayoutFault kept ss) × NoneStands (ValueFault kept ss)
