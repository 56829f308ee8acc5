-- The value of an expression on a board: each term's reads in the order in which they close, then the whole.
use Rattle.std.specs.Prelude.{◌≡◌, ℕ, ◌+◌, List, [], ◌∷◌, Option, Result, Ok, slice_set, replicate, nat_lt}
use Rattle.std.specs.Prelude.{Bool, true, false, not, ◌&&◌, ◌==◌, if◌then◌else◌}
use Rattle.std.specs.Int.{from_bool}
use Rattle.i80_base.specs.declared.instruction.Reg.TheVariants as reg
use Rattle.i80_exec.specs.State.{MachineState, byte_at, word_at, get}
use Rattle.asm_expr.specs.Tree.{Tree}
use Rattle.asm_expr.specs.Value.{value_of}
use Rattle.asm_expr.specs.declared.evaluation.ExprFault.{ExprFault}
use Rattle.asm_syntax.specs.Lexemes.{Piece}
use Rattle.asm_syntax.specs.Outcome.{◌>>=◌}
use Rattle.asm_build.specs.Reading.{symbol_at, value_in}
use Rattle.base_text.specs.Bytes.{Text}
use Rattle.lab_core.specs.Board.{Board}
use Rattle.dap_expr.specs.declared.brackets.Read.{Read}
use Rattle.dap_expr.specs.declared.brackets.Width.{Width}
use Rattle.dap_expr.specs.declared.brackets.Width.TheVariants as width
use Rattle.dap_expr.specs.declared.clause.Clause.{Clause}
use Rattle.dap_expr.specs.declared.clause.Joint.{Joint}
use Rattle.dap_expr.specs.declared.clause.Joint.TheVariants as joint
use Rattle.dap_expr.specs.declared.clause.Sense.{Sense}
use Rattle.dap_expr.specs.declared.clause.Sense.TheVariants as sense
use Rattle.dap_expr.specs.declared.expression.Expression.{Expression}
use Rattle.dap_expr.specs.declared.term.Term.{Term}
use Rattle.dap_expr.specs.Names.{value_named}
use Rattle.dap_expr.specs.Expressions.{expression_of}
use Rattle.dap_expr.specs.Terms.{term_in}

-- the value of a name on a board
abbrev pub named_on : Board → List ℕ → List ℕ → Option ℕ
named_on b reads x = value_named b.symbols b.machine.regs (get b.machine reg.M) reads x

-- the value of a tree after these reads, in which `$` is PC
abbrev pub tree_value : Board → List ℕ → Tree → Result ℕ ExprFault
tree_value b reads tree = value_of (named_on b reads) b.machine.regs.pc tree

-- what is read at an address
abbrev pub read_at : MachineState → Width → ℕ → ℕ
read_at m width.Byte address = byte_at m address
read_at m width.Word address = word_at m address

abbrev pub read_value : Board → List ℕ → Read → Result ℕ ExprFault
read_value b reads read =
    tree_value b reads read.address >>= λ address. Ok (read_at b.machine read.width address)

-- the values of reads with that of one more
abbrev pub with_value : List ℕ → ℕ → ℕ → List ℕ
with_value values number value = if nat_lt number 16 then slice_set values number value else values

-- the values of reads, given those of the first ones
unfoldable pub values_from : Board → ℕ → List ℕ → List Read → Result (List ℕ) ExprFault
values_from b number values [] = Ok values
values_from b number values (r ∷ rs) =
    read_value b values r >>= λ value. values_from b (number + 1) (with_value values number value) rs

abbrev pub read_values : Board → List Read → Result (List ℕ) ExprFault
read_values b rs = values_from b 0 (replicate 16 0) rs

-- the value of a term
abbrev pub term_value : Board → Term → Result ℕ ExprFault
term_value b t = read_values b t.reads >>= λ values. tree_value b values t.tree

-- ---- conditions

-- what is taken of a value
abbrev pub in_sense : Sense → ℕ → ℕ
in_sense sense.Plain value = value
in_sense sense.Truth value = from_bool (not (value == 0))
in_sense sense.Not value = from_bool (value == 0)

abbrev pub clause_value : Board → Clause → Result ℕ ExprFault
clause_value b c = term_value b c.term >>= λ value. Ok (in_sense c.sense value)

-- a part is true if its value isn't 0
abbrev pub is_true : Board → Clause → Result Bool ExprFault
is_true b c = clause_value b c >>= λ value. Ok (not (value == 0))

-- whether a part is true with those before it in its alternative
abbrev pub holds_with : Board → Bool → Clause → Joint → Result Bool ExprFault
holds_with b false c joint.And = Ok false
holds_with b holds c _ = is_true b c

abbrev pub holds_after : Board → Bool → Clause → Result Bool ExprFault
holds_after b holds c = holds_with b holds c c.joint

-- an alternative ends before this part
abbrev pub is_or : Joint → Bool
is_or joint.Or = true
is_or joint.And = false

-- whether a condition is true, where this says whether the alternative before it is
unfoldable pub holds_from : Board → Bool → List Clause → Result Bool ExprFault
holds_from b holds [] = Ok holds
holds_from b holds (c ∷ cs) =
    if holds && is_or c.joint then Ok true
    else (holds_after b holds c >>= λ next. holds_from b next cs)

-- a part alone has its value, and parts together are 1 or 0
abbrev pub clauses_value : Board → List Clause → Result ℕ ExprFault
clauses_value b (c ∷ []) = clause_value b c
clauses_value b cs = holds_from b false cs >>= λ holds. Ok (from_bool holds)

-- the value of an expression
abbrev pub value_on : Board → Expression → Result ℕ ExprFault
value_on b e = clauses_value b e.clauses

-- ---- for laws

-- the value of a name of the assembler
abbrev pub symbol_value : Board → List ℕ → Option ℕ
symbol_value b x = value_in (symbol_at b.symbols x)

-- a text is an expression with this value
abbrev pub HasValue : Board → Text → ℕ → Type 0
HasValue b text value = (e : Expression) × (expression_of text ≡ Ok e) × (value_on b e ≡ Ok value)

-- pieces are a term with this value
abbrev pub TermHasValue : Board → List Piece → ℕ → Type 0
TermHasValue b ps value = (t : Term) × (term_in ps ≡ Ok t) × (term_value b t ≡ Ok value)
