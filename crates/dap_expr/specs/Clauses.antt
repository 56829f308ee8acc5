-- The parts of a condition: `||` separates alternatives, `&&` what must hold in one, and `!` before a part
-- negates it. All three are weaker than the assembler's operators.
use Rattle.std.specs.Prelude.{List, [], ◌∷◌, ◌++◌, Option, Some, None, Result, Ok, if◌then◌else◌, ◌==◌}
use Rattle.asm_syntax.specs.Lexemes.{Lexeme, Sign, Piece, pieces_of}
use Rattle.asm_syntax.specs.Outcome.{Fault, ◌>>=◌}
use Rattle.asm_lex.specs.Operators.{is_sign}
use Rattle.dap_expr.specs.declared.clause.Clause.{Clause}
use Rattle.dap_expr.specs.declared.clause.Draft as declared
use Rattle.dap_expr.specs.declared.clause.Joint.{Joint}
use Rattle.dap_expr.specs.declared.clause.Joint.TheVariants as joint
use Rattle.dap_expr.specs.declared.clause.Sense.{Sense}
use Rattle.dap_expr.specs.declared.clause.Sense.TheVariants as sense
use Rattle.dap_expr.specs.Words.{and_sign, or_sign, exclamation}
use Rattle.dap_expr.specs.Terms.{term_in}

abbrev pub joint_of : Lexeme → Option Joint
joint_of (Sign s) = if s == and_sign then Some joint.And else (if s == or_sign then Some joint.Or else None)
joint_of _ = None

abbrev pub opposite : Sense → Sense
opposite sense.Plain = sense.Not
opposite sense.Truth = sense.Not
opposite sense.Not = sense.Truth

-- the part that pieces are, where this is taken of what follows
unfoldable pub clause_from : Joint → Sense → List Piece → Result Clause Fault
clause_from j s [] = term_in [] >>= λ t. Ok (record { joint = j; sense = s; term = t })
clause_from j s (p ∷ ps) =
    if is_sign exclamation p.1 then clause_from j (opposite s) ps
    else (term_in (p ∷ ps) >>= λ t. Ok (record { joint = j; sense = s; term = t }))

abbrev pub clause_of : Joint → List Piece → Result Clause Fault
clause_of j ps = clause_from j sense.Plain ps

-- the parts so far, and the joint and the pieces of the one that isn't complete
pub record Draft : Type 0 where
  pub clauses : List Clause
  pub joint : Joint
  pub pieces : List Piece

abbrev pub draft_of : declared.Draft → Draft
draft_of d = record { clauses = d.clauses.items; joint = d.joint; pieces = pieces_of d.tokens.items }

abbrev pub with_last_clause : Draft → Result Draft Fault
with_last_clause d =
    clause_of d.joint d.pieces
    >>= λ c. Ok (record { clauses = d.clauses ++ c ∷ []; joint = d.joint; pieces = [] })

abbrev pub joined_by : Draft → Piece → Option Joint → Result Draft Fault
joined_by d p None = Ok (record d { pieces = d.pieces ++ p ∷ [] })
joined_by d p (Some j) = with_last_clause d >>= λ whole. Ok (record whole { joint = j })

-- the parts after one more piece
abbrev pub step : Draft → Piece → Result Draft Fault
step d p = joined_by d p (joint_of p.1)

unfoldable pub drafted_from : Draft → List Piece → Result Draft Fault
drafted_from d [] = with_last_clause d
drafted_from d (p ∷ ps) = step d p >>= λ next. drafted_from next ps

-- the parts that pieces are
abbrev pub clauses_of : List Piece → Result (List Clause) Fault
clauses_of ps =
    drafted_from (record { clauses = []; joint = joint.Or; pieces = [] }) ps >>= λ d. Ok d.clauses
