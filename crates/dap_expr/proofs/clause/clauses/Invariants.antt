use Rattle.std.proofs.Common.{◌≡◌, drop, []}
use Rattle.asm_syntax.specs.Lexemes.{pieces_of}
use Rattle.dap_expr.specs.declared.clause.Joint.TheVariants as joint
use Rattle.dap_expr.specs.Clauses.{drafted_from, draft_of}
use Rattle.dap_expr.proofs.clause.clauses.Given as goal

abbrev pub invariant-loop-placed : goal.invariant-loop-placed
invariant-loop-placed l =
    drafted_from (draft_of l.draft) (pieces_of (drop l.placed-index l.tokens))
    ≡ drafted_from (record { clauses = []; joint = joint.Or; pieces = [] }) (pieces_of l.tokens)
