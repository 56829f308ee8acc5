use Rattle.std.proofs.Common.{◌≡◌, drop}
use Rattle.asm_syntax.specs.Lexemes.{pieces_of}
use Rattle.dap_expr.specs.Clauses.{clause_from, clause_of}
use Rattle.dap_expr.proofs.clause.clause_of.Given as goal

abbrev pub invariant-loop-index : goal.invariant-loop-index
invariant-loop-index l =
    clause_from l.fn.joint l.sense (pieces_of (drop l.index l.tokens))
    ≡ clause_of l.fn.joint (pieces_of l.tokens)
