use Rattle.std.proofs.Common.{◌≡◌, drop}
use Rattle.asm_syntax.specs.Lexemes.{pieces_of}
use Rattle.dap_expr.specs.Brackets.{flat_from, flat_of, taken_out}
use Rattle.dap_expr.proofs.brackets.take_reads.Given as goal

abbrev pub invariant-loop-placed : goal.invariant-loop-placed
invariant-loop-placed l =
    flat_from (flat_of l.flat) (pieces_of (drop l.placed-index l.tokens)) ≡ taken_out (pieces_of l.tokens)
