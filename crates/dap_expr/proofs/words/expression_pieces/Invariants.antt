use Rattle.std.proofs.Common.{◌≡◌, ◌≤◌, ◌-◌, ◌++◌, length, drop}
use Rattle.asm_syntax.specs.Lexemes.{pieces_of}
use Rattle.dap_expr.specs.Words.{expression_pieces}
use Rattle.dap_expr.proofs.words.expression_pieces.Given as goal

abbrev pub invariant-loop-index : goal.invariant-loop-index
invariant-loop-index l = record {
  same :
      pieces_of l.found.items ++ expression_pieces (pieces_of (drop l.index l.tokens))
      ≡ expression_pieces (pieces_of l.tokens);
  within : l.index ≤ length l.tokens;
}

abbrev pub decreases-loop-index : goal.decreases-loop-index
decreases-loop-index l = length l.tokens - l.index
