use Rattle.std.proofs.Common.{◌≡◌, ◌≤◌, ◌+◌, length}
use Rattle.asm_syntax.specs.Lexemes.{pieces_of}
use Rattle.asm_lex.specs.Tokens.{tokens_from, tokens_of}
use Rattle.asm_lex.proofs.Scan.{with_front}
use Rattle.asm_lex.proofs.lexer.tokens.Given as goal

abbrev pub invariant-loop-rest : goal.invariant-loop-rest
invariant-loop-rest l = record {
  within : l.column + length l.rest ≤ length l.line + 1;
  goes_on : with_front (pieces_of l.found.items) (tokens_from 0 l.column l.rest) ≡ tokens_of l.line;
}

abbrev pub decreases-loop-rest : goal.decreases-loop-rest
decreases-loop-rest l = length l.rest
