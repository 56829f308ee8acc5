use Rattle.std.proofs.Common.{◌≡◌, ◌+◌, length}
use Rattle.asm_lex.specs.Texts.{moved_by, closing_quote}
use Rattle.asm_lex.proofs.quote.find_closing_quote.Given as goal

abbrev pub invariant-loop-rest : goal.invariant-loop-rest
invariant-loop-rest l = record {
  within : l.len + length l.rest ≡ length l.bytes;
  goes_on : moved_by l.len (closing_quote l.rest) ≡ closing_quote l.bytes;
}

abbrev pub decreases-loop-rest : goal.decreases-loop-rest
decreases-loop-rest l = length l.rest
