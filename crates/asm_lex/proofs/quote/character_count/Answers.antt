use Rattle.std.proofs.Common.{arith, ap, length}
use Rattle.asm_lex.proofs.Quotes.{characters_of-quote}
use Rattle.asm_lex.proofs.quote.character_count.Goals as goal

pub loop-rest-preserved-then-rest-eq39 : goal.loop-rest-preserved-then-rest-eq39
loop-rest-preserved-then-rest-eq39 c = record {
  within = omega arith;
  goes_on =
      rw c.split_at.ensures.back (omega
      (arith, ap length (characters_of-quote c.loop-rest.rest.now (omega arith) c.if-rest-eq39.true)));
}
