use Rattle.std.proofs.Common.{◌≡◌, ◌+◌, [], drop, length}
use Rattle.asm_text.specs.Statements.{statements_from, texts_of}
use Rattle.asm_text.proofs.Texts.{joined}
use Rattle.asm_text.proofs.statements.statements_on.Given as goal

abbrev pub invariant-loop-index : goal.invariant-loop-index
invariant-loop-index l = record {
  reads : joined l.statements (statements_from (l.index + 1) l.ifs (texts_of (drop l.index l.lines)))
      ≡ statements_from 1 [] (texts_of l.lines);
  count : length l.statements ≡ l.index;
}
