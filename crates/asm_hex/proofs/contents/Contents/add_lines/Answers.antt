use Rattle.std.proofs.Common.{arith, ◌+◌, ◌∙◌, sym}
use Rattle.asm_hex.proofs.ContentsLemmas.{lines_more, line_fails, lines_end, count_end, count_more}
use Rattle.asm_hex.proofs.contents.Contents.add_lines.Goals as goal

pub returns-in-Err-clause-lines : goal.returns-in-Err-clause-lines
returns-in-Err-clause-lines c =
    line_fails c.in-Err.fault (c.loop-rest.count + 1) _ _ c.loop-rest.rest.now _ _ c.in-Err.ensures
    c.cut_line.ensures.lines c.loop-rest.invariant.lines

pub loop-rest-preserved : goal.loop-rest-preserved
loop-rest-preserved c = record {
  lines =
      lines_more (c.loop-rest.count + 1) _ _ _ c.loop-rest.rest.now _ _ c.in_default.ensures
      c.cut_line.ensures.lines c.loop-rest.invariant.lines;
  count =
      count_more c.loop-rest.rest.now _ _ c.loop-rest.count _ c.cut_line.ensures.lines
      c.loop-rest.invariant.count;
  few = omega (arith, c.cut_line.ensures.less, c.loop-rest.invariant.few);
}

pub returns-clause-lines : goal.returns-clause-lines
returns-clause-lines c = lines_end (c.loop-rest.count + 1) _ c.loop-rest.rest.now _
    (sym c.is_empty.ensures ∙ c.loop-rest-test.false)
    c.loop-rest.invariant.lines

pub returns-clause-count : goal.returns-clause-count
returns-clause-count c = count_end c.loop-rest.rest.now _ _ (sym c.is_empty.ensures ∙ c.loop-rest-test.false)
    c.loop-rest.invariant.count
