use Rattle.asm_hex.proofs.LineLemmas.{within, cut_at_feed, cut_at_end, empty}
use Rattle.asm_hex.proofs.lines.cut_line.Goals as goal

pub split_at-requires : goal.split_at-requires
split_at-requires c = rw c.line_length.ensures (within c.args.text.now)

pub returns-in-Some-clause-lines : goal.returns-in-Some-clause-lines
returns-in-Some-clause-lines c =
    cut_at_feed c.args.text.now c.split_at.result.0.now c.split_at.result.1.now c.in-Some.behind.now
    c.line_length.result c.in-Some.field-0-0.now c.line_length.ensures c.split_at.ensures.front
    c.split_at.ensures.back c.in-Some.ensures.cases.0

pub returns-in-None-clause-lines : goal.returns-in-None-clause-lines
returns-in-None-clause-lines c =
    cut_at_end c.args.text.now c.split_at.result.0.now c.split_at.result.1.now c.line_length.result c.requires
    c.line_length.ensures c.split_at.ensures.front c.split_at.ensures.back
    (empty c.split_at.result.1.now c.in-None.ensures.cases)
