use Rattle.std.proofs.Common.{◌++◌, ◌∙◌, ap, not, string_bytes}
use Rattle.asm_hex.specs.Written.{records_text}
use Rattle.asm_hex.proofs.WritingLemmas.{records_covered, records_gap, record_added}
use Rattle.asm_hex.proofs.writing.push_cell.Goals as goal

pub returns-then-covered-gt0 : goal.returns-then-covered-gt0
returns-then-covered-gt0 c =
    ap (λ records. string_bytes c.args.text.now ++ records_text records)
    (records_covered c.args.address c.args.covered c.args.cells.now c.if-covered-gt0.true c.requires)

pub returns-then-is_none : goal.returns-then-is_none
returns-then-is_none c =
    ap (λ records. string_bytes c.args.text.now ++ records_text records)
    (records_gap c.args.address c.args.covered c.args.cells.now c.if-covered-gt0.false
    c.requires (c.is_none.ensures ∙ ap not c.if-is_none.true))

pub returns : goal.returns
returns c =
    rw (c.in_ok-count.ensures.text, c.saturating_sub.ensures, c.in_ok-count.ensures.count)
    (record_added (string_bytes c.args.text.now) c.args.address c.args.covered c.args.cells.now
    c.split_at.result.0.now c.if-covered-gt0.false c.requires
    (c.is_none.ensures ∙ ap not c.if-is_none.false)
    (rw c.min.ensures at c.split_at.ensures.front))
