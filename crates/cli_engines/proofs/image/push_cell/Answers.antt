use Rattle.std.proofs.Common.{◌++◌, ◌∙◌, ap, not, string_bytes}
use Rattle.cli_engines.proofs.ImageLemmas.{lines_printed, lines_gap, line_added}
use Rattle.cli_engines.proofs.image.push_cell.Goals as goal

pub returns-then-printed-gt0 : goal.returns-then-printed-gt0
returns-then-printed-gt0 c =
    ap (λ bytes. string_bytes c.args.text.now ++ bytes)
    (lines_printed c.args.address c.args.printed c.args.cells.now c.if-printed-gt0.true c.requires)

pub returns-then-is_none : goal.returns-then-is_none
returns-then-is_none c =
    ap (λ bytes. string_bytes c.args.text.now ++ bytes)
    (lines_gap c.args.address c.args.printed c.args.cells.now c.if-printed-gt0.false c.requires
    (c.is_none.ensures ∙ ap not c.if-is_none.true))

pub returns : goal.returns
returns c =
    rw (
      c.in_ok-push_str-2.ensures.bytes,
      c.in_ok-count.ensures.text,
      c.in_ok-push_str.ensures.bytes,
      c.in_ok-push_word.ensures,
      c.saturating_sub.ensures,
      c.in_ok-count.ensures.count,
    )
    (line_added (string_bytes c.args.text.now) c.args.address c.args.printed c.args.cells.now
    c.split_at.result.0.now c.if-printed-gt0.false c.requires
    (c.is_none.ensures ∙ ap not c.if-is_none.false)
    (rw c.min.ensures at c.split_at.ensures.front))
