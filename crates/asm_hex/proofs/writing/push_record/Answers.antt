use Rattle.std.proofs.Common.{arith, refl}
use Rattle.asm_hex.proofs.WritingLemmas.{few_leading, line_written}
use Rattle.asm_hex.proofs.writing.push_record.Goals as goal

pub overflow_cast-count : goal.overflow_cast-count
overflow_cast-count c =
    omega (arith, c.count_leading-count.ensures, few_leading c.args.cells.now, c.requires)

pub returns-clause-text : goal.returns-clause-text
returns-clause-text c =
    rw (
      c.in_ok-push_str-2.ensures.bytes,
      c.in_ok-push_byte.ensures,
      c.in_ok-total.ensures.text,
      c.in_ok-head.ensures.text,
      c.in_ok-push_str.ensures.bytes,
      c.count_leading-count.ensures,
    )
    (line_written _ c.args.address c.args.kind c.in_ok-head.head c.in_ok-total.total _ c.args.cells.now
    (rw c.count_leading-count.ensures at c.in_ok-head.ensures.sum) c.in_ok-total.ensures.sum refl)
