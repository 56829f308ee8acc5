use Rattle.std.proofs.Common.{◌∙◌, sym, arith}
use Rattle.lab_image.proofs.SpanLemmas.{overlay_last}
use Rattle.lab_image.proofs.spans.put.Goals as goal

pub returns-then-count_ended-len : goal.returns-then-count_ended-len
returns-then-count_ended-len c =
    let ends = rw c.deref.ensures.value at c.count_ended.ensures in
    c.in_ok-push.ensures.items
    ∙ sym (overlay_last c.args.spans.now.items c.args.span c.count_ended.result c.requires.sorted
    c.requires.order ends (omega arith))
