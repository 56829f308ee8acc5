use Rattle.lab_image.proofs.SpanLemmas.{spans_overlay}
use Rattle.lab_image.proofs.spans.overlaid_twice.Goals as goal

pub overlaid-requires-2 : goal.overlaid-requires-2
overlaid-requires-2 c =
    rw (c.deref.ensures.value, c.in_ok-all.ensures)
    (spans_overlay 0 c.args.old.now c.args.first.now c.requires.old c.requires.first)
