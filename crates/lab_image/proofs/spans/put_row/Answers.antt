use Rattle.std.proofs.Common.{◌≡◌, [], ◌∷◌, arith}
use Rattle.std.proofs.lemmas.Result.{on_ok_weaker}
use Rattle.lab_image.specs.Spans.{AreSpans, overlay}
use Rattle.lab_image.proofs.SpanLemmas.{spans_overlay}
use Rattle.lab_image.proofs.TellLemmas.{tells_span}
use Rattle.lab_image.proofs.spans.put_row.Goals as goal

pub returns-in-Some-clause-sorted : goal.returns-in-Some-clause-sorted
returns-in-Some-clause-sorted c =
    let are : AreSpans 0 (c.in-Some.span ∷ []) 65536 =
    (omega arith, c.in-Some.ensures.order.0, c.in-Some.ensures.order.1) in
    on_ok_weaker c.put.result (λ (put : c.put.new.spans.items
    ≡ overlay 0 c.args.spans.now.items (c.in-Some.span ∷ [])). rw put
    (spans_overlay 0 c.args.spans.now.items (c.in-Some.span ∷ []) c.requires are)) c.put.ensures

pub returns-in-Some-clause-origins : goal.returns-in-Some-clause-origins
returns-in-Some-clause-origins c =
    let are : AreSpans 0 (c.in-Some.span ∷ []) 65536 =
    (omega arith, c.in-Some.ensures.order.0, c.in-Some.ensures.order.1) in
    on_ok_weaker c.put.result (λ (put : c.put.new.spans.items
    ≡ overlay 0 c.args.spans.now.items (c.in-Some.span ∷ [])). rw put
    (tells_span c.args.source c.args.row.now c.args.spans.now.items c.in-Some.span c.in-Some.ensures.value
    are)) c.put.ensures
