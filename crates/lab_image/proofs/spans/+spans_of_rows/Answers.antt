use Rattle.std.proofs.Common.{◌≡◌, []}
use Rattle.std.proofs.lemmas.Result.{IfOk-weaker}
use Rattle.lab_image.specs.Loads.{Tells}
use Rattle.lab_image.specs.Spans.{AreSpans, overlay}
use Rattle.lab_image.proofs.SpanLemmas.{spans_overlay}
use Rattle.lab_image.proofs.TellLemmas.{tells_halves}
use Rattle.lab_image.proofs.spans.+spans_of_rows.Goals as goal

pub returns-clause-sorted : goal.returns-clause-sorted
returns-clause-sorted t c =
    let front = c.put_front.new.spans.items in
    let first =
    spans_overlay 0 front c.in_ok-first.first.items
    c.in_ok-later.ensures.sorted c.in_ok-first.ensures.sorted in
    let both = spans_overlay 0 _ c.in_ok-second.second.items first c.in_ok-second.ensures.sorted in
    IfOk-weaker c.overlaid_twice.result
    (λ all. all.items ≡ overlay 0 (overlay 0 c.deref.result.now c.deref-2.result.now) c.deref-3.result.now)
    (λ all. AreSpans 0 all.items 65536)
    (λ all e. rw (e, c.deref.ensures.value, c.deref-2.ensures.value, c.deref-3.ensures.value) both)
    c.overlaid_twice.ensures

pub returns-clause-origins : goal.returns-clause-origins
returns-clause-origins t c =
    let front = rw c.new-all.ensures.items at c.in_ok-later.ensures in
    let told =
    tells_halves c.args.source c.args.rows.now c.in_ok-later.later.now
    c.split_at.result.0.now c.split_at.result.1.now
    _ c.put_front.new.spans.items c.in_ok-first.first.items c.in_ok-second.second.items
    front c.split_at.ensures.by_index.0
    c.in_ok-first.ensures.sorted c.in_ok-first.ensures.origins
    c.in_ok-second.ensures.sorted c.in_ok-second.ensures.origins in
    IfOk-weaker c.overlaid_twice.result
    (λ all. all.items ≡ overlay 0 (overlay 0 c.deref.result.now c.deref-2.result.now) c.deref-3.result.now)
    (λ all. Tells c.args.source c.args.rows.now [] all.items)
    (λ all e. rw (e, c.deref.ensures.value, c.deref-2.ensures.value, c.deref-3.ensures.value) told)
    c.overlaid_twice.ensures
