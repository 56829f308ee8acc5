use Rattle.std.proofs.Common.{sym, arith}
use Rattle.lab_image.proofs.SpanLemmas.{origin_found, origin_missed, origin_past}
use Rattle.lab_image.proofs.spans.origin_in.Goals as goal

pub returns-then-place-spans : goal.returns-then-place-spans
returns-then-place-spans c =
    sym (origin_past c.args.spans.now c.args.address
    (λ k h. omega (arith, c.count_ended-place.ensures.ended k (omega arith))))

pub returns-then-from-span : goal.returns-then-from-span
returns-then-from-span c =
    let at = c.count_ended-place.ensures in
    sym (origin_missed 0 65536 c.args.spans.now c.args.address c.count_ended-place.result c.requires
    (omega arith) (λ k h. omega (arith, at.ended k h)) (omega arith))

pub returns : goal.returns
returns c =
    let at = c.count_ended-place.ensures in
    sym (origin_found 0 65536 c.args.spans.now c.args.address c.count_ended-place.result c.requires
    (omega arith) (λ k h. omega (arith, at.ended k h)) (omega arith)
    (omega (arith, at.beyond c.count_ended-place.result (omega arith) (omega arith))))
