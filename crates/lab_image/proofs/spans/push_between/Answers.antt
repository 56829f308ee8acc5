use Rattle.lab_image.proofs.SpanLemmas.{later_spans, between_step, between_last, between_end}
use Rattle.std.proofs.lemmas.List.{drop_all}
use Rattle.lab_image.proofs.spans.push_between.Goals as goal

pub returns-then-from-to : goal.returns-then-from-to
returns-then-from-to c =
    let are =
    later_spans c.args.spans.now c.split_at.result.1.now c.args.low c.args.high c.count_ended.result
    c.requires c.count_ended.ensures c.split_at.ensures.back in
    let last =
    between_last c.args.spans.now c.split_at.result.1.now c.args.low c.args.high c.loop-span.span-index
    c.max-from.result c.min-to.result are c.loop-span-test.true c.max-from.ensures c.min-to.ensures
    c.if-from-to.true in
    between_end c.args.spans.now c.split_at.result.1.now c.loop-span.all.items c.args.all.now.items c.args.low
    c.args.high are (rw last at c.loop-span.invariant)

pub loop-span-preserved : goal.loop-span-preserved
loop-span-preserved c =
    let are =
    later_spans c.args.spans.now c.split_at.result.1.now c.args.low c.args.high c.count_ended.result
    c.requires c.count_ended.ensures c.split_at.ensures.back in
    between_step c.args.spans.now c.split_at.result.1.now c.loop-span.all.items c.push.new.self.items _
    c.args.low c.args.high c.loop-span.span-index c.max-from.result c.min-to.result are
    c.loop-span-test.true c.max-from.ensures c.min-to.ensures c.if-from-to.false
    c.in_ok-push.ensures.items c.loop-span.invariant

pub returns : goal.returns
returns c =
    let are =
    later_spans c.args.spans.now c.split_at.result.1.now c.args.low c.args.high c.count_ended.result
    c.requires c.count_ended.ensures c.split_at.ensures.back in
    let none = drop_all c.loop-span.span-index c.split_at.result.1.now c.loop-span-test.false in
    between_end c.args.spans.now c.split_at.result.1.now c.loop-span.all.items c.args.all.now.items c.args.low
    c.args.high are (rw none at c.loop-span.invariant)
