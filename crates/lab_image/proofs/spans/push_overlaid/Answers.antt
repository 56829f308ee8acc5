use Rattle.std.proofs.Common.{◌≡◌, ◌++◌}
use Rattle.std.proofs.lemmas.Result.{on_ok_weaker}
use Rattle.lab_image.specs.Spans.{between}
use Rattle.lab_image.proofs.SpanLemmas.{overlay_step, overlay_end}
use Rattle.lab_image.proofs.spans.push_overlaid.Goals as goal

pub loop-span-preserved : goal.loop-span-preserved
loop-span-preserved c =
    overlay_step c.args.old.now c.args.new.now
    c.loop-span.all.items c.push_between.new.all.items c.push.new.self.items _
    c.loop-span.low c.loop-span.span-index c.loop-span-test.true
    c.in_ok-push_between.ensures c.in_ok-push.ensures.items c.loop-span.invariant

pub returns : goal.returns
returns c =
    on_ok_weaker c.push_between-2.result
    (λ (pushed : c.push_between-2.new.all.items
    ≡ c.loop-span.all.items ++ between c.loop-span.low 65536 c.args.old.now).
    overlay_end c.args.old.now c.args.new.now c.loop-span.all.items c.push_between-2.new.all.items _
    c.loop-span.low c.loop-span.span-index c.loop-span-test.false pushed c.loop-span.invariant)
    c.push_between-2.ensures
