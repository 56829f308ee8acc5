use Rattle.std.proofs.Common.{◌≡◌, ◌∙◌, ◌+◌, ◌∷◌, [], ◌++◌, length, reverse, sym, ap}
use Rattle.std.proofs.lemmas.List.{length-reverse}
use Rattle.lab_views.specs.Paging.{asked_for}
use Rattle.lab_views.specs.Parts.{parts_with}
use Rattle.lab_views.specs.Frames.{all_frames}
use Rattle.lab_views.proofs.ListLemmas.{page_more, page_done}
use Rattle.lab_views.proofs.StackLemmas.{length-frames_from}
use Rattle.lab_views.proofs.frames.frames.Goals as goal

pub loop-index-preserved : goal.loop-index-preserved
loop-index-preserved c = λ past loads represents.
    let all = all_frames (parts_with c.args.parts.now past loads) in
    let frame = c.in_ok-frame.frame in
    c.in_ok-push.ensures.ok
    ∙ ap (λ made. made ++ frame ∷ []) (c.loop-index.invariant past loads represents)
    ∙ sym (page_more all c.args.start c.loop-index.index frame c.loop-index.auto.index
    (c.in_ok-frame.ensures past loads represents))

pub returns : goal.returns
returns c = λ past loads represents.
    let p = parts_with c.args.parts.now past loads in
    let fs = c.args.parts.now.frames.now in
    let len : c.len.result + 1 ≡ length (all_frames p) =
    ap (λ n. n + 1) (c.len.ensures.len ∙ sym (length-reverse fs))
    ∙ sym (length-frames_from p 1 c.args.parts.now.machine.now.regs.pc (reverse fs)) in
    c.loop-index.invariant past loads represents
    ∙ page_done (all_frames p) c.args.start (asked_for 64 64 c.args.levels) c.asked_for-most.result
    (c.len.result + 1)
    c.end_of-end.result c.loop-index.index c.asked_for-most.ensures len c.end_of-end.ensures.end
    c.loop-index.auto.index c.loop-index-test.false c.loop-index.auto.index-end
