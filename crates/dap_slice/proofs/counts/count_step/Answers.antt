use Rattle.std.proofs.Common.{◌<◌, length, arith}
use Rattle.dap_slice.proofs.CountLemmas.{so_far, same_length, element, after_so_far, count_more}
use Rattle.dap_slice.proofs.counts.count_step.Goals as goal

pub loop-index-preserved : goal.loop-index-preserved
loop-index-preserved c = λ was b represents after.
    let all = c.args.points.now in
    let ps = c.loop-index.points in
    let i = c.loop-index.index in
    let is = c.loop-index.invariant was b represents after in
    let long = same_length ps all (so_far all ps was b i is) in
    let here : i < length ps = omega arith in
    let inside : i < length all = omega arith in
    let p = element ps i here in
    count_more all ps c.count_one.new.points was b i p.0 inside is p.1
    (c.count_one.ensures was b p.0 represents (after_so_far all ps was b i c.args.marks.now is after) p.1)
