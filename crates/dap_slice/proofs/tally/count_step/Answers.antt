use Rattle.std.proofs.Common.{◌<◌, ◌≤◌, ◌∙◌, length, ap, arith}
use Rattle.std.proofs.lemmas.List.{length-map}
use Rattle.dap_slice.proofs.CountLemmas.{element}
use Rattle.dap_slice.proofs.TallyLemmas.{so_far, so_far_length, tally_so_far, tally_more, tally_all}
use Rattle.dap_slice.proofs.tally.count_step.Goals as goal

pub loop-index-preserved : goal.loop-index-preserved
loop-index-preserved c = λ was b all represents after tally.
    let i = c.loop-index.index in
    let ps = so_far all was b i in
    let hits = c.loop-index.hits in
    let is = c.loop-index.invariant was b all represents after tally in
    let test : i < length hits = c.loop-index-test.true in
    let long = so_far_length all was b i hits is in
    let as_long = ap length is ∙ length-map ps (λ p. p.hits) in
    let here : i < length ps = omega (arith, test, as_long) in
    let inside : i < length all = omega (arith, test, long) in
    let p = element ps i here in
    tally_more all was b i p.0 c.count_one.new.hits inside p.1
    (c.count_one.ensures was b ps p.0 represents after
    (tally_so_far c.args.points.now all was b i hits tally.others is) p.1)

pub returns : goal.returns
returns c = λ was b all represents after tally.
    let i = c.loop-index.index in
    let hits = c.loop-index.hits in
    let is = c.loop-index.invariant was b all represents after tally in
    let long = so_far_length all was b i hits is in
    let test = c.loop-index-test.false in
    let end : length all ≤ i = omega (arith, test, long) in
    tally_all c.args.points.now all was b i hits tally.others end is
