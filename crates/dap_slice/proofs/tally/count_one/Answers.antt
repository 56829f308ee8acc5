use Rattle.std.proofs.Common.{◌∙◌, not, set, ap, sym}
use Rattle.dap_slice.specs.Counts.{is_hit}
use Rattle.dap_slice.proofs.TallyLemmas.{hit_here, hit_at, no_hit_at, uncounted_at}
use Rattle.dap_slice.proofs.tally.count_one.Goals as goal

pub returns-then-is_hit : goal.returns-then-is_hit
returns-then-is_hit c = λ was b counts p represents after tally here.
    let hits = c.args.hits.now in
    let i = c.args.index in
    let found = c.in-Some.ensures.lookup.3 in
    let hit =
    hit_here c.args.points.now counts hits i p c.in-Some.point.now was b tally here (found.1 p)
    ∙ sym (c.is_hit.ensures was b represents after) in
    hit_at c.args.points.now counts hits _ i p _ (is_hit counts p.id was b) tally c.requires here
    (hit ∙ c.if-is_hit.true) (ap (set hits i) c.once_more.ensures)

pub returns-else-is_hit : goal.returns-else-is_hit
returns-else-is_hit c = λ was b counts p represents after tally here.
    let hits = c.args.hits.now in
    let i = c.args.index in
    let found = c.in-Some.ensures.lookup.3 in
    let hit =
    hit_here c.args.points.now counts hits i p c.in-Some.point.now was b tally here (found.1 p)
    ∙ sym (c.is_hit.ensures was b represents after) in
    no_hit_at c.args.points.now counts hits i p (is_hit counts p.id was b) tally here
    (hit ∙ c.if-is_hit.false)

pub returns-then-is_none : goal.returns-then-is_none
returns-then-is_none c = λ was b counts p represents after tally here.
    uncounted_at c.args.points.now counts c.args.hits.now c.args.index p _ (is_hit counts p.id was b) tally
    c.requires here (c.is_none.ensures ∙ ap not c.if-is_none.true)
