use Rattle.std.proofs.Common.{◌≡◌, ◌∙◌, ◌∷◌, ◌++◌, take, refl}
use Rattle.lab_image.proofs.TellLemmas.{fronts_one, fronts_all}
use Rattle.lab_image.proofs.spans.put_front.Goals as goal

pub returns-in_default : goal.returns-in_default
returns-in_default c =
    let rest = c.split_at.result.1.now in
    let whole : c.args.rows.now ≡ take c.in_ok-count.count c.args.rows.now ++ rest =
    c.split_at.ensures.by_index.0 ∙ rw c.split_at.ensures.front refl in
    fronts_all c.args.source c.args.rows.now rest c.in_ok-count.count
    c.args.spans.now.items c.put_in_order.new.spans.items
    whole c.in_default.ensures.cases c.in_ok-count.ensures.origins c.in_ok-count.ensures.sorted

pub returns : goal.returns
returns c =
    let whole : c.args.rows.now
    ≡ take c.in_ok-count.count c.args.rows.now ++ c.in-Some.row.now ∷ c.in-Some.later.now =
    c.split_at.ensures.by_index.0 ∙ rw (c.split_at.ensures.front, c.in-Some.ensures.cases.0) refl in
    fronts_one c.args.source c.args.rows.now c.in-Some.later.now c.in_ok-count.count c.in-Some.row.now
    c.args.spans.now.items c.put_in_order.new.spans.items c.put_row.new.spans.items
    whole c.in_ok-count.ensures.origins c.in_ok-put_row.ensures.origins c.in_ok-put_row.ensures.sorted
