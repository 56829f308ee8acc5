use Rattle.std.proofs.Common.{◌∙◌, ◌++◌, [], sym, ap}
use Rattle.std.specs.List.{cons_option}
use Rattle.lab_views.specs.Info.{breakpoints_in}
use Rattle.lab_views.proofs.ListLemmas.{filter_map-more}
use Rattle.lab_views.proofs.info.breakpoints.Goals as goal

pub loop-list-preserved : goal.loop-list-preserved
loop-list-preserved c =
    let found = breakpoints_in c.args.sources.now in
    c.in_ok-push_breakpoints.ensures
    ∙ ap (λ made. made ++ cons_option (found c.list-item.result) []) c.loop-list.invariant
    ∙ sym (filter_map-more found c.args.lists.now c.loop-list.list-index c.list-item.result
    c.loop-list-test.true c.list-item.is)
