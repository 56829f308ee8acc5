use Rattle.std.proofs.Common.{rules}
use Rattle.std.proofs.lemmas.Fn.{filter_same}
use Rattle.dap_history.specs.declared.saved.SavedMoment.{SavedMoment}
use Rattle.dap_history.specs.Spacing.{stays}
use Rattle.dap_history.proofs.saved.thin.Goals as goal

pub returns-clause-items : goal.returns-clause-items
returns-clause-items c =
    let test : SavedMoment → _ = λ saved. stays saved.count c.args.now in
    filter_same _ test _ (λ x b f h. let s = h.shows in let m = h.called.met in search (rules, s, m)) _ _
    c.retain.ensures.filtered
