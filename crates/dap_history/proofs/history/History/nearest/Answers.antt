use Rattle.std.proofs.Common.{◌∙◌, ap, subst, sym}
use Rattle.std.specs.List.{All}
use Rattle.std.specs.Option.{IfSome}
use Rattle.dap_history.specs.Histories.{HistoryState, IsSavedOf}
use Rattle.dap_history.proofs.history.History.nearest.Goals as goal

pub returns-then-near-count-clause-saved : goal.returns-then-near-count-clause-saved
returns-then-near-count-clause-saved c = λ start is.
    let near = ap (λ (h : HistoryState). h.near) c.self.view_is in
    subst (λ saved. IfSome saved (IsSavedOf start c.args.self.now.log))
    (sym (c.as_ref-then-near-count.ensures.value ∙ near)) is.near

pub returns-else-count_of-near-clause-saved : goal.returns-else-count_of-near-clause-saved
returns-else-count_of-near-clause-saved c = λ start is.
    let log = c.args.self.now.log in
    let moments = ap (λ (h : HistoryState). h.moments) c.self.view_is in
    c.nearest-other.ensures.saved start log
    (subst (λ saved. All (IsSavedOf start log) saved) (sym (c.as_slice.ensures.value ∙ moments)) is.moments)
