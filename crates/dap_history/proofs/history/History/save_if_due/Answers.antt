use Rattle.std.proofs.Common.{◌∙◌, ◌∷◌, ◌++◌, [], ap}
use Rattle.std.specs.List.{filter}
use Rattle.lab_core.specs.Moments.{IsMomentOf}
use Rattle.dap_history.specs.declared.saved.SavedMoment.{SavedMoment}
use Rattle.dap_history.specs.Spacing.{stays}
use Rattle.dap_history.specs.Runs.{board_at}
use Rattle.dap_history.specs.Histories.{HistoryState}
use Rattle.dap_history.proofs.HistoryLemmas.{history_saved, same_moment}
use Rattle.dap_history.proofs.history.History.save_if_due.Goals as goal

pub returns-clause-history : goal.returns-clause-history
returns-clause-history c = λ start is has.
    let saved : SavedMoment = record { count = c.args.count; moment = c.in_ok-moment.moment } in
    let h : HistoryState = c.args.self.now in
    let was = board_at start h.log c.args.count in
    let moment : IsMomentOf c.in_ok-moment.moment was =
    same_moment c.in_ok-moment.moment has.now was (c.in_ok-moment.ensures has.now has.represents)
    has.machine has.past has.trace in
    let moments = ap (λ (h : HistoryState). h.moments) c.self.view_is in
    let test : SavedMoment → _ = λ saved. stays saved.count c.args.count in
    history_saved start h _ test saved is
    (ap (λ (h : HistoryState). h.start) c.self.view_is) (ap (λ (h : HistoryState). h.log) c.self.view_is)
    (c.push_reserved.ensures.items
    ∙ ap (λ ms. ms ++ saved ∷ [])
    (c.thin.ensures.items ∙ ap (filter test) (c.in_ok-reserve.ensures.items ∙ moments)))
    (ap (λ (h : HistoryState). h.near) c.self.view_is) moment
