use Rattle.std.proofs.Common.{◌∙◌, nat_le, refl, ap}
use Rattle.dap_history.specs.Histories.{only_if}
use Rattle.dap_history.proofs.HistoryLemmas.{history_cut}
use Rattle.dap_history.proofs.history.History.forget_after.Goals as goal

pub returns-clause-history : goal.returns-clause-history
returns-clause-history c = λ start is.
    history_cut start _ _ c.args.count (rw (← c.self.view_is) at is) refl c.forget_after.ensures.kept
    c.keep_up_to.ensures (c.if_up_to.ensures ∙ ap (only_if (λ saved. nat_le saved.count c.args.count))
    c.take.ensures.value)
