use Rattle.std.proofs.Common.{◌∙◌, nat_lt, refl, ap}
use Rattle.dap_history.specs.declared.input.Recorded.{Recorded}
use Rattle.dap_history.specs.Histories.{only_if}
use Rattle.dap_history.proofs.HistoryLemmas.{history_longer}
use Rattle.dap_history.proofs.history.History.record.Goals as goal

pub returns-clause-history : goal.returns-clause-history
returns-clause-history c = λ start is.
    let r : Recorded = record { count = c.args.count; input = c.args.input } in
    history_longer start _ _ r (rw (← c.self.view_is) at is) (rw (← c.self.view_is) at c.requires) refl
    c.in_ok-append.ensures.ok c.keep_before.ensures (c.if_before.ensures ∙ ap (only_if (λ saved. nat_lt
    saved.count c.args.count)) c.take.ensures.value)
