use Rattle.std.proofs.Common.{◌∙◌, sym, ap, not}
use Rattle.kern_calls.specs.declared.call.Arrival.{Arrival}
use Rattle.kern_net.specs.Wakes.{spared_by, concerns_worker}
use Rattle.kern_net.proofs.WakeLemmas.{gives_none}
use Rattle.kern_net.proofs.wakes.concerns_worker.Goals as goal

pub returns-in-Subscribe-clause-law : goal.returns-in-Subscribe-clause-law
returns-in-Subscribe-clause-law c = λ none. gives_none c.args.call.now (ap concerns_worker c.in-Subscribe.is)

pub returns-in-Arrive-clause-law : goal.returns-in-Arrive-clause-law
returns-in-Arrive-clause-law c = λ none.
    gives_none c.args.call.now (ap concerns_worker c.in-Arrive.is
    ∙ ap (λ (a : Arrival). not (spared_by a.request.body)) (sym c.get.ensures) ∙ sym c.asks_for_work.ensures
    ∙ none)
