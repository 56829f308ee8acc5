use Rattle.std.proofs.Common.{rules}
use Rattle.dap_history.specs.declared.saved.SavedMoment.{SavedMoment}
use Rattle.dap_history.proofs.HistoryLemmas.{near_saved}
use Rattle.dap_history.proofs.history.History.save_near.Goals as goal

pub returns-in-Ok : goal.returns-in-Ok
returns-in-Ok c = λ start is has.
    let saved : SavedMoment = record { count = c.args.count; moment = c.in-Ok.moment } in
    near_saved start _ c.match-self.self saved c.args.lab.now is has (c.in-Ok.ensures has.now has.represents)
    (search rules)
