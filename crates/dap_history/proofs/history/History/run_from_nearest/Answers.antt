use Rattle.std.proofs.Common.{◌≡◌, ◌∙◌, ap, arith}
use Rattle.dap_history.specs.declared.saved.SavedMoment.{SavedMoment}
use Rattle.dap_history.specs.Logs.{later_than}
use Rattle.dap_history.specs.Runs.{board_at}
use Rattle.dap_history.specs.Histories.{HistoryState}
use Rattle.dap_history.proofs.RunLemmas.{goes_on}
use Rattle.dap_history.proofs.history.History.run_from_nearest.Goals as goal

pub returns-in-Some-clause-ok : goal.returns-in-Some-clause-ok
returns-in-Some-clause-ok c = λ start now is represents.
    let h : HistoryState = c.args.self.now in
    let saved : SavedMoment = c.in-Some.saved.now in
    let log = ap (λ (h : HistoryState). h.log) c.self.view_is in
    let later : c.later_than-later.result.now ≡ later_than saved.count h.log =
    c.later_than-later.ensures ∙ ap (later_than saved.count) log in
    let split =
    goes_on 0 saved.count c.args.count start h.log is.ascends (omega arith) c.in-Some.ensures.before in
    rw (split, ← later)
    (c.rewind.ensures.ok (board_at start h.log saved.count) now (c.in-Some.ensures.saved start is) represents)

pub returns-in-Some-clause-rest : goal.returns-in-Some-clause-rest
returns-in-Some-clause-rest c = λ start now is represents.
    c.rewind.ensures.rest (board_at start c.args.self.now.log c.in-Some.saved.now.count) now
    (c.in-Some.ensures.saved start is) represents
