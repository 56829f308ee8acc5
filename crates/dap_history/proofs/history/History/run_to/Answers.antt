use Rattle.std.proofs.Common.{◌≡◌, ◌∙◌, ◌≤◌, ap, arith}
use Rattle.dap_history.specs.Logs.{later_than}
use Rattle.dap_history.specs.Runs.{board_at}
use Rattle.dap_history.specs.Histories.{HistoryState}
use Rattle.dap_history.proofs.RunLemmas.{goes_on}
use Rattle.dap_history.proofs.ReplayLemmas.{rest_on}
use Rattle.dap_history.proofs.HistoryLemmas.{has_run_of}
use Rattle.dap_history.proofs.history.History.run_to.Goals as goal

pub returns-clause-ok : goal.returns-clause-ok
returns-clause-ok c = λ start now is represents.
    let h : HistoryState = c.args.self.now in
    let low = c.saturating_sub-low.result in
    let was = board_at start h.log low in
    let runs = c.in_ok-run_from_nearest.ensures.ok start now is represents in
    let kept = c.save_near.ensures start is (has_run_of was now _ runs) in
    let log = ap (λ (h : HistoryState). h.log) c.self.view_is in
    let later : c.later_than.result.now ≡ later_than low h.log =
    c.later_than.ensures ∙ ap (later_than low) (log ∙ kept.log) in
    let is_low = c.saturating_sub-low.ensures in
    let within : low ≤ c.args.count = omega (arith, is_low) in
    let split = goes_on 0 low c.args.count start h.log is.ascends (omega arith) within in
    rw (split, ← later) (c.replay.ensures.ok was now runs)

pub returns-clause-rest : goal.returns-clause-rest
returns-clause-rest c = λ start now is represents.
    let runs = c.in_ok-run_from_nearest.ensures.ok start now is represents in (
      rest_on _ _ now (c.in_ok-run_from_nearest.ensures.rest start now is represents)
          c.replay.ensures.rest,
      c.save_near.ensures start is (has_run_of _ now _ runs),
    )
