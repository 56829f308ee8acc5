use Rattle.lab_core.specs.Moments.{after_hold}
use Rattle.dap_history.proofs.ReplayLemmas.{keeps_rest}
use Rattle.dap_history.proofs.history.History.go_to.Goals as goal

pub returns-clause-ok : goal.returns-clause-ok
returns-clause-ok c = λ start now is represents.
    c.hold.ensures _ (c.in_ok-run_to.ensures.ok start now is represents).1

pub returns-clause-rest : goal.returns-clause-rest
returns-clause-rest c = λ start now is represents.
    let kept = c.in_ok-run_to.ensures.rest start now is represents in
    let x = kept.0 in (
      keeps_rest _ (after_hold x.now) now (c.hold.ensures x.now x.represents)
          (x.loads, x.symbols, x.sources, x.breakpoints),
      kept.1,
    )
