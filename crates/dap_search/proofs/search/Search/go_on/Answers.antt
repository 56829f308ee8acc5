use Rattle.std.proofs.Common.{subst}
use Rattle.dap_history.specs.Runs.{board_at}
use Rattle.dap_history.proofs.ReplayLemmas.{rest_then}
use Rattle.dap_history.proofs.HistoryLemmas.{and_then}
use Rattle.dap_search.specs.Searches.{IsNextOf}
use Rattle.dap_search.proofs.search.Search.go_on.Goals as goal

pub returns-in_err-go_to-in-Some-clause-rest : goal.returns-in_err-go_to-in-Some-clause-rest
returns-in_err-go_to-in-Some-clause-rest c = λ start now target n history search represents points.
    let x = c.make_part.ensures.rest start now target n history search represents points in
    and_then start now _ _ _ _ _ x (c.go_to.ensures.rest start x.0.now x.1.history x.0.represents)

pub returns-in_ok-go_to-in-Some-clause-rest : goal.returns-in_ok-go_to-in-Some-clause-rest
returns-in_ok-go_to-in-Some-clause-rest c = λ start now target n history search represents points.
    let x = c.make_part.ensures.rest start now target n history search represents points in
    and_then start now _ _ _ _ _ x (c.go_to.ensures.rest start x.0.now x.1.history x.0.represents)

pub returns-in_err-pause-in-None-clause-rest : goal.returns-in_err-pause-in-None-clause-rest
returns-in_err-pause-in-None-clause-rest c = λ start now target n history search represents points.
    let log = c.args.history.now.log in
    let x = c.make_part.ensures.rest start now target n history search represents points in
    let on = subst (λ o. IsNextOf start log now target n c.make_part.new.self c.make_part.new.lab o)
    c.in-None.is (c.in_ok-found.ensures.ok start now target n history search represents points) in (
      rest_then _ _ now x.0 (c.pause.ensures.rest (board_at start log n) x.0.now on.next.home x.0.represents),
      x.1,
    )
