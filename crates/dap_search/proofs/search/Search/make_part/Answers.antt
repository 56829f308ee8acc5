use Rattle.std.proofs.Common.{List, sym, subst}
use Rattle.dap_history.specs.declared.input.Recorded.{Recorded}
use Rattle.dap_history.specs.Runs.{board_at}
use Rattle.dap_search.specs.Searches.{IsUnderWay, IsNext}
use Rattle.dap_history.proofs.HistoryLemmas.{on_the_way}
use Rattle.dap_search.proofs.search.Search.make_part.Goals as goal

pub returns-in_err-enter-clause-rest : goal.returns-in_err-enter-clause-rest
returns-in_err-enter-clause-rest c = λ start now target n history search represents points.
    c.enter.ensures.rest start now target n history search represents

pub returns-in_err-go_farther-clause-rest : goal.returns-in_err-go_farther-clause-rest
returns-in_err-go_farther-clause-rest c = λ start now target n history search represents points.
    on_the_way start now _ _ _ _ (c.enter.ensures.rest start now target n history search represents)
    c.go_farther.ensures.rest

pub returns-in_err-found-clause-rest : goal.returns-in_err-found-clause-rest
returns-in_err-found-clause-rest c = λ start now target n history search represents points.
    on_the_way start now _ _ _ _ (c.enter.ensures.rest start now target n history search represents)
    c.go_farther.ensures.rest

pub returns-clause-rest : goal.returns-clause-rest
returns-clause-rest c = λ start now target n history search represents points.
    on_the_way start now _ _ _ _ (c.enter.ensures.rest start now target n history search represents)
    c.go_farther.ensures.rest

pub returns-clause-ok : goal.returns-clause-ok
returns-clause-ok c = λ start now target n history search represents points.
    let same = (c.enter.ensures.rest start now target n history search represents).1.log in
    let W : List Recorded → Type 0 =
    λ log. IsUnderWay start log now target n c.enter.new.self c.enter.new.lab in
    let P : List Recorded → Type 0 =
    λ log. IsNext start log now target n c.next.new.self c.in_ok-found.found in
    let way = c.in_ok-enter.ensures.ok start now target n history search represents in
    let on = c.in_ok-go_farther.ensures.ok start now target n points (subst W (sym same) way) in
    record {
      next = subst P same (c.in_ok-found.ensures.ok start now target n points on);
      was = board_at start c.enter.new.history.log c.go_farther.new.self.scan.at;
      runs = on.runs;
    }
