use Rattle.std.proofs.Common.{arith}
use Rattle.dap_search.proofs.SearchLemmas.{scanned}
use Rattle.dap_search.proofs.search.Search.go_farther.Goals as goal

pub returns-clause-ok : goal.returns-clause-ok
returns-clause-ok c = λ start now target n points way.
    let w = rw (← c.self.view_is) at way in
    let ok = rw c.entries.ensures.entries at c.in_ok-go_to.ensures.ok in
    let within = w.search.within in
    let to = c.in_ok-go_to.ensures.at in
    let most = c.max-to.ensures in
    let least = c.min.ensures in
    scanned start now c.args.history.now.log target n _ c.go_to.new.self _ _ w
    (ok start now target _ points (record { runs = w.runs; seen = w.search.scan })) c.go_to.ensures.kind
    (omega (arith, within, to, most, least))
