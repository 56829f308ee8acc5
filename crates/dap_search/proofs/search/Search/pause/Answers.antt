use Rattle.std.proofs.Common.{refl}
use Rattle.dap_history.specs.Runs.{after_rewind}
use Rattle.dap_history.proofs.ReplayLemmas.{keeps_rest}
use Rattle.dap_search.proofs.search.Search.pause.Goals as goal

pub returns-clause-ok : goal.returns-clause-ok
returns-clause-ok c = λ was b moment represents.
    let home = rw (← c.self.view_is) at moment in
    c.hold.ensures _ (c.in_ok-put_back.ensures.ok was b home represents)

pub returns-clause-rest : goal.returns-clause-rest
returns-clause-rest c = λ was b moment represents.
    let home = rw (← c.self.view_is) at moment in
    keeps_rest _ (after_rewind was b) b
    (c.hold.ensures _ (c.in_ok-put_back.ensures.ok was b home represents))
    (refl, refl, refl, refl)
