use Rattle.std.proofs.Common.{Some, length}
use Rattle.dap_history.proofs.ReplayLemmas.{rest_of_put_back}
use Rattle.dap_history.proofs.replay.rewind.Goals as goal

pub returns-clause-ok : goal.returns-clause-ok
returns-clause-ok c = λ was now moment represents.
    let put = c.in_ok-put_back.ensures.ok was now moment represents in
    c.replay.ensures.ok was now (Some (length was.trace), put)

pub returns-clause-rest : goal.returns-clause-rest
returns-clause-rest c = λ was now moment represents.
    rest_of_put_back _ _ was now (c.in_ok-put_back.ensures.ok was now moment represents) c.replay.ensures.rest
