use Rattle.std.proofs.Common.{refl}
use Rattle.dap_history.specs.Runs.{detached_run}
use Rattle.dap_history.proofs.ReplayLemmas.{goes_on_after, put_back_after, put_back_changes, in_turn}
use Rattle.dap_history.proofs.replay.make_few.Goals as goal

pub returns-in-More-clause-ok : goal.returns-in-More-clause-ok
returns-in-More-clause-ok c = λ was now runs.
    goes_on_after _ c.args.n runs.0 was now
    (rw c.in-More.is at (c.in_ok-slice.ensures.ok (detached_run runs.0 was now) runs.1 refl))

pub returns-in_ok-go_on-in_default-clause-ok : goal.returns-in_ok-go_on-in_default-clause-ok
returns-in_ok-go_on-in_default-clause-ok c = λ was now runs.
    put_back_after _ c.args.n _ runs.0 was now
    (c.in_ok-go_on-in_default.ensures.ok _ (c.in_ok-slice.ensures.ok
    (detached_run runs.0 was now) runs.1 refl))

pub returns-in_ok-go_on-in_default-clause-rest : goal.returns-in_ok-go_on-in_default-clause-rest
returns-in_ok-go_on-in_default-clause-rest c =
    in_turn _ _ _ c.slice.ensures.rest (put_back_changes _ _ c.in_ok-go_on-in_default.ensures.ok)
