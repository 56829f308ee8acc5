use Rattle.std.proofs.Common.{refl}
use Rattle.dap_history.specs.Runs.{detached_run}
use Rattle.dap_history.proofs.ReplayLemmas.{goes_on_after, put_back_after, put_back_changes, in_turn}
use Rattle.dap_search.proofs.scan.advance.Goals as goal

pub returns-in-More-clause-ok : goal.returns-in-More-clause-ok
returns-in-More-clause-ok c = λ resumed was now represents.
    let made = c.in_ok-k.ensures.ok (detached_run resumed was now) represents refl in
    record {
      runs = goes_on_after _ c.in_ok-k.k resumed was now (rw c.in-More.is at made.0);
      within = made.1;
      marks_are = made.2;
    }

pub returns-in_ok-go_on-in_default : goal.returns-in_ok-go_on-in_default
returns-in_ok-go_on-in_default c = record {
  ok = λ resumed was now represents.
      let made = c.in_ok-k.ensures.ok (detached_run resumed was now) represents refl in
      record {
        runs = put_back_after _ c.in_ok-k.k _ resumed was now
            (c.in_ok-go_on-in_default.ensures.ok _ made.0);
        within = made.1;
        marks_are = made.2;
      };
  few = c.in_ok-k.ensures.few;
  rest = in_turn _ _ _ c.slice_to.ensures.rest (put_back_changes _ _ c.in_ok-go_on-in_default.ensures.ok);
}
