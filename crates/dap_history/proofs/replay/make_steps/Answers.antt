use Rattle.std.proofs.Common.{◌≡◌, ◌+◌, subst, arith}
use Rattle.lab_core.specs.Slices.{after_steps}
use Rattle.dap_history.specs.Runs.{RunsDetached}
use Rattle.dap_history.proofs.ReplayLemmas.{more_steps, in_turn}
use Rattle.dap_history.proofs.replay.make_steps.Goals as goal

pub loop-made-preserved : goal.loop-made-preserved
loop-made-preserved c =
    let inv = c.loop-made.invariant in
    let made = c.loop-made.made in
    let n = c.few_of-n.result in
    let same = c.from-made.ensures in
    let least = c.few_of-n.ensures.within in
    let within = inv.within in
    record {
      runs = λ was now r.
          more_steps _ was now made n (made + c.from-made.result) (omega (arith, same))
          (c.in_ok-make_few.ensures.ok (after_steps made was) now (inv.runs was now r));
      rest = in_turn _ _ _ inv.rest c.make_few.ensures.rest;
      within = omega (arith, same);
    }

pub returns-clause-ok : goal.returns-clause-ok
returns-clause-ok c = λ was now r.
    let inv = c.loop-made.invariant in
    let within = inv.within in
    let all : c.loop-made.made ≡ c.args.count = omega arith in
    subst (λ k. RunsDetached (after_steps k was) now c.loop-made.lab) all (inv.runs was now r)

pub returns-in_err-make_few-clause-rest : goal.returns-in_err-make_few-clause-rest
returns-in_err-make_few-clause-rest c =
    in_turn _ _ _ c.loop-made.invariant.rest c.make_few.ensures.rest
