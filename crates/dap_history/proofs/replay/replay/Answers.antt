use Rattle.std.proofs.Common.{◌≡◌, ◌∙◌, ◌∷◌, ◌-◌, ap, subst}
use Rattle.std.proofs.lemmas.List.{nil_from_length}
use Rattle.lab_core.specs.Board.{Board}
use Rattle.lab_core.specs.Slices.{after_steps}
use Rattle.lab_core.specs.Labs.{RepresentsBoard}
use Rattle.dap_history.specs.Runs.{at_from, after_input, detached_run, RunsDetached}
use Rattle.dap_history.proofs.ReplayLemmas.{in_turn, input_changes}
use Rattle.dap_history.proofs.RunLemmas.{input_as, next_input, no_input}
use Rattle.dap_history.proofs.replay.replay.Goals as goal
use Rattle.dap_history.proofs.replay.replay.Goals.{in-Some+then-next-to, in_default}

pub loop-next-preserved : goal.loop-next-preserved
loop-next-preserved c = record {
  runs = λ was now runs.
      let inv = c.loop-next.invariant.runs was now runs in
      let there = inv.0 in
      let next = c.in-Some.next.now in
      let later = c.in-Some.later.now in
      let is : c.loop-next.rest.now ≡ next ∷ later = c.in-Some.ensures.cases.0 in
      let at : Board = after_steps (next.count - c.loop-next.at) there in
      let reached : RunsDetached at now c.make_steps.new.lab =
      rw (← c.saturating_sub.ensures) (c.in_ok-make_steps.ensures.ok there now inv.1) in
      let made =
      c.in_ok-redo.ensures.ok (detached_run reached.0 at now) reached.1 in (
        after_input next.input at,
        (
          reached.0,
          subst (λ b. RepresentsBoard c.redo.new.lab b) (input_as next.input reached.0 at now) made,
        ),
        inv.2 ∙ ap (λ xs. at_from c.loop-next.at there xs c.args.to) is
            ∙ next_input c.loop-next.at c.args.to there next later c.if-next-to.false,
      );
  rest =
      in_turn _ _ _ c.loop-next.invariant.rest
      (in_turn _ _ _ c.make_steps.ensures.rest
      (input_changes c.in-Some.next.now.input _ _ c.redo.result c.redo.ensures.ok c.redo.ensures.err));
}

pub returns-clause-ok : goal.returns-clause-ok
returns-clause-ok c = λ was now runs.
    let inv = c.loop-next.invariant.runs was now runs in
    let there = inv.0 in
    let rest = c.loop-next.rest.now in
    let last : at_from c.loop-next.at there rest c.args.to ≡ after_steps (c.args.to - c.loop-next.at) there =
    elim c.match-split_first.branch [
      | in-Some+then-next-to w ↦ (
          ap (λ xs. at_from c.loop-next.at there xs c.args.to) w.in-Some.ensures.cases.0
          ∙ no_input c.loop-next.at c.args.to there w.in-Some.next.now w.in-Some.later.now w.if-next-to.true
          )
      | in_default w ↦ (
          ap (λ xs. at_from c.loop-next.at there xs c.args.to)
          (nil_from_length rest w.in_default.ensures.cases)
          )
    ] in
    rw (inv.2 ∙ last) (rw (← c.saturating_sub-2.ensures) (c.make_steps-2.ensures.ok there now inv.1))

pub returns-clause-rest : goal.returns-clause-rest
returns-clause-rest c = in_turn _ _ _ c.loop-next.invariant.rest c.make_steps-2.ensures.rest

pub returns-in_err-make_steps-clause-rest : goal.returns-in_err-make_steps-clause-rest
returns-in_err-make_steps-clause-rest c = in_turn _ _ _ c.loop-next.invariant.rest c.make_steps.ensures.rest

pub returns-in_err-redo-clause-rest : goal.returns-in_err-redo-clause-rest
returns-in_err-redo-clause-rest c =
    in_turn _ _ _ c.loop-next.invariant.rest
    (in_turn _ _ _ c.make_steps.ensures.rest
    (input_changes c.in-Some.next.now.input _ _ c.redo.result c.redo.ensures.ok c.redo.ensures.err))
