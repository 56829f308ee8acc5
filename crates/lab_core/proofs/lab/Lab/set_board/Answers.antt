use Rattle.std.proofs.Common.{◌≡◌, ◌∙◌, sym, ap, subst}
use Rattle.i80_exec.specs.State.{with_board}
use Rattle.lab_core.specs.declared.run_state.RunState.TheVariants.{NoRun}
use Rattle.lab_core.specs.declared.answer.Answer.TheVariants.{BoardSet}
use Rattle.lab_core.specs.Events.{with_option}
use Rattle.lab_core.specs.Labs.{LabState, RepresentsBoard}
use Rattle.lab_core.proofs.EventLemmas.{gives_without}
use Rattle.lab_core.proofs.LabLemmas.{stands_with_option}
use Rattle.lab_core.proofs.lab.Lab.set_board.Goals as goal

pub returns-in-NoRun-clause-applied : goal.returns-in-NoRun-clause-applied
returns-in-NoRun-clause-applied c = λ b s ne.
    let none : b.run ≡ NoRun =
    sym s.run ∙ sym (ap (λ (l : LabState). l.run) c.self.view_is) ∙ c.in-NoRun.is in
    let machine =
    c.set_board.ensures ∙ ap (λ (l : LabState). with_board l.machine c.args.option) c.self.view_is in
    let P : LabState → Type 0 =
    λ lab. RepresentsBoard (record lab { machine = c.set_board.new.self }) (with_option c.args.option b) in (
      with_option c.args.option b,
      gives_without b (with_option c.args.option b) BoardSet none,
      subst P (sym c.self.view_is) (stands_with_option c.args.self.now b c.set_board.new.self c.args.option s
          machine),
    )
