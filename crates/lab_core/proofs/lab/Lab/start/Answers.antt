use Rattle.std.proofs.Common.{◌≡◌, ◌∙◌, sym, ap, subst}
use Rattle.i80_exec.specs.State.{with_pc}
use Rattle.lab_core.specs.declared.run_state.RunState.TheVariants.{NoRun, Running}
use Rattle.lab_core.specs.declared.answer.Answer.TheVariants.{Started}
use Rattle.lab_core.specs.Events.{after_start}
use Rattle.lab_core.specs.Labs.{LabState, RepresentsBoard}
use Rattle.lab_core.proofs.EventLemmas.{gives_without}
use Rattle.lab_core.proofs.LabLemmas.{stands_started}
use Rattle.lab_core.proofs.lab.Lab.start.Goals as goal

pub returns-in-NoRun-clause-applied : goal.returns-in-NoRun-clause-applied
returns-in-NoRun-clause-applied c = λ b s ne.
    let none : b.run ≡ NoRun =
    sym s.run ∙ sym (ap (λ (l : LabState). l.run) c.self.view_is) ∙ c.in-NoRun.is in
    let after = c.self-in-NoRun.view_is ∙ c.forget_steps.ensures in
    let machine = c.set_pc.ensures ∙ ap (λ (l : LabState). with_pc l.machine c.args.address) after in
    let P : LabState → Type 0 =
    λ lab. RepresentsBoard (record lab { machine = c.set_pc.new.self; run = Running })
    (after_start c.args.address b) in (
      after_start c.args.address b,
      gives_without b (after_start c.args.address b) Started none,
      subst P (sym after) (stands_started c.args.self.now b c.set_pc.new.self c.args.address s machine),
    )
