use Rattle.std.proofs.Common.{◌∙◌, [], refl, sym, ap, subst}
use Rattle.lab_core.specs.declared.run_state.RunState.TheVariants.{NoRun}
use Rattle.lab_core.specs.Events.{reset}
use Rattle.lab_core.specs.Labs.{LabState, RepresentsBoard}
use Rattle.lab_core.proofs.LabLemmas.{stands_reset}
use Rattle.lab_core.proofs.lab.Lab.reset.Goals as goal

pub returns-clause-applied : goal.returns-clause-applied
returns-clause-applied c = λ b s ne.
    let after = c.self.view_is ∙ c.forget_steps.ensures in
    let lists = c.refresh.ensures.lists ∙ ap (λ (l : LabState). l.breakpoints.lists) after in
    let P : LabState → Type 0 = λ lab. RepresentsBoard (record lab {
      machine = c.in_ok-machine.machine;
      devices = c.clear.new.self;
      origins = c.clear-2.new.self;
      breakpoints = c.refresh.new.self;
      run = NoRun;
    }) (reset b) in (
      reset b,
      (refl, refl),
      subst P (sym after) (stands_reset c.args.self.now b c.in_ok-machine.machine c.clear.new.self
          c.clear-2.new.self c.refresh.new.self
          s c.in_ok-machine.ensures c.clear.ensures.past c.clear.ensures.operations c.clear-2.ensures lists
          (c.refresh.ensures.represents [] c.clear-2.ensures)),
    )
