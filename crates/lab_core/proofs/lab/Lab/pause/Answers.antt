use Rattle.std.proofs.Common.{◌≡◌, ◌∙◌, true, sym, subst}
use Rattle.lab_core.specs.declared.run_state.RunState.TheVariants.{Running}
use Rattle.lab_core.specs.declared.answer.Answer.TheVariants.{Accepted}
use Rattle.lab_core.specs.Events.{after_stop}
use Rattle.lab_core.specs.Labs.{LabState, RepresentsBoard}
use Rattle.lab_core.proofs.LabLemmas.{gives_paused, stands_stopped}
use Rattle.lab_core.proofs.lab.Lab.pause.Goals as goal

pub returns-in-Running-clause-applied : goal.returns-in-Running-clause-applied
returns-in-Running-clause-applied c = λ b s-now ne.
    let P : LabState → Type 0 = λ lab. RepresentsBoard lab b in
    let s = subst P (sym c.self.view_is) s-now in
    let attached : b.is_attached ≡ true = sym s.attached ∙ c.if-not-self.false in
    let running : b.run ≡ Running = sym s.run ∙ c.in-Running.is in
    (after_stop b, gives_paused b (after_stop b) Accepted attached running, stands_stopped _ b s)
