use Rattle.std.proofs.Common.{◌≡◌, ◌∙◌, sym, ap, subst}
use Rattle.i80_exec.specs.State.{MachineState}
use Rattle.lab_views.specs.Changes.{machine_with}
use Rattle.lab_core.specs.declared.run_state.RunState.TheVariants.{Stopped}
use Rattle.lab_core.specs.Events.{changed_to}
use Rattle.lab_core.specs.Labs.{LabState, RepresentsBoard}
use Rattle.lab_core.proofs.EventLemmas.{gives_poked}
use Rattle.lab_core.proofs.StandsLemmas.{stands_poked}
use Rattle.lab_core.proofs.lab.Lab.change.Goals as goal

pub returns-clause-applied : goal.returns-clause-applied
returns-clause-applied c = λ b s ne.
    let place = c.in_ok-place.place in
    let n = c.in_ok-number.number in
    let changed : MachineState = machine_with place n b.machine in
    let stopped : b.run ≡ Stopped = sym s.run ∙ c.requires in
    let put : c.put.new.machine ≡ changed =
    c.put.ensures ∙ ap (λ (l : LabState). machine_with place n l.machine) c.self.view_is
    ∙ ap (λ (m : MachineState). machine_with place n m) s.machine in
    let M : MachineState → Type 0 =
    λ m. RepresentsBoard (record c.args.self.now { machine = m }) (changed_to changed b) in
    let L : LabState → Type 0 =
    λ lab. RepresentsBoard (record lab { machine = c.put.new.machine }) (changed_to changed b) in (
      changed_to changed b,
      gives_poked b c.args.reference c.args.name.now c.args.value.now c.in_ok-text.text place n stopped
          (sym c.in_ok-place.ensures) (sym c.in_ok-number.ensures.value) c.in_ok-text.ensures,
      subst L (sym c.self.view_is) (subst M (sym put) (stands_poked c.args.self.now b changed s stopped)),
    )
