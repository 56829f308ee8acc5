use Rattle.std.proofs.Common.{◌≡◌, ◌⊎◌, true, sym, subst}
use Rattle.i80_exec.specs.State.{MachineState}
use Rattle.lab_core.specs.Labs.{RepresentsDuringSlice, GoesFar, MakesAtMost, in_slice}
use Rattle.lab_core.specs.Marks.{is_at}
use Rattle.lab_core.proofs.lab.Context.burst_to_apart.Goals as goal

pub burst_to-made-requires-clause-may : goal.burst_to-made-requires-clause-may
burst_to-made-requires-clause-may c = rw c.replace-local.ensures.value c.requires.may

pub returns-clause-made : goal.returns-clause-made
returns-clause-made c =
    let made = c.burst_to-made in
    let M : MachineState → Type 0 = λ machine.
    MakesAtMost c.args.most made.result (machine, c.args.self.now) (made.new.machine, made.new.self) in
    let N : MachineState → Type 0 = λ machine.
    MakesAtMost c.args.most made.result (c.args.machine.now, c.args.self.now) (machine, made.new.self) in
    subst N (sym c.replace.ensures.after) (subst M c.replace-local.ensures.value made.ensures.made)

pub returns-clause-passes : goal.returns-clause-passes
returns-clause-passes c = λ lab b traffic s.
    let M : MachineState → Type 0 =
    λ machine. RepresentsDuringSlice (in_slice lab machine c.args.self.now) b traffic in
    c.burst_to-made.ensures.passes lab b traffic (subst M (sym c.replace-local.ensures.value) s)

pub returns-clause-unmarked : goal.returns-clause-unmarked
returns-clause-unmarked c = λ some lab b traffic s.
    let M : MachineState → Type 0 =
    λ machine. RepresentsDuringSlice (in_slice lab machine c.args.self.now) b traffic in
    c.burst_to-made.ensures.unmarked some lab b traffic (subst M (sym c.replace-local.ensures.value) s)

pub returns-clause-far : goal.returns-clause-far
returns-clause-far c =
    let made = c.burst_to-made in
    let F : MachineState → Type 0 = λ machine.
    GoesFar c.args.most made.result machine made.new.self ⊎ (is_at machine c.args.marks.now ≡ true) in
    subst F (sym c.replace.ensures.after) made.ensures.far

pub returns-clause-site : goal.returns-clause-site
returns-clause-site c = λ lab b traffic s.
    let M : MachineState → Type 0 =
    λ machine. RepresentsDuringSlice (in_slice lab machine c.args.self.now) b traffic in
    c.burst_to-made.ensures.site lab b traffic (subst M (sym c.replace-local.ensures.value) s)
