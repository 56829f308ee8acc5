use Rattle.std.proofs.Common.{sym, subst}
use Rattle.i80_exec.specs.State.{MachineState}
use Rattle.lab_core.specs.Labs.{GoesFar, MakesAtMost, end_at}
use Rattle.lab_core.proofs.lab.Context.burst_apart.Goals as goal

pub burst-made-requires-clause-may : goal.burst-made-requires-clause-may
burst-made-requires-clause-may g c = rw c.replace-local.ensures.value c.requires.may

pub returns-clause-made : goal.returns-clause-made
returns-clause-made g c =
    let made = c.burst-made in
    let M : MachineState → Type 0 = λ machine.
    MakesAtMost c.args.most (made.result.0, end_at made.result.1 made.new.machine)
    (machine, c.args.self.now) (made.new.machine, made.new.self) in
    let N : MachineState → Type 0 = λ machine.
    MakesAtMost c.args.most (made.result.0, end_at made.result.1 machine)
    (c.args.machine.now, c.args.self.now) (machine, made.new.self) in
    rw c.end_at.ensures
    (subst N (sym c.replace.ensures.after) (subst M c.replace-local.ensures.value made.ensures.made))

pub returns-clause-far : goal.returns-clause-far
returns-clause-far g c =
    let made = c.burst-made in
    let F : MachineState → Type 0 = λ machine.
    GoesFar c.args.most (made.result.0, end_at made.result.1 machine) machine made.new.self in
    rw c.end_at.ensures (subst F (sym c.replace.ensures.after) made.ensures.far)
