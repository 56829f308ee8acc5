use Rattle.std.proofs.Common.{◌≡◌, IfOk, subst}
use Rattle.lab_core.specs.Labs.{RepresentsBoard}
use Rattle.dap_breakpoints.specs.Arming.{ProgramLists, armed_for, conditional_for}
use Rattle.dap_breakpoints.proofs.arming.arm_program.Goals as goal

pub returns-clause-ok : goal.returns-clause-ok
returns-clause-ok c = λ b represents.
    let P : ProgramLists → Type 0 = λ w. IfOk c.arm_with.result (λ points.
    (points ≡ conditional_for c.args.program.now w b)
    × RepresentsBoard c.arm_with.new.lab (armed_for c.args.program.now w b)) in
    subst P c.wanted_of.ensures.lists (c.arm_with.ensures.ok b represents)
