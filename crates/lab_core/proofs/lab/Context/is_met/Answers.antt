use Rattle.std.proofs.Common.{◌<◌, ◌∙◌, sym, arith}
use Rattle.lab_core.proofs.QuietLemmas.{meets_none}
use Rattle.lab_core.proofs.lab.Context.is_met.Goals as goal

pub returns-else-looks_up : goal.returns-else-looks_up
returns-else-looks_up c = λ lab b traffic s.
    let looks = rw c.if-looks_up.false at c.requires.looks in
    let small : c.pc-pc.result < 65536 = omega arith in
    c.if-looks_up.false
    ∙ sym (meets_none lab c.args.machine.now c.args.self.now b traffic s looks (rw c.pc-pc.ensures at small))
