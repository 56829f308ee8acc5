use Rattle.std.proofs.Common.{◌≡◌, ◌+◌, ◌-◌, ◌∷◌, map, ap}
use Rattle.lab_views.proofs.ListLemmas.{made_more, made_all}
use Rattle.lab_views.proofs.CodeLemmas.{lines_from-next, lines_from-end}
use Rattle.dap_disassembly.specs.Disassembly.{instructions_from, line_shown}
use Rattle.dap_disassembly.proofs.BeforeLemmas.{after_one}
use Rattle.dap_disassembly.proofs.disassembly.instructions.Goals as goal

pub loop-preserved : goal.loop-preserved
loop-preserved c = λ b s.
    let m = b.machine in
    let shown = line_shown b c.args.path.now c.args.operands in
    let next = ap (map shown) (lines_from-next m c.loop.next c.args.count c.loop.counter c.loop-test.true) in
    let left : instructions_from b c.args.path.now c.args.operands c.loop.next (c.args.count - c.loop.counter)
    ≡ c.in_ok-line.line ∷ instructions_from b c.args.path.now c.args.operands c.after_instructions-next.result
    (c.args.count - (c.loop.counter + 1)) =
    rw (c.in_ok-line.ensures b s, c.after_instructions-next.ensures b s, after_one m c.loop.next) next in
    made_more _ _ _ _ _ _ c.in_ok-push.ensures.ok left (c.loop.invariant b s)

pub returns : goal.returns
returns c = λ b s.
    made_all _ _ _
    (ap (map (line_shown b c.args.path.now c.args.operands))
    (lines_from-end b.machine c.loop.next c.args.count c.loop.counter c.loop-test.false))
    (c.loop.invariant b s)
