use Rattle.asm_build.proofs.UseLemmas.{names_go, names_end}
use Rattle.asm_build.proofs.layout.note_all.Goals as goal

pub loop-operand-preserved : goal.loop-operand-preserved
loop-operand-preserved g c = λ x.
    names_go g.T.Naming.names c.args.operands.now c.loop-operand.operand-index c.operand-item.result _ _ _ x
    c.loop-operand-test.true c.operand-item.is (c.in_ok-note.ensures x) (c.loop-operand.invariant x)

pub returns : goal.returns
returns g c = λ x.
    names_end g.T.Naming.names c.args.operands.now c.loop-operand.operand-index _ _ x
    c.loop-operand-test.false (c.loop-operand.invariant x)
