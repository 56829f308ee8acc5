use Rattle.std.proofs.Common.{◌∙◌, ◌+◌, ◌*◌, ap}
use Rattle.i80_exec.specs.State.{byte_at}
use Rattle.dap_expr.proofs.ValueLemmas.{tree_value_is}
use Rattle.dap_expr.proofs.value.tree_value.Goals as goal

pub returns : goal.returns
returns c = λ b s.
    c.value.ensures
    ∙ tree_value_is b c.args.reads.now c.args.tree.now c.symbols.result.now c.regs.result c.peek.result
    c.regs-3.result.pc (c.symbols.ensures b s) (c.regs.ensures b s)
    (c.peek.ensures b s
    ∙ ap (byte_at b.machine)
    (c.hl.ensures ∙ ap (λ regs. 256 * regs.h + regs.l) (c.regs-2.ensures b s)))
    (ap (λ regs. regs.pc) (c.regs-3.ensures b s))
