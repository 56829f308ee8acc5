use Rattle.std.proofs.Common.{◌++◌, arith, ap, sym, ◌∙◌, string_bytes}
use Rattle.cli_run.specs.Printed.{register_line}
use Rattle.cli_run.proofs.RunLemmas.{printed_start, printed_next, printed_end, printed_limit}
use Rattle.cli_run.proofs.runner.Runner.print_run.Goals as goal

pub loop-init : goal.loop-init
loop-init c start represents =
    printed_start c.args.limit start c.args.self.now (string_bytes c.args.text.now) represents

pub returns-in-Some : goal.returns-in-Some
returns-in-Some c start represents =
    printed_end c.args.limit start c.loop.counter c.loop.self _ (string_bytes c.loop.text) _ c.in-Some.ending
    c.loop-test.true
    (c.loop.invariant start represents) (sym c.in-Some.ensures) c.in_ok-push_ending-in-Some.ensures

pub loop-preserved : goal.loop-preserved
loop-preserved c start represents =
    printed_next c.args.limit start c.loop.counter c.loop.self c.step.new.self _ (string_bytes c.loop.text) _
    c.loop-test.true
    (c.loop.invariant start represents) (sym c.in-None.ensures)
    (c.in_ok-step-in-None.ensures _ (c.loop.invariant start represents).is_at.represents)
    (c.in_ok-push_registers-in-None.ensures ∙ ap (λ regs. string_bytes c.loop.text ++ register_line regs)
    c.regs.ensures)

pub returns-in_ok-push_ending : goal.returns-in_ok-push_ending
returns-in_ok-push_ending c start represents =
    printed_limit c.args.limit start c.loop.counter c.loop.self _ (string_bytes c.loop.text) _
    c.in-Some-ending.ending (omega arith)
    (c.loop.invariant start represents) (sym c.in-Some-ending.ensures) c.in_ok-push_ending.ensures
