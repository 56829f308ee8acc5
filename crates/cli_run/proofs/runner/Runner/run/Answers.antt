use Rattle.std.proofs.Common.{sym, arith}
use Rattle.cli_run.proofs.RunLemmas.{at_start, at_next, has_run_before, has_run_all}
use Rattle.cli_run.proofs.runner.Runner.run.Goals as goal

pub loop-done-init : goal.loop-done-init
loop-done-init c start represents = at_start c.args.limit start c.args.self.now represents

pub loop-done-preserved : goal.loop-done-preserved
loop-done-preserved c start represents =
    at_next c.args.limit start c.loop-done._done c.loop-done.self c.step.new.self c.loop-done-test.true
    (c.loop-done.invariant start represents) (sym c.in-None.ensures)
    (c.in_ok-step-in-None.ensures _ (c.loop-done.invariant start represents).represents)

pub returns-in-Some : goal.returns-in-Some
returns-in-Some c start represents =
    has_run_before c.args.limit start c.loop-done._done c.loop-done.self c.in-Some.ending
    c.loop-done-test.true
    (c.loop-done.invariant start represents) (sym c.in-Some.ensures)

pub returns : goal.returns
returns c start represents =
    has_run_all c.args.limit start c.loop-done._done c.loop-done.self _ (omega arith)
    (c.loop-done.invariant start represents) c.ending-2.ensures
