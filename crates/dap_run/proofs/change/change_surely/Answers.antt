use Rattle.dap_run.proofs.ChangeLemmas.{surely_so}
use Rattle.dap_run.proofs.change.change_surely.Goals as goal

pub returns : goal.returns
returns c =
    surely_so c.args.event c.args.lab.now c.apply-answer.new.self c.apply-answer.result c.requires
    c.apply-answer.ensures.given c.apply-answer.ensures.memory
