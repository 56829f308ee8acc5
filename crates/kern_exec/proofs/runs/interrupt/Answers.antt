use Rattle.kern_exec.proofs.BoardLemmas.{interrupted_so}
use Rattle.kern_exec.proofs.runs.interrupt.Goals as goal

pub returns : goal.returns
returns c =
    interrupted_so c.args.lab.now c.apply_event.new.lab c.apply_event.result c.apply_event.ensures.given
    c.apply_event.ensures.memory
