use Rattle.kern_exec.proofs.BoardLemmas.{started_so}
use Rattle.kern_exec.proofs.runs.start.Goals as goal

pub returns : goal.returns
returns c =
    started_so c.args.lab.now c.apply_event.new.lab c.args.address c.apply_event.result
    c.apply_event.ensures.given c.apply_event.ensures.memory
