use Rattle.lab_term.proofs.event.open_event.Goals as goal

pub returns-in-Err-clause-unopened : goal.returns-in-Err-clause-unopened
returns-in-Err-clause-unopened c = c.fault_of.ensures c.args.key.now c.args.frames c.in-Err.ensures.refused
