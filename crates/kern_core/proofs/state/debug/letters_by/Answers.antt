use Rattle.kern_core.proofs.state.debug.letters_by.Goals as goal

pub returns-in-Ok-clause-letters : goal.returns-in-Ok-clause-letters
returns-in-Ok-clause-letters c = rw c.in-Ok.is c.debug_letters.ensures

pub returns-in-Err-clause-letters : goal.returns-in-Err-clause-letters
returns-in-Err-clause-letters c = rw c.in-Err.is c.refusal_letters.ensures.letters
