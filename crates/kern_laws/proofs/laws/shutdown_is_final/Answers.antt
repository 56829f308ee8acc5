use Rattle.kern_core.specs.States.{kernel_before_calls}
use Rattle.kern_core.specs.Turns.{state_after}
use Rattle.kern_laws.proofs.ShutLemmas.{shut_calls, when_shut}
use Rattle.kern_laws.proofs.laws.shutdown_is_final.Goals as goal

pub returns-clause-asked : goal.returns-clause-asked
returns-clause-asked c = λ calls. shut_calls calls kernel_before_calls

pub returns-clause-idle : goal.returns-clause-idle
returns-clause-idle c = λ calls. when_shut (state_after calls)
