use Rattle.kern_core.proofs.KernelLemmas.{some_state}
use Rattle.kern_core.proofs.bare.BareKernel.act.Goals as goal

pub invariant_of-self : goal.invariant_of-self
invariant_of-self c = some_state _ _ c.args.call.now c.make.result c.self.invariant c.make.ensures
