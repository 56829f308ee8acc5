use Rattle.kern_host.proofs.host.at_each.Goals as goal

pub returns : goal.returns
returns g c = record { each = c.for_each_mut.ensures }
