use Rattle.std.proofs.Common.{◌≡◌, refl}
use Rattle.kern_calls.specs.declared.fault.KernelFault.TheVariants.{OutOfMemory}
use Rattle.kern_host.specs.Visits.{identity_of, NoMemory}
use Rattle.kern_host.proofs.VisitLemmas.{not_taken}
use Rattle.kern_host.proofs.visiting.join_peer.Goals as goal

pub returns-in-Ok-clause-err : goal.returns-in-Ok-clause-err
returns-in-Ok-clause-err g c =
    let e : c.in-Ok.identity ≡ identity_of c.args.peer.now = c.in-Ok.ensures in
    not_taken c.args.pass.now c.join.new.pass c.args.channel c.in-Ok.identity
    (identity_of c.args.peer.now) c.join.result
    e c.join.ensures.err

pub returns-in-Err-clause-err : goal.returns-in-Err-clause-err
returns-in-Err-clause-err g c = NoMemory OutOfMemory refl refl
