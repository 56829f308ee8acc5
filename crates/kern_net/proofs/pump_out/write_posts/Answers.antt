use Rattle.std.proofs.Common.{refl}
use Rattle.kern_net.specs.declared.end.PumpEnd.TheVariants.{OutOfMemory, WriteFailed}
use Rattle.kern_net.specs.Rounds.{IsUnfit, IsFailed}
use Rattle.kern_net.specs.Routes.{target_of}
use Rattle.kern_net.proofs.OutLemmas.{front_of}
use Rattle.kern_net.proofs.pump_out.write_posts.Goals as goal

pub returns-in_default-clause-err : goal.returns-in_default-clause-err
returns-in_default-clause-err g c = IsUnfit OutOfMemory refl refl c.requires

pub returns-clause-err : goal.returns-clause-err
returns-clause-err g c =
    IsFailed WriteFailed refl
    (front_of (target_of c.args.route.now) (g.W.Outlet.state c.args.to.now)
    (g.W.Outlet.state c.write_all.new.to) c.args.posts.now
    c.in-Ok.bytes.items c.as_slice.result.now c.in-Ok.ensures c.as_slice.ensures.value
    c.write_all.ensures.front)
    c.in-Err.ensures.err
