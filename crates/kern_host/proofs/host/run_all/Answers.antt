use Rattle.std.proofs.Common.{sym, subst}
use denote.Param.Send.{sendable}
use Rattle.kern_host.specs.Guests.{IsSeated}
use Rattle.kern_host.proofs.host.run_all.Goals as goal

pub run_beside-requires-clause-accepts : goal.run_beside-requires-clause-accepts
run_beside-requires-clause-accepts g c κs within = λ i p lt e. (
  subst (IsSeated c.args.server.now.desk.now) (sym e) (c.requires.guests i p.now lt),
  (
    search sendable depth 20,
    search sendable depth 20,
    search sendable depth 20,
    search sendable depth 20,
    search sendable depth 20,
  ),
)
