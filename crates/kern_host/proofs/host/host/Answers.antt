use Rattle.std.proofs.Common.{ℕ, ap, subst, ◌∙◌}
use Rattle.kern_desk.specs.Seats.{SeatedState}
use Rattle.kern_host.specs.Hosting.{HostsAll, host_with}
use Rattle.kern_host.specs.Visits.{house_of}
use Rattle.kern_host.proofs.host.host.Goals as goal

pub returns-in-Ok-open-clause-ok : goal.returns-in-Ok-open-clause-ok
returns-in-Ok-open-clause-ok g c =
    let H : ℕ → Type 0 =
    λ n. HostsAll (house_of c.args.seal.now n)
    (host_with c.args.guests.now (g.P.WorkerGate.polls c.args.gate.now))
    (host_with c.host_at.new.guests (g.P.WorkerGate.polls c.host_at.new.gate)) c.host_at.result in
    subst H (c.in-Ok-open.ensures.turnstile.1 ∙ ap (λ (s : SeatedState). s.limit) c.new.ensures)
    c.host_at.ensures
