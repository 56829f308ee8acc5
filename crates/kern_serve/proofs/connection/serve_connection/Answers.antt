use Rattle.std.proofs.Common.{ap}
use Rattle.kern_waits.specs.declared.wakeups.Slot.{Slot}
use Rattle.kern_serve.specs.Houses.{house_of}
use Rattle.kern_serve.proofs.VisitLemmas.{one_visit}
use Rattle.kern_serve.proofs.connection.serve_connection.Goals as goal

pub returns : goal.returns
returns g c =
    let made = c.new-connection.ensures in
    one_visit (house_of c.args.shared.now) _ c.args.slot.channel _ c.args.passes c.visit_socket.result
    (ap house_of made.shared) (ap (λ (s : Slot). s.channel) made.slot) c.visit_socket.ensures
