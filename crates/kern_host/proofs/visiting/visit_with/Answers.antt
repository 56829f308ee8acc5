use Rattle.std.proofs.Common.{ℕ, refl, ap, subst, ◌∙◌}
use Rattle.kern_net.specs.Routes.{Source, Target}
use Rattle.kern_net.specs.ReadEnds.{Reader}
use Rattle.kern_net.specs.Reading.{ReadOut}
use Rattle.kern_net.specs.Out.{Writer}
use Rattle.lab_turn.specs.History.{TurnstileState}
use Rattle.kern_host.specs.Guests.{GuestState, Line, line_of}
use Rattle.kern_host.specs.Writes.{WroteIfAny}
use Rattle.kern_host.specs.Visits.{house_of, seats_of, IsTurnedAway, IsServed}
use Rattle.kern_host.specs.declared.end.Ends.{Ends}
use Rattle.kern_host.specs.declared.guest.Passes.{Passes}
use Rattle.kern_host.proofs.VisitLemmas.{meets, turned_away, served}
use Rattle.kern_host.proofs.visiting.visit_with.Goals as goal

pub returns-in-Err-join_peer-clause-visit : goal.returns-in-Err-join_peer-clause-visit
returns-in-Err-join_peer-clause-visit g c = λ history p q.
    let seats = seats_of (house_of c.args.server.now.seal c.args.server.now.desk.now.limit)
    c.args.passes.now in
    let inside = c.guest.inside in
    let polls = g.H.WriterGate.polls inside.writer in
    let inlet = g.I.Inlet.state c.handshake.new.from in
    let outlet = g.W.Outlet.state c.handshake.new.to in
    let old : Line = record {
      channel = inside.channel;
      inlet = g.I.Inlet.state inside.inlet;
      outlet = g.W.Outlet.state inside.outlet;
      polls = polls;
    } in
    let new : Line = record { channel = inside.channel; inlet = inlet; outlet = outlet; polls = polls } in
    let fault = c.in-Err-join_peer.fault in
    let after : Passes = record c.args.passes.now { reading = c.join_peer.new.pass } in
    let V : GuestState → Type 0 = λ v. IsTurnedAway seats (line_of v) new history fault in
    subst V c.guest.view_is
    (turned_away _ old new c.args.passes.now after c.in-Ok.peer fault history
    (meets old c.role_on.result inlet outlet c.in-Ok.peer c.role_on.ensures c.in-Ok.ensures.received
    c.in-Ok.ensures.role c.in-Ok.ensures.ready c.in-Ok.ensures.whole)
    c.in-Err-join_peer.ensures.err c.join_peer.ensures.same.1 refl p q)

pub returns-clause-visit : goal.returns-clause-visit
returns-clause-visit g c = λ history p q.
    let seats = seats_of (house_of c.args.server.now.seal c.args.server.now.desk.now.limit)
    c.args.passes.now in
    let inside = c.guest.inside in
    let polls = g.H.WriterGate.polls inside.writer in
    let old : Line = record {
      channel = inside.channel;
      inlet = g.I.Inlet.state inside.inlet;
      outlet = g.W.Outlet.state inside.outlet;
      polls = polls;
    } in
    let after : Passes = record c.talk-reading.new.passes { reading = c.leave-leave.new.pass } in
    let limit = λ (t : TurnstileState). t.limit in
    let joined = c.join_peer.ensures.same in
    let read = c.talk-reading.ensures.reading in
    let wrote = c.talk-reading.ensures.writing in
    let routes = c.routes_of-routes.ensures in
    let guest = c.talk-reading.new.guest in
    let passes = c.talk-reading.new.passes in
    let inlet = g.I.Inlet.state c.handshake.new.from in
    let outlet = g.W.Outlet.state c.handshake.new.to in
    let a : Reader = record { inlet = inlet; pass = c.join_peer.new.pass } in
    let b : Reader = record { inlet = guest.inlet; pass = passes.reading } in
    let x : Writer = record {
      outlet = outlet;
      pass = c.args.passes.now.writing;
      polls = polls;
    } in
    let y : Writer = record { outlet = guest.outlet; pass = passes.writing; polls = guest.writer } in
    let target : Target = record {
      connection = c.in-Ok-join_peer.joined.connection;
      key = c.args.server.now.seal.key.now;
      session = c.args.server.now.seal.session.now;
    } in
    let R : Source → Type 0 = λ s. ReadOut s c.in-Ok.peer a b c.talk-reading.result.0 in
    let W : Target → Type 0 =
    λ t. WroteIfAny t c.routes_of-routes.result.from x y c.talk-reading.result.1 in
    let F : ℕ → Type 0 = λ n. WroteIfAny target n x y c.talk-reading.result.1 in
    let ends : Ends = record {
      reading = c.talk-reading.result.0;
      writing = c.talk-reading.result.1;
      leave = c.leave-leave.result;
    } in
    let V : GuestState → Type 0 = λ v. IsServed seats (line_of v) (line_of guest) history ends in
    subst V c.guest.view_is
    (served _ old (line_of guest) c.args.passes.now after ends (record {
      peer = c.in-Ok.peer;
      inlet = inlet;
      outlet = outlet;
      connection = c.in-Ok-join_peer.joined.connection;
      from = c.in-Ok-join_peer.joined.from;
      joined = c.join_peer.new.pass;
      read = c.talk-reading.new.passes.reading;
      meets =
          meets old c.role_on.result inlet outlet c.in-Ok.peer c.role_on.ensures c.in-Ok.ensures.received
          c.in-Ok.ensures.role c.in-Ok.ensures.ready c.in-Ok.ensures.whole;
      joins = c.in-Ok-join_peer.ensures.ok;
      reads = subst R routes.incoming c.talk-reading.ensures.read;
      writes = subst F routes.from (subst W routes.outgoing c.talk-reading.ensures.wrote);
      leaves = c.leave-leave.ensures.left;
      seats = (
        read.1 ∙ joined.1,
        c.leave-leave.ensures.same.1 ∙ (read.1 ∙ joined.1),
        wrote.1,
      );
      limits = (
        ap limit (read.0 ∙ joined.0),
        ap limit c.leave-leave.ensures.same.0,
        ap limit (wrote.0 ∙ c.requires.passes.1),
      );
    }) history p q)
