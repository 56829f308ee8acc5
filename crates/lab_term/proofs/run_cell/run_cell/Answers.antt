use Rattle.std.proofs.Common.{refl, rules}
use Rattle.std.proofs.lemmas.Result.{IfOk-weaker, IfErr-weaker}
use Rattle.lab_term.specs.Connections.{client_of}
use Rattle.lab_term.specs.Stopping.{HandshakePrefix, SubscriptionPrefix, Subscribed, AtShell, AtIopub}
use Rattle.lab_term.proofs.CourseLemmas.{ran_by}
use Rattle.lab_term.proofs.StopLemmas.{cause_iopub, cause_stalls, causes_followed, stopped_requesting}
use Rattle.lab_term.proofs.StopLemmas.{stopped_after}
use Rattle.lab_term.proofs.run_cell.run_cell.Goals as goal

pub returns-in-Err : goal.returns-in-Err
returns-in-Err g c = record {
  ran = tt;
  stopped =
      AtShell c.in-Err.ensures.front refl;
  cause = search rules;
}

pub returns-in-Err-greet : goal.returns-in-Err-greet
returns-in-Err-greet g c = record {
  ran = tt;
  stopped =
      AtIopub c.in-Ok.ensures.whole (HandshakePrefix c.in-Err-greet.ensures.front) refl;
  cause =
      let client = client_of g.I.Inlet.state g.W.Outlet.state g.O.Outlet.state in
      cause_iopub _ (client c.args.shell.now c.args.iopub.now c.args.output.now)
      (client c.greet.new.connection c.greet-2.new.connection c.args.output.now) c.in-Err-greet.fault
      c.in-Err-greet.ensures.ungreeted c.in-Ok.ensures.good.0;
}

pub returns-in-Err-subscribe : goal.returns-in-Err-subscribe
returns-in-Err-subscribe g c = record {
  ran = tt;
  stopped =
      AtIopub c.in-Ok.ensures.whole (SubscriptionPrefix (record {
        between = g.W.Outlet.state c.greet-2.new.connection.to;
        handshake = c.in-Ok-greet.ensures.whole;
        front = c.in-Err-subscribe.ensures.front;
      })) refl;
  cause = search rules;
}

pub returns-in-Err-subscriber_of : goal.returns-in-Err-subscriber_of
returns-in-Err-subscriber_of g c = record {
  ran = tt;
  stopped =
      AtIopub c.in-Ok.ensures.whole (Subscribed (record {
        between = g.W.Outlet.state c.greet-2.new.connection.to;
        handshake = c.in-Ok-greet.ensures.whole;
        took = c.in-Ok-subscribe.ensures.whole;
      })) refl;
  cause = search rules;
}

pub returns-in-Err-await_status : goal.returns-in-Err-await_status
returns-in-Err-await_status g c = record {
  ran = tt;
  stopped =
      AtIopub c.in-Ok.ensures.whole (Subscribed (record {
        between = g.W.Outlet.state c.greet-2.new.connection.to;
        handshake = c.in-Ok-greet.ensures.whole;
        took = c.in-Ok-subscribe.ensures.whole;
      })) refl;
  cause =
      let client = client_of g.I.Inlet.state g.W.Outlet.state g.O.Outlet.state in
      let holds = c.in-Ok-subscriber_of.ensures.holds _ _ c.in-Ok-greet.ensures.received in
      let to = g.O.Outlet.state c.args.output.now in
      cause_stalls _ (client c.args.shell.now c.args.iopub.now c.args.output.now)
      (client c.greet.new.connection
      (record { from = c.await_status.new.from; to = c.subscribe.new.to }) c.args.output.now)
      to c.in-Err-await_status.fault (λ h. h) c.in-Ok.ensures.good.0
      (c.in-Err-await_status.ensures.stalls _ to holds c.requires.good.2);
}

pub returns-in-Err-request : goal.returns-in-Err-request
returns-in-Err-request g c = record {
  ran = tt;
  stopped =
      let holds = c.in-Ok-subscriber_of.ensures.holds _ _ c.in-Ok-greet.ensures.received in
      let w = c.in-Ok-await_status.ensures.waited _ holds in
      stopped_requesting _ _ _ (g.W.Outlet.state c.greet.new.connection.to)
      (g.W.Outlet.state c.greet-2.new.connection.to) c.await_status.new.subscriber c.in-Err-request.fault
      c.in-Ok.ensures.whole c.in-Err-request.ensures.front c.in-Ok-greet.ensures.whole
      c.in-Ok-subscribe.ensures.whole w refl;
  cause = search rules;
}

pub returns : goal.returns
returns g c = record {
  ran =
      let holds = c.in-Ok-subscriber_of.ensures.holds _ _ c.in-Ok-greet.ensures.received in
      let w = c.in-Ok-await_status.ensures.waited _ holds in
      let cell = c.args.cell.now in
      IfOk-weaker c.follow.result _ _
      (λ good f. ran_by cell _ _ c.in-Ok-request.header
      c.as_slice.result.now (g.W.Outlet.state c.greet.new.connection.to)
      (g.W.Outlet.state c.greet-2.new.connection.to)
      (g.I.Inlet.state c.await_status.new.from) c.await_status.new.subscriber good
      c.as_slice.ensures c.in-Ok.ensures.whole c.in-Ok-request.ensures.whole c.in-Ok-greet.ensures.whole
      c.in-Ok-subscribe.ensures.whole w (f _ w.passed w.holds))
      c.follow.ensures.followed;
  stopped =
      let holds = c.in-Ok-subscriber_of.ensures.holds _ _ c.in-Ok-greet.ensures.received in
      let w = c.in-Ok-await_status.ensures.waited _ holds in
      let cell = c.args.cell.now in
      IfErr-weaker c.follow.result _ _
      (λ fault f. stopped_after cell _ _ c.in-Ok-request.header
      c.as_slice.result.now (g.W.Outlet.state c.greet.new.connection.to)
      (g.W.Outlet.state c.greet-2.new.connection.to)
      (g.I.Inlet.state c.await_status.new.from) c.await_status.new.subscriber fault
      c.as_slice.ensures c.in-Ok.ensures.whole c.in-Ok-request.ensures.whole c.in-Ok-greet.ensures.whole
      c.in-Ok-subscribe.ensures.whole w (f _ w.passed w.holds))
      c.follow.ensures.front;
  cause =
      let client = client_of g.I.Inlet.state g.W.Outlet.state g.O.Outlet.state in
      let holds = c.in-Ok-subscriber_of.ensures.holds _ _ c.in-Ok-greet.ensures.received in
      let w = c.in-Ok-await_status.ensures.waited _ holds in
      causes_followed c.follow.result _ (client c.args.shell.now c.args.iopub.now c.args.output.now)
      (client (record { from = c.greet.new.connection.from; to = c.request.new.to })
      (record { from = c.follow.new.from; to = c.subscribe.new.to }) c.follow.new.output)
      (g.I.Inlet.state c.await_status.new.from) c.await_status.new.subscriber w c.in-Ok.ensures.good.0
      c.follow.ensures.stalls;
}
