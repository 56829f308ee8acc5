use Rattle.std.proofs.Common.{◌∙◌, refl, rules, inl, inr}
use Rattle.zmtp_wire.proofs.ReceivingLemmas.{received_first, lost_as, lost_writer}
use Rattle.zmtp_wire.proofs.SendingLemmas.{wrote_greeting, wrote_greeting_whole, wrote_ready}
use Rattle.zmtp_wire.proofs.SendingLemmas.{wrote_ready_whole, wrote_whole, greeted, greeted_on, greeted_whole}
use Rattle.zmtp_wire.proofs.handshake.handshake.Goals as goal

pub returns-in-Err : goal.returns-in-Err
returns-in-Err g c = record {
  received = tt;
  ready = tt;
  role = tt;
  greets_first = inl refl;
  front =
      wrote_greeting _ _ _ _ c.args.role c.greeting-greeting.ensures.bytes c.ready-ready.ensures
      c.in-Err.ensures.front;
  whole = tt;
  good = tt;
  blames = search rules;
  lost =
      lost_writer _ _ c.args.role _ c.in-Err.fault c.in-Err.ensures.err.0 c.new.ensures.role
      (received_first _ (record { decoder = c.new.result; messages = c.new-2.result; reads = 0 })
      c.new.ensures.represents c.new-2.ensures refl);
}

pub returns-in-Err-await_greeting : goal.returns-in-Err-await_greeting
returns-in-Err-await_greeting g c = record {
  received = tt;
  ready = tt;
  role = tt;
  greets_first =
      inr (greeted _ (g.W.Outlet.state c.send.new.to) _ c.greeting-greeting.ensures.bytes
      c.in-Ok.ensures.all);
  front =
      wrote_greeting_whole _ _ _ _ c.args.role c.greeting-greeting.ensures.bytes c.ready-ready.ensures
      c.in-Ok.ensures.all;
  whole = tt;
  good = tt;
  blames = search rules;
  lost =
      lost_as _ _ c.args.role _ _ c.new.ensures.role
      (c.in-Err-await_greeting.ensures.lost _
      (received_first _ _ c.new.ensures.represents c.new-2.ensures refl));
}

pub returns-in-Err-send : goal.returns-in-Err-send
returns-in-Err-send g c = record {
  received = tt;
  ready = tt;
  role = tt;
  greets_first =
      inr (greeted_on _ (g.W.Outlet.state c.send.new.to) _ _ _ c.greeting-greeting.ensures.bytes
      c.in-Ok.ensures.all c.in-Err-send.ensures.front);
  front =
      wrote_ready _ (g.W.Outlet.state c.send.new.to) _ _ _ c.args.role
      c.greeting-greeting.ensures.bytes c.ready-ready.ensures c.in-Ok.ensures.all c.in-Err-send.ensures.front;
  whole = tt;
  good = tt;
  blames = search rules;
  lost =
      lost_writer _ _ c.args.role _ c.in-Err-send.fault c.in-Err-send.ensures.err.0
      (c.in-Ok-await_greeting.ensures.role ∙ c.new.ensures.role)
      (c.in-Ok-await_greeting.ensures.received _
      (received_first _ _ c.new.ensures.represents c.new-2.ensures refl));
}

pub returns-in-Err-await_ready : goal.returns-in-Err-await_ready
returns-in-Err-await_ready g c = record {
  received = tt;
  ready = tt;
  role = tt;
  greets_first =
      inr (greeted_whole _ (g.W.Outlet.state c.send.new.to) _ _ _ c.greeting-greeting.ensures.bytes
      c.in-Ok.ensures.all c.in-Ok-send.ensures.all);
  front =
      wrote_ready_whole _ (g.W.Outlet.state c.send.new.to) _ _ _ c.args.role
      c.greeting-greeting.ensures.bytes c.ready-ready.ensures c.in-Ok.ensures.all c.in-Ok-send.ensures.all;
  whole = tt;
  good = tt;
  blames = search rules;
  lost =
      lost_as _ _ c.args.role _ _ (c.in-Ok-await_greeting.ensures.role ∙ c.new.ensures.role)
      (c.in-Err-await_ready.ensures.lost _ (c.in-Ok-await_greeting.ensures.received _
      (received_first _ _ c.new.ensures.represents c.new-2.ensures refl)));
}

pub returns : goal.returns
returns g c = record {
  received =
      c.in-Ok-await_ready.ensures.received _
      (c.in-Ok-await_greeting.ensures.received _
      (received_first _ _ c.new.ensures.represents c.new-2.ensures refl));
  ready = search rules;
  role = search rules;
  greets_first =
      inr (greeted_whole _ (g.W.Outlet.state c.send.new.to) _ _ _ c.greeting-greeting.ensures.bytes
      c.in-Ok.ensures.all c.in-Ok-send.ensures.all);
  front =
      wrote_ready_whole _ (g.W.Outlet.state c.send.new.to) _ _ _ c.args.role
      c.greeting-greeting.ensures.bytes c.ready-ready.ensures c.in-Ok.ensures.all c.in-Ok-send.ensures.all;
  whole =
      wrote_whole _ (g.W.Outlet.state c.send.new.to) _ _ _ c.args.role
      c.greeting-greeting.ensures.bytes c.ready-ready.ensures c.in-Ok.ensures.all c.in-Ok-send.ensures.all;
  good = search rules;
  blames = tt;
  lost = tt;
}
