use Rattle.std.proofs.Common.{◌≡◌, ℕ, List, sym, subst, All, length, arith}
use Rattle.std.proofs.lemmas.List.Elements.{All-push}
use Rattle.lab_turn.specs.History.{PassState, IsHistoryOf, IsLegal}
use Rattle.kern_calls.specs.declared.call.Call.{Call}
use Rattle.kern_host.specs.Visits.{house_of}
use Rattle.kern_host.proofs.HostLemmas.{serves_each, works_in}
use Rattle.kern_host.proofs.host.host_at.Goals as goal

pub close_desk-requires : goal.close_desk-requires
close_desk-requires g c =
    let P : PassState Call → Type 0 = λ (p : PassState Call). p.turnstile ≡ c.args.opened.desk in
    let A : List (PassState Call) → Type 0 = λ l. All P l in
    subst A (sym c.push_reserved.ensures.items)
    (All-push P c.take_all.new.back.items c.run_all-end.new.working c.take_all.ensures.own
    c.run_all-end.ensures.worked.same.0)

pub returns : goal.returns
returns g c =
    let desk = c.args.opened.desk in
    let entries = c.in-Some.seated.entries in
    let H : List (PassState Call) → Type 0 = λ l. IsHistoryOf desk l entries in
    let L : ℕ → Type 0 = λ n. IsLegal n desk.limit entries in
    let history = subst H c.push_reserved.ensures.items c.in-Some.ensures.history in
    let legal = subst L c.requires.seats history.legal in
    let n = c.take_last-working.ensures.count in let m = c.requires.count in
    record {
      legal = legal;
      guests =
          serves_each (house_of c.args.seal.now desk.limit) desk c.args.guests.now c.seat_all.new.guests
          c.run_all-end.new.guests c.take_all.new.guests c.take_all.new.back.items c.run_all-end.new.working
          entries c.seat_all.ensures c.run_all-end.ensures.visited c.take_all.ensures.guests
          (omega (arith, c.seat_all.auto.guests))
          (omega (arith, c.seat_all.auto.guests, c.run_all-end.auto.guests)) history;
      worker =
          works_in desk (length c.take_last-working.new.passes.items) (length c.args.guests.now)
          c.take_last-working.result c.run_all-end.new.working (g.P.WorkerGate.polls c.args.gate.now)
          (g.P.WorkerGate.polls c.run_all-end.new.gate) c.run_all-end.result c.take_all.new.back.items
          entries c.run_all-end.ensures.worked c.take_last-working.ensures.pass (omega (arith, n, m)) history;
      others = legal.made;
    }
