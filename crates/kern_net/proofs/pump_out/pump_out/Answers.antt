use Rattle.std.proofs.Common.{refl, ap, ◌∙◌, arith}
use Rattle.kern_net.specs.Gates.{WriterPolls, times}
use Rattle.kern_net.specs.Out.{NoFetch}
use Rattle.kern_net.proofs.OutLemmas.{written_first, halted, halted_calls, went_on, went_fetched, went_longer}
use Rattle.kern_net.proofs.OutLemmas.{went_over, went_closed, went_up, said_yes, said_no, said_once}
use Rattle.kern_net.proofs.OutLemmas.{since_none, went_since, was_asked}
use Rattle.kern_net.proofs.pump_out.pump_out.Goals as goal

pub loop-init : goal.loop-init
loop-init g c = record {
  own = c.requires.pass;
  seat = refl;
  good = c.requires.good;
  gate = ap (λ (x : WriterPolls). x.idle.no) c.begin.ensures ∙ c.requires.gate;
  written = written_first _ _ _ _;
  since = since_none _ _ _ _ _ (ap (λ (x : WriterPolls). x.next) c.begin.ensures);
  fetched = NoFetch;
  polled = (let t = ap (λ (x : WriterPolls). times x.idle) c.begin.ensures in omega (arith, t));
}

pub returns-in-Err : goal.returns-in-Err
returns-in-Err g c =
    let i = c.loop.invariant in
    let a = i.polled in
    let h = halted_calls _ _ _ _ _ _ _ c.in-Err.ensures.err in
    record {
      same = (c.fetch_on.ensures.same.0, c.fetch_on.ensures.same.1 ∙ i.seat);
      wrote =
          halted _ _ _ _ (g.G.WriterGate.polls c.args.gate.now) (g.G.WriterGate.polls c.loop.gate) _ _ _ _ _
          i.written i.fetched i.gate _ c.in-Err.ensures.err;
      idle = omega (arith, a, h);
    }

pub returns-then-ended : goal.returns-then-ended
returns-then-ended g c =
    let i = c.loop.invariant in
    let a = i.polled in
    let n = went_longer _ _ _ _ _ _ _ _ c.in-Ok.ensures.ok in
    let moved = c.saturating_sub.ensures in
    let short = c.if-saturating_sub-lt-NUMBERS_OF_A_FETCH.true in
    record {
      same = (c.fetch_on.ensures.same.0, c.fetch_on.ensures.same.1 ∙ i.seat);
      wrote =
          went_over _ _ _ _ (g.G.WriterGate.polls c.args.gate.now) (g.G.WriterGate.polls c.loop.gate)
          _ _ _ _ _ _ _ i.written i.fetched c.in-Ok.ensures.ok c.in-Ok.ensures.good (omega
          (arith, moved, short)) i.gate c.if-ended.true;
      idle = omega (arith, a, n);
    }

pub returns-then-not-idle : goal.returns-then-not-idle
returns-then-not-idle g c =
    let i = c.loop.invariant in
    let a = i.polled in
    let n = went_longer _ _ _ _ _ _ _ _ c.in-Ok.ensures.ok in
    let asked = was_asked (g.G.WriterGate.polls c.loop.gate) (g.G.WriterGate.polls c.idle.new.self) _ _
    c.idle.ensures in
    let once = said_once (g.G.WriterGate.polls c.loop.gate) (g.G.WriterGate.polls c.idle.new.self) _ asked in
    let moved = c.saturating_sub.ensures in
    let short = c.if-saturating_sub-lt-NUMBERS_OF_A_FETCH.true in
    record {
      same = (c.fetch_on.ensures.same.0, c.fetch_on.ensures.same.1 ∙ i.seat);
      wrote =
          went_closed _ _ _ _ (g.G.WriterGate.polls c.args.gate.now)
          (g.G.WriterGate.polls c.idle.new.self) _ _ _ _ _ _ _
          i.written i.fetched c.in-Ok.ensures.ok c.in-Ok.ensures.good (omega (arith, moved, short))
          (said_no (g.G.WriterGate.polls c.loop.gate) (g.G.WriterGate.polls c.idle.new.self) _ asked
          c.if-not-idle.true i.gate);
      idle = omega (arith, a, n, once);
    }

pub loop-preserved-else-not-idle : goal.loop-preserved-else-not-idle
loop-preserved-else-not-idle g c =
    let i = c.loop.invariant in let s = c.in-Ok.ensures.ok in
    let n = went_longer _ _ _ _ _ _ _ _ s in
    let asked = was_asked (g.G.WriterGate.polls c.loop.gate) (g.G.WriterGate.polls c.idle.new.self) _ _
    c.idle.ensures in
    let y = said_yes (g.G.WriterGate.polls c.loop.gate) (g.G.WriterGate.polls c.idle.new.self) _ asked
    c.if-not-idle.false in
    record {
      own = c.fetch_on.ensures.same.0;
      seat = c.fetch_on.ensures.same.1 ∙ i.seat;
      good = c.in-Ok.ensures.good;
      gate = y.1 ∙ i.gate;
      written = went_on _ _ _ _ _ _ _ _ _ _ i.written s;
      since = since_none _ _ _ _ _ (ap (λ (x : WriterPolls). x.next) c.idle.ensures);
      fetched = went_fetched _ _ _ _ _ _ _ _ _ _ i.fetched s;
      polled = (let a = i.polled in let m = y.0 in omega (arith, n, a, m));
    }

pub loop-preserved : goal.loop-preserved
loop-preserved g c =
    let i = c.loop.invariant in let s = c.in-Ok.ensures.ok in
    let n = went_longer _ _ _ _ _ _ _ _ s in
    let a = i.polled in
    record {
      own = c.fetch_on.ensures.same.0;
      seat = c.fetch_on.ensures.same.1 ∙ i.seat;
      good = c.in-Ok.ensures.good;
      gate = i.gate;
      written = went_on _ _ _ _ _ _ _ _ _ _ i.written s;
      since = went_since _ _ _ _ _ _ _ _ _ i.since s;
      fetched = went_fetched _ _ _ _ _ _ _ _ _ _ i.fetched s;
      polled = omega (arith, n, a);
    }

pub idle-requires : goal.idle-requires
idle-requires g c =
    let moved = c.saturating_sub.ensures in
    let short = c.if-saturating_sub-lt-NUMBERS_OF_A_FETCH.true in
    went_up _ _ _ _ _ _ _ _ _ c.loop.invariant.since c.in-Ok.ensures.ok (omega (arith, moved, short))
