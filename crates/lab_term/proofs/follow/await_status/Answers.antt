use Rattle.std.proofs.Common.{refl, arith}
use Rattle.lab_term.specs.declared.subscriber.Subscriber.{Subscriber}
use Rattle.lab_term.proofs.CourseLemmas.{waited, waiting_first, waiting_on}
use Rattle.lab_term.proofs.StopLemmas.{stalls_cut, stalls_starved, worn}
use Rattle.lab_term.proofs.follow.await_status.Goals as goal

pub loop-init : goal.loop-init
loop-init g c = record {
  readable = c.requires;
  reads = refl;
  waiting = λ before h. waiting_first _ before _ c.args.subscriber.now h;
}

pub loop-preserved : goal.loop-preserved
loop-preserved g c = record {
  readable = c.in-Ok-refill.ensures.good;
  reads = (let r = c.in-Ok-refill.ensures.reads in let n = c.loop.invariant.reads in omega (arith, r, n));
  waiting =
      λ before h. waiting_on _ before _ _ c.loop.subscriber _ c.refill.new.subscriber
      c.in-Ok.found c.if-found.false c.in-Ok.ensures.passes (refl, refl, refl) c.in-Ok-refill.ensures.holds
      (c.loop.invariant.waiting before h);
}

pub returns-then-found-clause-waited : goal.returns-then-found-clause-waited
returns-then-found-clause-waited g c = λ before h.
    let new : Subscriber = record c.loop.subscriber { queue = c.pass_status.new.queue } in
    waited _ before _ c.loop.subscriber new c.in-Ok.found c.if-found.true
    c.in-Ok.ensures.passes (refl, refl, refl) (c.loop.invariant.waiting before h)

pub returns-in-Err-clause-stalls : goal.returns-in-Err-clause-stalls
returns-in-Err-clause-stalls g c = λ before to h writable.
    let w = c.loop.invariant.waiting before h in
    stalls_cut _ before _ c.loop.subscriber w.passed to c.in-Err.fault
    c.loop.invariant.readable (c.in-Err.ensures.stops to writable) w.holds

pub returns-in-Err-refill-clause-stalls : goal.returns-in-Err-refill-clause-stalls
returns-in-Err-refill-clause-stalls g c = λ before to h writable.
    let new : Subscriber = record c.loop.subscriber { queue = c.pass_status.new.queue } in
    let w = c.loop.invariant.waiting before h in
    stalls_starved _ before _ _ to c.loop.subscriber new c.refill.new.subscriber w.passed
    c.in-Err-refill.fault refl c.in-Err-refill.ensures.starves c.in-Err-refill.ensures.stays w.holds

pub returns-clause-stalls : goal.returns-clause-stalls
returns-clause-stalls g c = λ before to h writable.
    let w = c.loop.invariant.waiting before h in
    worn before (g.I.Inlet.state c.loop.from)
    c.loop.subscriber w.passed (let n = c.loop.invariant.reads in omega (arith, n, c.loop-test.false)) w.holds

pub refill-requires-clause-left : goal.refill-requires-clause-left
refill-requires-clause-left g c = let n = c.loop.invariant.reads in omega (arith, n, c.loop-test.true)
