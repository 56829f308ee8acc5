use Rattle.std.proofs.Common.{refl, arith, ◌++◌, sym, ◌∙◌}
use Rattle.lab_term.specs.declared.subscriber.Subscriber.{Subscriber}
use Rattle.lab_term.proofs.CourseLemmas.{followed_by, follows_by, follows_first, follows_taken, stops_by}
use Rattle.lab_term.proofs.StopLemmas.{front_cut, front_here, stalls_cut, stalls_starved, unreceived_none}
use Rattle.lab_term.proofs.StopLemmas.{worn}
use Rattle.lab_term.proofs.follow.follow.Goals as goal

pub loop-init : goal.loop-init
loop-init g c = record {
  readable = c.requires.readable;
  writable = c.requires.writable;
  reads = refl;
  follows =
      λ before passed h. follows_first (record { key = c.args.key.now; header = c.args.header.now })
      before _ c.args.subscriber.now passed _ _ refl h;
}

pub returns-then-course-clause-followed : goal.returns-then-course-clause-followed
returns-then-course-clause-followed g c = λ before passed h.
    let new : Subscriber = record c.loop.subscriber { queue = c.take_messages.new.queue } in
    rw c.end_by.ensures (followed_by (record { key = c.args.key.now; header = c.args.header.now })
    before _ c.loop.subscriber new passed _ _ _ c.loop.course.has_failed
    c.course_after-course.result.has_failed c.in-Ok.next c.course_after-course.ensures.failed
    c.in-Ok.ensures.takes (refl, refl, refl) (sym c.course_after-course.ensures.idle ∙ c.if-course.true)
    (c.loop.invariant.follows before passed h))

pub loop-preserved : goal.loop-preserved
loop-preserved g c = record {
  readable = c.in-Ok-refill.ensures.good;
  writable = c.in-Ok.ensures.good;
  reads = (let r = c.in-Ok-refill.ensures.reads in let n = c.loop.invariant.reads in omega (arith, r, n));
  follows = λ before passed h.
      let new : Subscriber = record c.loop.subscriber { queue = c.take_messages.new.queue } in
      follows_by (record { key = c.args.key.now; header = c.args.header.now })
      before _ _ c.loop.subscriber new c.refill.new.subscriber passed _ _ _
      c.loop.course.has_failed c.course_after-course.result.has_failed c.in-Ok.next
      c.course_after-course.ensures.failed (sym c.course_after-course.ensures.idle ∙ c.if-course.false)
      c.in-Ok.ensures.takes (refl, refl, refl) c.in-Ok-refill.ensures.holds
      (c.loop.invariant.follows before passed h);
}

pub returns-in-Err-clause-front : goal.returns-in-Err-clause-front
returns-in-Err-clause-front g c = λ before passed h.
    front_cut (record { key = c.args.key.now; header = c.args.header.now })
    before _ c.loop.subscriber passed _ _ _ c.loop.course.has_failed c.in-Err.fault
    c.in-Err.ensures.cut (c.loop.invariant.follows before passed h)

pub returns-in-Err-clause-stalls : goal.returns-in-Err-clause-stalls
returns-in-Err-clause-stalls g c = λ before passed h.
    let w = c.loop.invariant.follows before passed h in
    stalls_cut _ before _ c.loop.subscriber (passed ++ w.taken) _ c.in-Err.fault
    c.loop.invariant.readable (stops_by _ _ _ _ _ c.in-Err.ensures.cut) w.holds

pub returns-in-Err-refill-clause-front : goal.returns-in-Err-refill-clause-front
returns-in-Err-refill-clause-front g c = λ before passed h.
    let new : Subscriber = record c.loop.subscriber { queue = c.take_messages.new.queue } in
    let w = c.loop.invariant.follows before passed h in
    front_here (record { key = c.args.key.now; header = c.args.header.now })
    before _ _ new passed _ _ _ c.in-Err-refill.fault
    c.in-Err-refill.ensures.unreceived
    (λ e. c.in-Ok.ensures.rest (sym c.course_after-course.ensures.idle ∙ c.if-course.false))
    (follows_taken (record { key = c.args.key.now; header = c.args.header.now })
    before _ c.loop.subscriber new passed _ _ _ c.loop.course.has_failed
    c.in-Ok.next (sym c.course_after-course.ensures.idle ∙ c.if-course.false)
    c.in-Ok.ensures.takes (refl, refl, refl) w)

pub returns-in-Err-refill-clause-stalls : goal.returns-in-Err-refill-clause-stalls
returns-in-Err-refill-clause-stalls g c = λ before passed h.
    let new : Subscriber = record c.loop.subscriber { queue = c.take_messages.new.queue } in
    let w = c.loop.invariant.follows before passed h in
    stalls_starved _ before _ _ (g.O.Outlet.state c.take_messages.new.output) c.loop.subscriber new
    c.refill.new.subscriber (passed ++ w.taken) c.in-Err-refill.fault refl
    c.in-Err-refill.ensures.starves c.in-Err-refill.ensures.stays w.holds

pub returns-clause-front : goal.returns-clause-front
returns-clause-front g c = λ before passed h.
    front_here (record { key = c.args.key.now; header = c.args.header.now })
    before _ _ c.loop.subscriber passed _ _ _ _ (unreceived_none _ _)
    (λ e. absurd e) (c.loop.invariant.follows before passed h)

pub returns-clause-stalls : goal.returns-clause-stalls
returns-clause-stalls g c = λ before passed h.
    let w = c.loop.invariant.follows before passed h in
    worn before (g.I.Inlet.state c.loop.from)
    c.loop.subscriber (passed ++ w.taken)
    (let n = c.loop.invariant.reads in omega (arith, n, c.loop-test.false)) w.holds

pub refill-requires-clause-left : goal.refill-requires-clause-left
refill-requires-clause-left g c = let n = c.loop.invariant.reads in omega (arith, n, c.loop-test.true)

pub refill-requires-clause-empty : goal.refill-requires-clause-empty
refill-requires-clause-empty g c =
    c.in-Ok.ensures.rest (sym c.course_after-course.ensures.idle ∙ c.if-course.false)
