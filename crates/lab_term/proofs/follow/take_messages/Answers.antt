use Rattle.std.proofs.Common.{◌∙◌, ◌∷◌, [], sym}
use Rattle.lab_term.proofs.CourseLemmas.{busy_by, going_cut, takes_idle}
use Rattle.lab_term.proofs.follow.take_messages.Goals as goal

pub returns-in-Err-clause-cut : goal.returns-in-Err-clause-cut
returns-in-Err-clause-cut g c =
    going_cut _ _ c.loop-frames.queue.items c.pop_front.new.self.items (c.in-Some.frames ∷ []) _ _ _ _
    c.in-Err.fault
    c.in-Some.ensures.items c.loop-frames.invariant.going c.in-Err.ensures.cut

pub returns-then-course-clause-takes : goal.returns-then-course-clause-takes
returns-then-course-clause-takes g c =
    takes_idle _ _ c.loop-frames.queue.items c.pop_front.new.self.items c.in-Some.frames _ _ _
    c.loop-frames.course.has_failed c.in-Ok.next c.course_after-course.result
    c.in-Some.ensures.items c.loop-frames.invariant.going c.in-Ok.ensures.takes
    (sym c.course_after-course.ensures.idle ∙ c.if-course.true) c.if-course.true
    c.course_after-course.ensures.failed

pub loop-frames-preserved : goal.loop-frames-preserved
loop-frames-preserved g c = record {
  good = c.in-Ok.ensures.good;
  idle = c.if-course.false;
  going =
      busy_by _ _ c.loop-frames.queue.items c.pop_front.new.self.items c.in-Some.frames _ _ _
      c.loop-frames.course.has_failed _ c.in-Ok.next
      c.course_after-course.ensures.failed (sym c.course_after-course.ensures.idle ∙ c.if-course.false)
      c.in-Some.ensures.items c.loop-frames.invariant.going
      c.in-Ok.ensures.takes;
}
