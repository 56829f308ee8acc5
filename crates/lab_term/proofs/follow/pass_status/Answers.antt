use Rattle.std.proofs.Common.{◌∙◌, sym}
use Rattle.lab_term.proofs.CourseLemmas.{passes_all, passes_status, passing_on}
use Rattle.lab_term.proofs.follow.pass_status.Goals as goal

pub returns-then-is_status-clause-passes : goal.returns-then-is_status-clause-passes
returns-then-is_status-clause-passes c =
    passes_status c.args.key.now c.args.queue.now.items c.loop-frames.queue.items c.pop_front.new.self.items
    c.in-Some.frames _
    c.in-Some.ensures.items c.loop-frames.invariant c.in-Ok.ensures.notice
    (sym c.is_status.ensures ∙ c.if-is_status.true)

pub loop-frames-preserved : goal.loop-frames-preserved
loop-frames-preserved c =
    passing_on c.args.key.now c.args.queue.now.items c.loop-frames.queue.items c.pop_front.new.self.items
    c.in-Some.frames _
    c.in-Some.ensures.items c.loop-frames.invariant c.in-Ok.ensures.notice
    (sym c.is_status.ensures ∙ c.if-is_status.false)

pub returns-clause-passes : goal.returns-clause-passes
returns-clause-passes c =
    passes_all c.args.key.now c.args.queue.now.items c.loop-frames.queue.items c.pop_front.new.self.items
    c.in_default.ensures.items c.loop-frames.invariant
