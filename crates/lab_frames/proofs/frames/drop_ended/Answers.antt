use Rattle.std.proofs.Common.{◌∙◌, sym, rules}
use Rattle.lab_frames.proofs.FrameLemmas.{survivors-last, popped}
use Rattle.lab_frames.proofs.frames.drop_ended.Goals as goal

pub loop-newest-preserved : goal.loop-newest-preserved
loop-newest-preserved c =
    let inv = c.loop-newest.invariant in
    let p =
    popped c.args.answer c.args.sp 65536 c.loop-newest.frames.items c.pop.new.self.items
    c.in-Some.newest.now (rw (← c.deref.ensures.value) (sym c.in-Some.ensures.value)) (search rules)
    inv.falls (sym c.is_ended.ensures ∙ c.if-not-is_ended.false) in
    record { same = p.same ∙ inv.same; falls = p.falls; room = c.pop.ensures.capacity ∙ inv.room }

-- the newest stays, and the step is no return from above it: all stay
pub returns-then-not-returns_from_above-clause-left : goal.returns-then-not-returns_from_above-clause-left
returns-then-not-returns_from_above-clause-left c =
    let inv = c.loop-newest.invariant in
    sym (survivors-last c.args.answer c.args.sp 65536 c.loop-newest.frames.items c.in-Some.newest.now
    (rw (← c.deref.ensures.value) (sym c.in-Some.ensures.value)) inv.falls
    (sym c.returns_from_above.ensures ∙ c.if-not-returns_from_above.true)
    (sym c.is_ended.ensures ∙ c.if-not-is_ended.true)) ∙ inv.same
