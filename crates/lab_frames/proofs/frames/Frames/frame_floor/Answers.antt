use Rattle.std.proofs.Common.{sym}
use Rattle.lab_frames.proofs.FrameLemmas.{last-above}
use Rattle.lab_frames.proofs.frames.Frames.frame_floor.Goals as goal

pub returns-in-Some-clause-above : goal.returns-in-Some-clause-above
returns-in-Some-clause-above c = λ sp low.
    last-above 65536 sp c.self.inside.frames.items c.args.self.now c.in-Some.frame.now
    (rw (← c.deref.ensures.value) (sym c.in-Some.ensures.value)) c.self.view_is c.self.invariant.0 low
