use Rattle.std.proofs.Common.{◌≡◌, length, vec_capacity}
use Rattle.lab_frames.specs.Frames.{survivors, Falls}
use Rattle.lab_frames.proofs.frames.drop_ended.Given as goal

-- what is left of the frames that are still there is what is left of them all
abbrev pub invariant-loop-newest : goal.invariant-loop-newest
invariant-loop-newest l = record {
  same : survivors l.answer l.sp l.frames.items ≡ survivors l.answer l.sp l.fn.frames.items;
  falls : Falls 65536 l.frames.items;
  room : vec_capacity l.frames ≡ vec_capacity l.fn.frames;
}

abbrev pub decreases-loop-newest : goal.decreases-loop-newest
decreases-loop-newest l = length l.frames.items
