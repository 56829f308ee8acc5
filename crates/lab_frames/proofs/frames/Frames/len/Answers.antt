use Rattle.std.proofs.Common.{◌≡◌, length, arith, rules, vec_len}
use Rattle.lab_frames.proofs.FrameLemmas.{falls-length}
use Rattle.lab_frames.proofs.frames.Frames.len.Goals as goal

pub returns-clause-few : goal.returns-clause-few
returns-clause-few c =
    let few = falls-length 65536 c.self.inside.frames.items c.self.invariant.0 in
    let all : vec_len c.self.inside.frames ≡ length c.self.inside.frames.items = search rules in
    omega arith
