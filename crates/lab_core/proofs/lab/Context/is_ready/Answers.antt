use Rattle.std.proofs.Common.{◌<◌, arith}
use Rattle.std.proofs.lemmas.Bool.Decides.{nat_tests}
use Rattle.lab_frames.specs.Frames.{AtLeast}
use Rattle.lab_core.proofs.QuietLemmas.{below_frame_floor}
use Rattle.lab_core.proofs.lab.Context.is_ready.Goals as goal

pub returns-then-not-is_arming-clause-sure : goal.returns-then-not-is_arming-clause-sure
returns-then-not-is_arming-clause-sure c = λ floor ready.
    let frames = c.args.self.now.frames in
    let small : c.sp.result < 65536 = omega arith in
    let above : AtLeast c.sp.result frames = rw c.sp.ensures (ready.above _ ready.within) in
    let within : c.sp.result < c.args.frame_floor =
    below_frame_floor c.sp.result c.args.frame_floor frames small above c.requires.floor in
    grind (arith, nat_tests)
