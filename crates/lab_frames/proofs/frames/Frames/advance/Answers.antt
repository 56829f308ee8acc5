use Rattle.std.proofs.Common.{◌≡◌, ◌+◌, ◌<◌, ◌++◌, length, length-append, ◌∙◌, refl, arith, rules, vec_len}
use Rattle.lab_frames.specs.Live.{made_by}
use Rattle.lab_frames.specs.Frames.{FollowsStep}
use Rattle.lab_frames.proofs.FrameLemmas.{advanced, falls-length}
use Rattle.lab_frames.proofs.frames.Frames.advance.Goals as goal
use Rattle.lab_frames.proofs.frames.Frames.advance.Goals.{After-push_made}

pub push_made-requires : goal.push_made-requires
push_made-requires c =
    let sp : c.args.sp < 65536 = omega arith in
    let popped = c.drop_ended.new.frames.items in
    let made = made_by c.args.answer c.args.site in
    let after =
    advanced c.args.answer c.args.site c.args.sp c.args.self.now _ popped (popped ++ made) c.self.view_is
    sp c.requires.calls c.self.invariant.0 c.drop_ended.ensures.left refl in
    let few = falls-length 65536 (popped ++ made) after.falls in
    let both : length (popped ++ made) ≡ length popped + length made = length-append popped made in
    let left : vec_len c.drop_ended.new.frames ≡ length popped = search rules in
    omega arith

-- what holds of the frames once the made one is pushed
after_step : (c : After-push_made)
    → FollowsStep c.args.answer c.args.site c.args.sp (c.args.self.now, c.push_made.new.frames.items)
    (length c.drop_ended.new.frames.items)
after_step c =
    let sp : c.args.sp < 65536 = omega arith in
    advanced c.args.answer c.args.site c.args.sp c.args.self.now _ _ _ c.self.view_is sp
    c.requires.calls c.self.invariant.0 c.drop_ended.ensures.left c.push_made.ensures.pushed

pub invariant_of-self : goal.invariant_of-self
invariant_of-self c = ((after_step (goal.at.invariant_of-self c).After-push_made).falls, omega arith)

pub returns : goal.returns
returns c =
    let left : c.len-left.result ≡ length c.drop_ended.new.frames.items = c.len-left.ensures ∙ search rules in
    rw left (after_step (goal.at.returns c).After-push_made)
