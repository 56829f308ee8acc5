use Rattle.std.proofs.Common.{not, rules}
use Rattle.std.proofs.lemmas.Fn.{filter_same}
use Rattle.lab_frames.specs.declared.frame.Frame.{Frame}
use Rattle.lab_frames.specs.Live.{ended_by}
use Rattle.lab_frames.proofs.frames.drop_among.Goals as goal

pub returns-clause-left : goal.returns-clause-left
returns-clause-left c =
    let test : Frame → _ = λ f. not (ended_by c.args.answer c.args.sp f.slot) in
    filter_same _ test _ (λ x b f h. let s = h.shows in let m = h.called.met in search (rules, s, m)) _ _
    c.retain.ensures.filtered
