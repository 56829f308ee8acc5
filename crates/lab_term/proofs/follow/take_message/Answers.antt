use Rattle.std.proofs.Common.{◌∙◌, refl, sym}
use Rattle.lab_term.proofs.CourseLemmas.{one_idle}
use Rattle.lab_term.proofs.follow.take_message.Goals as goal

pub returns-then-is_idle-clause-takes : goal.returns-then-is_idle-clause-takes
returns-then-is_idle-clause-takes g c =
    one_idle _ c.args.frames _ _ _ c.in-Ok.ensures.notice (sym c.is_of.ensures ∙ c.if-not-is_of.false)
    (sym c.is_idle.ensures ∙ c.if-is_idle.true) refl c.is_error.ensures
