use Rattle.std.proofs.Common.{◌∙◌, ap, Some}
use Rattle.kern_net.proofs.AnswerLemmas.{answered}
use Rattle.kern_net.proofs.WorkLemmas.{saw_shutdown}
use Rattle.kern_net.proofs.worker.slice.Goals as goal

pub progress_of-requires : goal.progress_of-requires
progress_of-requires g c =
    answered c.args.pass.now c.turn.new.pass c.unix_seconds-unix_seconds.result c.in-Ok.answer
    c.in-Ok.ensures.ok

pub returns-in-Ok-progress_of-clause-shut_down : goal.returns-in-Ok-progress_of-clause-shut_down
returns-in-Ok-progress_of-clause-shut_down g c = λ is.
    saw_shutdown c.args.pass.now c.turn.new.pass c.unix_seconds-unix_seconds.result c.in-Ok.answer _
    c.in-Ok.ensures.ok (c.progress_of.ensures ∙ ap Some c.in-Ok-progress_of.is) is
