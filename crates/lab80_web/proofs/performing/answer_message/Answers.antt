use Rattle.lab80_web.proofs.PerformLemmas.{message_answered, message_cut, message_unread}
use Rattle.lab80_web.proofs.performing.answer_message.Goals as goal

pub returns-in_default-clause-answers : goal.returns-in_default-clause-answers
returns-in_default-clause-answers g c = message_unread c.args.frames c.args.kernel.now _ c.requires

pub returns-in-Ok-perform-clause-answers : goal.returns-in-Ok-perform-clause-answers
returns-in-Ok-perform-clause-answers g c =
    message_answered c.args.frames c.in-Ok.item c.args.kernel.now c.perform.new.kernel _ _ _
    c.in-Ok-perform.answer c.send_answer.result c.in-Ok.ensures c.in-Ok-perform.ensures.effect
    c.send_answer.ensures

pub returns-in-Err-clause-answers : goal.returns-in-Err-clause-answers
returns-in-Err-clause-answers g c =
    message_cut c.args.frames c.in-Ok.item c.args.kernel.now c.perform.new.kernel _ _ c.in-Err.fault
    c.in-Ok.ensures c.in-Err.ensures.effect
