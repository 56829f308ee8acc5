use Rattle.std.proofs.Common.{◌∙◌, sym}
use Rattle.lab80_web.proofs.ServeLemmas.{piece_broken, piece_cut, piece_unread}
use Rattle.lab80_web.proofs.serve.take_piece.Goals as goal

pub returns-in-Some-clause-takes : goal.returns-in-Some-clause-takes
returns-in-Some-clause-takes g c = λ s r.
    piece_broken s c.args.piece.now c.args.decoder.now c.feed.new.decoder c.args.kernel.now
    c.answer_messages.new.kernel _ _ c.in-Ok.field-0.messages c.in-Some.cause c.in-Ok.ensures.completes
    (sym c.in-Ok.ensures.broken ∙ c.in-Some.is) (c.in-Ok-answer_messages.ensures.answers s r).0

pub returns-in-Err-answer_messages-clause-takes : goal.returns-in-Err-answer_messages-clause-takes
returns-in-Err-answer_messages-clause-takes g c = λ s r.
    piece_cut s c.args.piece.now c.args.decoder.now c.feed.new.decoder c.args.kernel.now
    c.answer_messages.new.kernel _ _ c.in-Ok.field-0.messages c.in-Err-answer_messages.fault
    c.in-Ok.ensures.completes (c.in-Err-answer_messages.ensures.answers s r).0

pub returns-in-Err-clause-takes : goal.returns-in-Err-clause-takes
returns-in-Err-clause-takes g c = λ s r.
    piece_unread s c.args.piece.now c.args.decoder.now c.feed.new.decoder c.args.kernel.now _
    c.in-Err.ensures.err c.requires
