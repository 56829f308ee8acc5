use Rattle.std.proofs.Common.{◌∙◌, Err, ap}
use Rattle.kern_net.proofs.ReadTurnLemmas.{never_lagged}
use Rattle.kern_net.proofs.submitting.make_call.Goals as goal

pub returns-in-Err-Lagged-clause-err : goal.returns-in-Err-Lagged-clause-err
returns-in-Err-Lagged-clause-err g c =
    never_lagged c.args.pass.now c.turn.new.pass c.args.call c.in-Ok.answer c.in-Err-Lagged.field-0-0
    c.in-Ok.ensures.ok (c.in-Err-Lagged.ensures.err ∙ ap Err c.in-Err-Lagged.field-0-is) c.requires.read

pub returns-in-Err-Lagged-clause-counted : goal.returns-in-Err-Lagged-clause-counted
returns-in-Err-Lagged-clause-counted g c =
    absurd (never_lagged c.args.pass.now c.turn.new.pass c.args.call c.in-Ok.answer c.in-Err-Lagged.field-0-0
    c.in-Ok.ensures.ok (c.in-Err-Lagged.ensures.err ∙ ap Err c.in-Err-Lagged.field-0-is) c.requires.read)

pub returns-in-Err-Lagged-clause-woke : goal.returns-in-Err-Lagged-clause-woke
returns-in-Err-Lagged-clause-woke g c =
    absurd (never_lagged c.args.pass.now c.turn.new.pass c.args.call c.in-Ok.answer c.in-Err-Lagged.field-0-0
    c.in-Ok.ensures.ok (c.in-Err-Lagged.ensures.err ∙ ap Err c.in-Err-Lagged.field-0-is) c.requires.read)

pub returns-in-Err-Lagged-clause-told : goal.returns-in-Err-Lagged-clause-told
returns-in-Err-Lagged-clause-told g c =
    absurd (never_lagged c.args.pass.now c.turn.new.pass c.args.call c.in-Ok.answer c.in-Err-Lagged.field-0-0
    c.in-Ok.ensures.ok (c.in-Err-Lagged.ensures.err ∙ ap Err c.in-Err-Lagged.field-0-is) c.requires.read)
