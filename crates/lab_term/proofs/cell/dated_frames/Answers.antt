use Rattle.std.proofs.lemmas.Result.{IfOk-weaker}
use Rattle.lab_term.proofs.RequestLemmas.{sealed_is_request}
use Rattle.lab_term.proofs.cell.dated_frames.Goals as goal

pub returns : goal.returns
returns c =
    let cell = c.args.cell.now in
    IfOk-weaker c.seal_message.result _ _
    (λ frames sealed. sealed_is_request cell.key.now c.args.date.now cell.session.now cell.code.now
    c.in_ok-draft.draft frames c.in_ok-draft.ensures sealed)
    c.seal_message.ensures.sealed
