use Rattle.std.proofs.Common.{◌∙◌, ap}
use Rattle.std.proofs.lemmas.Result.{IfOk-weaker}
use Rattle.zmtp_wire.specs.Writing.{message_bytes}
use Rattle.kern_net.proofs.StreamLemmas.{message_is}
use Rattle.kern_net.proofs.stream.message_of.Goals as goal

pub returns : goal.returns
returns c =
    let frames = c.in_ok-frames.frames in
    IfOk-weaker c.put_message.result _ _
    (λ bytes is. message_is c.args.key.now c.args.session.now c.args.post.now frames bytes
    c.in_ok-frames.ensures (is ∙ ap message_bytes c.as_slice.ensures))
    c.put_message.ensures.bytes
