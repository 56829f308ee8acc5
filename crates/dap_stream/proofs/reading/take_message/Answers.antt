use Rattle.dap_stream.proofs.StreamLemmas.{part_body, parts_are}
use Rattle.dap_stream.proofs.reading.take_message.Goals as goal

pub returns-then-others-size : goal.returns-then-others-size
returns-then-others-size c =
    part_body c.args.bytes.now c.split_at.result.1.now c.in-Whole.header c.in-Whole.size c.in-Whole.ensures
    c.split_at.ensures.back c.if-others-size.true

pub returns-else-others-size : goal.returns-else-others-size
returns-else-others-size c =
    parts_are c.args.bytes.now c.split_at.result.1.now c.split_at-in-Whole.result.0.now
    c.split_at-in-Whole.result.1.now
    c.in-Whole.header c.in-Whole.size c.in-Whole.ensures c.split_at.ensures.back c.if-others-size.false
    c.split_at-in-Whole.ensures.front c.split_at-in-Whole.ensures.back
