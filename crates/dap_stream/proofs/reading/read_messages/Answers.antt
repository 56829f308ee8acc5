use Rattle.dap_stream.proofs.StreamLemmas.{taken_none, taken_more, taken_all}
use Rattle.dap_stream.proofs.reading.read_messages.Goals as goal

pub loop-body-init : goal.loop-body-init
loop-body-init c = rw c.new-bodies.ensures.items (taken_none c.args.bytes.now)

pub loop-body-preserved : goal.loop-body-preserved
loop-body-preserved c =
    rw c.in_ok-add_body-in-Message.ensures (taken_more c.args.bytes.now c.loop-body.rest.now
    c.in-Message.body.now c.in-Message.others.now
    c.loop-body.bodies.items c.loop-body.invariant c.in-Message.ensures)

pub returns-in-End : goal.returns-in-End
returns-in-End c =
    taken_all c.args.bytes.now c.loop-body.rest.now c.loop-body.bodies.items c.in-End.fault
    c.loop-body.invariant
    c.in-End.ensures
