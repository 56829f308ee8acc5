use Rattle.dap_stream.proofs.StreamLemmas.{read_more, passes_shorter, whole_lines}
use Rattle.dap_stream.proofs.header.read_lines.Goals as goal

pub loop-others-smaller : goal.loop-others-smaller
loop-others-smaller c =
    let read = c.loop-others.invariant in
    passes_shorter read.lines c.loop-others.rest.now c.in-Field.others.now c.in-Field.next
    (c.in-Field.ensures read.lines read.front)

pub loop-others-preserved : goal.loop-others-preserved
loop-others-preserved c =
    let read = c.loop-others.invariant in
    read_more c.args.bytes.now c.loop-others.rest.now c.in-Field.others.now c.loop-others.size
    c.in-Field.next read (c.in-Field.ensures read.lines read.front)

pub returns-in-End : goal.returns-in-End
returns-in-End c =
    let read = c.loop-others.invariant in
    whole_lines c.args.bytes.now c.loop-others.rest.now c.in-End.others.now c.loop-others.size c.in-End.size
    read (c.in-End.ensures read.lines read.front)
