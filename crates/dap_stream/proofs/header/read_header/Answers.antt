use Rattle.std.proofs.Common.{arith}
use Rattle.dap_stream.proofs.StreamLemmas.{broken_front, header_long}
use Rattle.dap_stream.proofs.header.read_header.Goals as goal

pub returns-then-limit-eq-HEADER_SIZE : goal.returns-then-limit-eq-HEADER_SIZE
returns-then-limit-eq-HEADER_SIZE c =
    header_long c.args.bytes.now c.min-limit.result (omega arith) c.if-limit-eq-HEADER_SIZE.true
    (rw c.split_at.ensures.front at c.in-Begun.ensures)

pub returns-in-Broken : goal.returns-in-Broken
returns-in-Broken c =
    broken_front c.args.bytes.now c.min-limit.result c.in-Broken.cause (omega arith) (omega arith)
    (rw c.split_at.ensures.front at c.in-Broken.ensures)
