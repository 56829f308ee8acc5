use Rattle.std.proofs.Common.{◌∙◌, ap}
use Rattle.std.proofs.lemmas.Result.{err_from_is_err_and}
use Rattle.asm_encode.specs.Bytes.{all_bytes, append_to}
use Rattle.asm_encode.proofs.BytesLemmas.{appended_none, bytes_go, bytes_fail, bytes_end}
use Rattle.asm_encode.proofs.bytes.all_bytes.Goals as goal

pub loop-operand-init : goal.loop-operand-init
loop-operand-init g c =
    ap (λ front. append_to front
    (all_bytes (g.T.ByteSource.bytes (g.E.Env.values c.args.names.now) c.args.here)
    c.args.operands.now)) c.new-bytes.ensures.items
    ∙ appended_none _

pub returns-in_err-put : goal.returns-in_err-put
returns-in_err-put g c =
    let p = err_from_is_err_and c.from_residual.result c.from_residual.ensures.1 in
    rw (p.1, p.2) (bytes_fail c.in_err-put.field-0.0
    (g.T.ByteSource.bytes (g.E.Env.values c.args.names.now) c.args.here) c.args.operands.now
    c.loop-operand.operand-index c.operand-item.result c.loop-operand.bytes.items
    (all_bytes (g.T.ByteSource.bytes (g.E.Env.values c.args.names.now) c.args.here) c.args.operands.now)
    c.loop-operand-test.true c.operand-item.is
    c.in_err-put.ensures c.loop-operand.invariant)

pub loop-operand-preserved : goal.loop-operand-preserved
loop-operand-preserved g c =
    bytes_go (g.T.ByteSource.bytes (g.E.Env.values c.args.names.now) c.args.here) c.args.operands.now
    c.loop-operand.operand-index c.operand-item.result
    c.loop-operand.bytes.items _ _ c.loop-operand-test.true c.operand-item.is c.in_ok-put.ensures
    c.loop-operand.invariant

pub returns : goal.returns
returns g c =
    bytes_end (g.T.ByteSource.bytes (g.E.Env.values c.args.names.now) c.args.here) c.args.operands.now
    c.loop-operand.operand-index
    c.loop-operand.bytes.items _ c.loop-operand-test.false c.loop-operand.invariant
