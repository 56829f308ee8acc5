use Rattle.std.proofs.Common.{◌≡◌, drop}
use Rattle.asm_encode.specs.Bytes.{all_bytes, append_to}
use Rattle.asm_encode.proofs.bytes.all_bytes.Given as goal

abbrev pub invariant-loop-operand : goal.invariant-loop-operand
invariant-loop-operand g l =
    append_to l.bytes.items (all_bytes (g.T.ByteSource.bytes (g.E.Env.values l.names) l.here)
    (drop l.operand-index l.operands))
    ≡ all_bytes (g.T.ByteSource.bytes (g.E.Env.values l.names) l.here) l.operands
