use Rattle.std.proofs.Common.{arith}
use Rattle.asm_lex.proofs.Numerals.{overflowed}
use Rattle.asm_lex.proofs.number.in_base.Goals as goal

pub returns-then-n-gt65535 : goal.returns-then-n-gt65535
returns-then-n-gt65535 c =
    overflowed c.args.base c.loop-d.n c.loop-d.d-index c.digit-v.result c.args.digits.now c.requires.low
    (omega arith) c.digit-v.ensures (omega arith) c.loop-d.invariant.goes_on
