use Rattle.std.proofs.Common.{arith}
use Rattle.asm_text.proofs.Conditionals.{switched}
use Rattle.asm_text.proofs.conditional.OpenIfs.switch.Goals as goal

pub returns : goal.returns
returns c =
    switched c.args.column c.self.inside.items c.self.inside.len c.args.self.now (omega arith) (omega arith)
    c.self.view_is
    c.if-innermost.false
