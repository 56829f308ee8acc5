use Rattle.std.proofs.Common.{sym}
use Rattle.asm_syntax.specs.Lexemes.{pieces_of}
use Rattle.asm_lex.proofs.Operands.{single_none}
use Rattle.asm_lex.proofs.commas.single.Goals as goal

pub returns-in_default-Some : goal.returns-in_default-Some
returns-in_default-Some c =
    sym (single_none (pieces_of c.args.tokens.now) _ (pieces_of c.in_default-Some.field-0-1.now)
    (rw c.in_default-Some.is-1 at c.next_operand.ensures.operands))
