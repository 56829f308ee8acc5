use Rattle.std.proofs.Common.{arith, sym, ◌∙◌}
use Rattle.asm_syntax.specs.Lexemes.{pieces_of}
use Rattle.asm_lex.proofs.Operands.{goes_on, stops, ended, operands_are}
use Rattle.asm_lex.proofs.commas.next_operand.Goals as goal

pub returns-then-is_sign-clause-value : goal.returns-then-is_sign-clause-value
returns-then-is_sign-clause-value c =
    rw (c.split_at.ensures.front, c.split_at-then-is_sign.ensures.back)
    (sym (stops c.args.tokens.now c.loop-i.i c.index-tokens-i.result (omega arith) c.index-tokens-i.is
    (sym c.if-is_sign.ensures)) ∙ c.loop-i.invariant)

pub returns-then-is_sign-clause-operands : goal.returns-then-is_sign-clause-operands
returns-then-is_sign-clause-operands c =
    operands_are (pieces_of c.args.tokens.now) _ _ (sym (returns-then-is_sign-clause-value c))

pub loop-i-preserved : goal.loop-i-preserved
loop-i-preserved c =
    goes_on c.args.tokens.now c.loop-i.i c.index-tokens-i.result (omega arith) c.index-tokens-i.is
    (sym c.if-is_sign.ensures) ∙ c.loop-i.invariant

pub returns-clause-value : goal.returns-clause-value
returns-clause-value c = sym (ended c.args.tokens.now c.loop-i.i (omega arith)) ∙ c.loop-i.invariant

pub returns-clause-operands : goal.returns-clause-operands
returns-clause-operands c = operands_are (pieces_of c.args.tokens.now) _ _ (sym (returns-clause-value c))
