use Rattle.std.proofs.Common.{arith, sym, ◌∙◌, ◌≡◌, ◌+◌, ◌-◌}
use Rattle.std.proofs.lemmas.Result.{err_from_is_err_and}
use Rattle.asm_syntax.specs.Lexemes.{pieces_of}
use Rattle.asm_lex.specs.Operators.{symbols}
use Rattle.asm_lex.specs.Climb.{expr_at}
use Rattle.asm_lex.proofs.Climbs.{chain_stops, chain_right_faults, chain_made_faults, chain_goes_on}
use Rattle.asm_lex.proofs.Climbs.{chain_ends, fails_along}
use Rattle.asm_lex.proofs.expression.+climb.Goals as goal

pub expr_at-returns-in_default : goal.expr_at-returns-in_default
expr_at-returns-in_default t c =
    sym c.loop.invariant
    ∙ chain_stops c.args.first (expr_at c.args.first (c.args.n - 1)) (65 - c.loop.counter) c.args.level
    c.loop.left (symbols (pieces_of c.loop.rest.now))
    (omega arith) (sym c.in_default.ensures)

pub expr_at-returns-in_err-right : goal.expr_at-returns-in_err-right
expr_at-returns-in_err-right t c =
    let p = err_from_is_err_and c.from_residual-in_err-right.result c.from_residual-in_err-right.ensures.1 in
    rw (p.1, p.2) (fails_along c.in_err-right.field-0.0 _ _
    (λ f h. sym c.loop.invariant ∙ chain_right_faults c.args.first (expr_at c.args.first (c.args.n - 1))
    (65 - c.loop.counter) c.args.level c.loop.left (symbols (pieces_of c.loop.rest.now))
    (symbols (pieces_of c.in-Some.operand.now)) c.in-Some.operator f
    (omega arith) (sym c.in-Some.ensures) h)
    (rw c.infix_strength.ensures.value at c.in_err-right.ensures))

pub expr_at-returns-in_err-left-2 : goal.expr_at-returns-in_err-left-2
expr_at-returns-in_err-left-2 t c =
    let p =
    err_from_is_err_and c.from_residual-in_err-left-2.result c.from_residual-in_err-left-2.ensures.1 in
    rw (p.1, p.2) (fails_along c.in_err-left-2.field-0.0 _ _
    (λ f h. sym c.loop.invariant ∙ chain_made_faults c.args.first (expr_at c.args.first (c.args.n - 1))
    (65 - c.loop.counter) c.args.level c.loop.left c.in_ok-right.right
    (symbols (pieces_of c.loop.rest.now)) (symbols (pieces_of c.in-Some.operand.now))
    (symbols (pieces_of c.in_ok-right.after.now)) c.in-Some.operator f
    (omega arith) (sym c.in-Some.ensures) (rw c.infix_strength.ensures.value at c.in_ok-right.ensures) h)
    c.in_err-left-2.ensures)

pub expr_at-loop-preserved : goal.expr_at-loop-preserved
expr_at-loop-preserved t c =
    let less : 65 - (c.loop.counter + 1) ≡ 65 - c.loop.counter - 1 = omega arith in
    rw less (sym (chain_goes_on c.args.first (expr_at c.args.first (c.args.n - 1)) (65 - c.loop.counter)
    c.args.level c.loop.left c.in_ok-right.right c.in_ok-left-2.left (symbols (pieces_of c.loop.rest.now))
    (symbols (pieces_of c.in-Some.operand.now)) (symbols (pieces_of c.in_ok-right.after.now))
    c.in-Some.operator
    (omega arith) (sym c.in-Some.ensures) (rw c.infix_strength.ensures.value at c.in_ok-right.ensures)
    c.in_ok-left-2.ensures) ∙ c.loop.invariant)

pub expr_at-returns : goal.expr_at-returns
expr_at-returns t c =
    rw c.too_deep-2.ensures (sym c.loop.invariant
    ∙ chain_ends c.args.first (expr_at c.args.first (c.args.n - 1)) (65 - c.loop.counter) c.args.level
    c.loop.left (symbols (pieces_of c.loop.rest.now)) (omega arith))
