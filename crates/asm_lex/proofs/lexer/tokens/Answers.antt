use Rattle.std.proofs.Common.{arith, rules, sym}
use Rattle.asm_syntax.specs.Lexemes.{lexeme_of, pieces_of}
use Rattle.asm_lex.specs.Tokens.{tokens_of}
use Rattle.asm_lex.proofs.Scan.{at_end, at_blank, at_comment, at_token, at_fault, pieces_of-append}
use Rattle.asm_lex.proofs.lexer.tokens.Goals as goal

pub returns-in-Err : goal.returns-in-Err
returns-in-Err c =
    at_fault c.in-Err.kind (pieces_of c.loop-rest.found.items) c.loop-rest.column c.loop-rest.rest.now
    (tokens_of c.args.line.now) (search rules) (sym c.if-is_blank.ensures) c.if-first-eq59.false
    (sym c.in-Err.ensures.value) c.loop-rest.invariant.goes_on

pub returns-then-first-eq59 : goal.returns-then-first-eq59
returns-then-first-eq59 c =
    at_comment (pieces_of c.loop-rest.found.items) c.loop-rest.column c.loop-rest.rest.now
    (tokens_of c.args.line.now) (search rules) (sym c.if-is_blank.ensures) c.if-first-eq59.true
    c.loop-rest.invariant.goes_on

pub returns : goal.returns
returns c =
    at_end (pieces_of c.loop-rest.found.items) c.loop-rest.column c.loop-rest.rest.now
    (tokens_of c.args.line.now) (search rules) c.loop-rest.invariant.goes_on

pub loop-rest-preserved-then-is_blank : goal.loop-rest-preserved-then-is_blank
loop-rest-preserved-then-is_blank c = record {
  within = omega arith;
  goes_on =
      rw c.split_at.ensures.back (at_blank (pieces_of c.loop-rest.found.items) c.loop-rest.column
      c.loop-rest.rest.now (tokens_of c.args.line.now) (search rules) (sym c.if-is_blank.ensures)
      c.loop-rest.invariant.goes_on);
}

pub loop-rest-preserved : goal.loop-rest-preserved
loop-rest-preserved c = record {
  within = omega arith;
  goes_on =
      rw (c.in_ok-push-in-Ok.ensures.items, c.split_at-in-Ok.ensures.back, pieces_of-append)
      (at_token (pieces_of c.loop-rest.found.items) c.loop-rest.column c.loop-rest.rest.now
      (tokens_of c.args.line.now) (lexeme_of c.in-Ok.token) c.in-Ok.len (search rules)
      (sym c.if-is_blank.ensures) c.if-first-eq59.false (sym c.in-Ok.ensures.value) c.in-Ok.ensures.within.0
      c.loop-rest.invariant.goes_on);
}
