use Rattle.std.proofs.Common.{rules, ◌≡◌, ◌∙◌, ◌+◌, [], ◌∷◌, ◌++◌, take, drop, length, Ok, refl}
use Rattle.std.proofs.lemmas.List.{drop-map}
use Rattle.asm_syntax.specs.declared.token.Placed.{Placed}
use Rattle.asm_syntax.specs.Lexemes.{piece_of, pieces_of, lexeme_of}
use Rattle.asm_lex.specs.Climb.{expression}
use Rattle.dap_expr.specs.declared.brackets.Read.{Read}
use Rattle.dap_expr.specs.Brackets as brackets
use Rattle.dap_expr.proofs.BracketLemmas.{closed_ok, pieces_put}
use Rattle.dap_expr.proofs.brackets.close.Goals as goal

pub returns : goal.returns
returns c =
    let tokens = c.args.flat.now.tokens.items in
    let bracket = c.in_ok-index.field-0 in
    let there : brackets.bracket_for c.args.column (pieces_of tokens) ≡ Ok bracket = search rules in
    let placed :
    brackets.place bracket.column (length c.args.flat.now.reads.items) ≡ Ok (lexeme_of c.in_ok-token.token) =
    search rules in
    let address :
    expression bracket.column (drop (bracket.index + 1) (pieces_of tokens)) ≡ Ok c.in_ok-address.field-0 =
    rw (drop-map piece_of (bracket.index + 1) tokens) (search rules) in
    let taken : Placed = record { column = bracket.column; token = c.in_ok-token.token } in
    let tokens-are : c.push-2.new.self.items ≡ take bracket.index tokens ++ taken ∷ [] = search rules in
    let read : Read = record { width = bracket.width; address = c.in_ok-address.field-0.expr } in
    let reads-are : c.push.new.self.items ≡ c.args.flat.now.reads.items ++ read ∷ [] = search rules in
    closed_ok c.args.column (brackets.flat_of c.args.flat.now) bracket (lexeme_of c.in_ok-token.token)
    c.in_ok-address.field-0 there placed address
    ∙ rw (tokens-are, reads-are, pieces_put bracket.index tokens taken) refl
