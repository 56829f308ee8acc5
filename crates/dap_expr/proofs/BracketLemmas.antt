-- Taking out a read.
use Rattle.std.proofs.Common.{◌≡◌, ℕ, ◌+◌, List, [], ◌∷◌, ◌++◌, length, take, drop, Ok, refl, ap, ◌∙◌, sym}
use Rattle.std.proofs.lemmas.List.{map-append, take-map}
use Rattle.asm_syntax.specs.declared.statement.Operand.{Operand}
use Rattle.asm_syntax.specs.declared.token.Placed.{Placed}
use Rattle.asm_syntax.specs.Lexemes.{Lexeme, piece_of, pieces_of}
use Rattle.asm_lex.specs.Climb.{expression}
use Rattle.dap_expr.specs.declared.brackets.Open.{Open}
use Rattle.dap_expr.specs.Brackets.{Flat, bracket_for, place, after_closing, with_read}

pub closed_ok : (column : ℕ) (f : Flat) (bracket : Open) (l : Lexeme) (address : Operand)
    → bracket_for column f.0 ≡ Ok bracket → place bracket.column (length f.1) ≡ Ok l
    → expression bracket.column (drop (bracket.index + 1) f.0) ≡ Ok address
    → after_closing column f ≡ Ok (with_read bracket l address.expr f)
unfolding after_closing
closed_ok column f bracket l address open-is place-is address-is = rw (open-is, place-is, address-is) refl

pub pieces_put : (k : ℕ) (ps : List Placed) (p : Placed)
    → pieces_of (take k ps ++ p ∷ []) ≡ take k (pieces_of ps) ++ piece_of p ∷ []
pieces_put k ps p =
    map-append piece_of (take k ps) (p ∷ [])
    ∙ ap (λ front. front ++ piece_of p ∷ []) (sym (take-map piece_of k ps))
