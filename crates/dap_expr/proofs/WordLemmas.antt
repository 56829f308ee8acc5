-- The end of a pass over tokens.
use Rattle.std.proofs.Common.{◌≡◌, ◌≤◌, ◌∙◌, ℕ, List, ◌++◌, length, drop, ap, append-nil}
use Rattle.std.proofs.Math.ListN.{drop_of_length-le}
use Rattle.asm_syntax.specs.declared.token.Placed.{Placed}
use Rattle.asm_syntax.specs.Lexemes.{Piece, pieces_of}
use Rattle.dap_expr.specs.Words.{expression_pieces}

pub extended_end : (ps : List Placed) (k : ℕ) (found : List Piece) → length ps ≤ k
    → found ++ expression_pieces (pieces_of (drop k ps)) ≡ found
unfolding expression_pieces
extended_end ps k found past =
    ap (λ rest. found ++ expression_pieces (pieces_of rest)) (drop_of_length-le ps past) ∙ append-nil found
