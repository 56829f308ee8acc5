-- A text without braces is one piece.
use Rattle.std.proofs.Common.{◌≡◌, ℕ, zero, suc, ◌+◌, ◌≤◌, [], ◌∷◌, length, take}
use Rattle.std.proofs.Common.{true, refl, ap, ◌∙◌, arith, eqb}
use Rattle.std.specs.List.{list_all, prefix_len}
use Rattle.std.proofs.Math.Seq.{take-length}
use Rattle.std.proofs.lemmas.Bool.{and_parts, or_parts, not-true}
use Rattle.base_text.specs.Bytes.{Text}
use Rattle.dap_log.specs.Pieces.{Plain, piece_at, pieces_from, pieces_of, open_brace, close_brace}
use Rattle.dap_log.specs.Pieces.{is_plain}

nothing_left : (skip column : ℕ) (text : Text) → length text ≤ skip → pieces_from skip column text ≡ []
unfolding pieces_from
nothing_left zero column [] short = refl
nothing_left (suc skip) column [] short = refl
nothing_left zero column (c ∷ rest) short = absurd (omega (arith, short))
nothing_left (suc skip) column (c ∷ rest) short = nothing_left skip (column + 1) rest (omega (arith, short))

plain_len : (text : Text) → list_all is_plain text ≡ true → prefix_len is_plain text ≡ length text
plain_len [] all = refl
plain_len (c ∷ rest) all =
    let parts = and_parts (is_plain c) (list_all is_plain rest) all in
    rw (parts.0, plain_len rest parts.1) (omega arith)

plain_at : (c : ℕ) (rest : Text) → list_all is_plain (c ∷ rest) ≡ true
    → piece_at (c ∷ rest) ≡ Plain (c ∷ rest)
plain_at c rest all =
    let first = and_parts (is_plain c) (list_all is_plain rest) all in
    let other = or_parts (eqb c open_brace) (eqb c close_brace) (not-true _ first.0) in
    let len : 1 + prefix_len is_plain rest ≡ length (c ∷ rest) = omega (arith, plain_len rest first.1) in
    rw (other.0, other.1) (ap (λ n. Plain (take n (c ∷ rest))) len
    ∙ ap (λ (t : Text). Plain t) (take-length (c ∷ rest)))

pub one_piece : (c : ℕ) (rest : Text) → list_all is_plain (c ∷ rest) ≡ true
    → pieces_of (c ∷ rest) ≡ (1, Plain (c ∷ rest)) ∷ []
unfolding pieces_from
one_piece c rest all =
    rw (plain_at c rest all) (ap (λ ps. (1, Plain (c ∷ rest)) ∷ ps) (nothing_left _ _ rest (omega arith)))
