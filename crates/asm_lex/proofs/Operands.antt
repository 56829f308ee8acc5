-- Operands between commas, one token after the other.
use Rattle.std.proofs.Common.{◌≡◌, ℕ, suc, ◌+◌, ◌<◌, ◌≤◌, List, [], ◌∷◌, ◌++◌, Bool, true, false, length}
use Rattle.std.proofs.Common.{get_or, take, drop, drop-cons, Option, Some, None, refl, sym, ap, ◌∙◌, add-one}
use Rattle.std.proofs.Common.{append_assoc, append-nil}
use Rattle.std.proofs.lemmas.List.{take_more, map_push, drop_all, take_all}
use Rattle.asm_syntax.specs.declared.token.Placed.{Placed}
use Rattle.asm_syntax.specs.Lexemes.{Piece, piece_of, pieces_of, lexeme_of}
use Rattle.asm_lex.specs.Commas.{is_comma, operands_of, operands_after, split_commas, next_operand}
use Rattle.asm_lex.specs.Commas.{single, pair}

pub operands_step : (ps : List Piece)
    → operands_of ps ≡ (next_operand ps).0 ∷ operands_after (next_operand ps).1
unfolding operands_of next_operand
operands_step [] = refl
operands_step (p ∷ ps) = by (operands_step ps) (is_comma p.1) refl
  where
    by : operands_of ps ≡ (next_operand ps).0 ∷ operands_after (next_operand ps).1
        → (b : Bool) → is_comma p.1 ≡ b
        → operands_of (p ∷ ps) ≡ (next_operand (p ∷ ps)).0 ∷ operands_after (next_operand (p ∷ ps)).1
    by h true e = rw e refl
    by h false e = rw (e, h) refl

pub single_none : (ps : List Piece) (a : List Piece) (r : List Piece) → operands_of ps ≡ a ∷ operands_of r
    → single (split_commas ps) ≡ None
single_none [] a r h = refl
single_none (p ∷ ps) a r h = rw (h, operands_step r) refl

pub pair_none : (ps a r b s : List Piece) → operands_of ps ≡ a ∷ operands_of r
    → operands_of r ≡ b ∷ operands_of s → pair (split_commas ps) ≡ None
pair_none [] a r b s h i = refl
pair_none (p ∷ ps) a r b s h i = rw (h, i, operands_step s) refl

-- the pieces before, put before the first operand
abbrev pub with_front : List Piece → List Piece × Option (List Piece) → List Piece × Option (List Piece)
with_front qs x = (qs ++ x.0, x.1)

abbrev pub front_is : List Placed → ℕ → List Piece × Option (List Piece)
front_is ts i = with_front (pieces_of (take i ts)) (next_operand (pieces_of (drop i ts)))

at_front : (ts : List Placed) (i : ℕ) (p : Placed) → i < length ts → p ≡ get_or ts i p
    → drop i ts ≡ p ∷ drop (i + 1) ts
at_front ts i p lt e = rw add-one (drop-cons ts i p lt ∙ ap (λ (q : Placed). q ∷ drop (suc i) ts) (sym e))

pub goes_on : (ts : List Placed) (i : ℕ) (p : Placed) → i < length ts → p ≡ get_or ts i p
    → is_comma (lexeme_of p.token) ≡ false → front_is ts (i + 1) ≡ front_is ts i
unfolding next_operand
goes_on ts i p lt e other =
    let taken : take (i + 1) ts ≡ take i ts ++ p ∷ [] =
    take_more ts i p lt ∙ ap (λ (q : Placed). take i ts ++ q ∷ []) (sym e) in
    let mapped : pieces_of (take (i + 1) ts) ≡ pieces_of (take i ts) ++ piece_of p ∷ [] =
    rw taken (map_push piece_of (take i ts) p) in
    rw (at_front ts i p lt e, mapped, other, append_assoc) refl

pub stops : (ts : List Placed) (i : ℕ) (p : Placed) → i < length ts → p ≡ get_or ts i p
    → is_comma (lexeme_of p.token) ≡ true
    → front_is ts i ≡ (pieces_of (take i ts), Some (pieces_of (drop (i + 1) ts)))
unfolding next_operand
stops ts i p lt e comma = rw (at_front ts i p lt e, comma, append-nil) refl

pub ended : (ts : List Placed) (i : ℕ) → length ts ≤ i → front_is ts i ≡ (pieces_of ts, None)
unfolding next_operand
ended ts i le = rw (drop_all i ts le, take_all i ts le, append-nil) refl

pub operands_are : (ps first : List Piece) (rest : Option (List Piece)) → next_operand ps ≡ (first, rest)
    → operands_of ps ≡ first ∷ operands_after rest
operands_are ps first rest h =
    operands_step ps ∙ ap (λ (x : List Piece × Option (List Piece)). x.0 ∷ operands_after x.1) h
