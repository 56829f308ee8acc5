-- The spelling of what is read is the text.
use Rattle.std.proofs.Common.{◌≡◌, ℕ, zero, suc, ◌+◌, ◌-◌, ◌<◌, [], ◌∷◌, ◌++◌, drop, length, cond}
use Rattle.std.proofs.Common.{Bool, true, false, not, ◌||◌, ◌==◌, if◌then◌else◌, eqb, take}
use Rattle.std.proofs.Common.{refl, sym, ap, ◌∙◌, append_assoc, arith}
use Rattle.std.specs.List.{flat_map, list_any, list_all, take_while, before_first, position_or_len}
use Rattle.std.specs.List.{prefix_len}
use Rattle.std.proofs.lemmas.List.{take-append-drop, length-append}
use Rattle.std.proofs.lemmas.List.Folds.{length-prefix_len}
use Rattle.std.proofs.lemmas.Bool.{eqb-true, both_ways, and_from}
use Rattle.base_text.specs.Bytes.{Text}
use Rattle.dap_log.specs.Pieces.{Piece, Plain, Doubled, Expression, Unclosed, spelling, piece_at, pieces_from}
use Rattle.dap_log.specs.Pieces.{is_whole, open_brace, close_brace, is_plain, is_close, begins_with}
use Rattle.dap_log.specs.Pieces.{open_piece, close_piece, expression_piece}
use Rattle.dap_log.proofs.PieceLemmas.{expression_len}

-- a text is a piece's spelling and what follows
record IsAtFront (p : Piece) (text : Text) : Type 0 where
  written : spelling p ++ drop (length (spelling p)) text ≡ text
  some : 0 < length (spelling p)
  whole : is_whole p ≡ true

same_front : (c : ℕ) (rest : Text) → begins_with c rest ≡ true → c ∷ drop 1 rest ≡ rest
same_front c [] e = absurd (both_ways false refl e)
same_front c (d ∷ rest) e = ap (λ (x : ℕ). x ∷ rest) (sym (eqb-true d c e))

around_step : (d : ℕ) (rest : Text) (v : Bool) → is_close d ≡ v
    → (list_any is_close rest ≡ true
    → before_first is_close rest ++ close_brace ∷ drop (position_or_len is_close rest + 1) rest ≡ rest)
    → v || list_any is_close rest ≡ true
    → take (cond (not v) (1 + position_or_len is_close rest) 0) (d ∷ rest)
    ++ close_brace ∷ drop (cond (not v) (1 + position_or_len is_close rest) 0 + 1) (d ∷ rest) ≡ d ∷ rest
around_step d rest true e so any = ap (λ (x : ℕ). x ∷ rest) (sym (eqb-true d close_brace e))
around_step d rest false e so any =
    let n = position_or_len is_close rest in
    let one : 1 + n ≡ suc n = omega arith in
    let two : 1 + n + 1 ≡ suc (n + 1) = omega arith in
    rw (two, one) (ap (λ (t : Text). d ∷ t) (so any))

-- a text is what stands before a brace in it, the brace, and what stands after it
text_around : (rest : Text) → list_any is_close rest ≡ true
    → before_first is_close rest ++ close_brace ∷ drop (position_or_len is_close rest + 1) rest ≡ rest
text_around [] any = absurd (both_ways false refl any)
text_around (d ∷ rest) any = around_step d rest (is_close d) refl (text_around rest) any

before_step : (d : ℕ) (rest : Text) (v : Bool) → is_close d ≡ v
    → list_any is_close (before_first is_close rest) ≡ false
    → list_any is_close (take (cond (not v) (1 + position_or_len is_close rest) 0) (d ∷ rest)) ≡ false
before_step d rest true e none = refl
before_step d rest false e none =
    let one : 1 + position_or_len is_close rest ≡ suc (position_or_len is_close rest) = omega arith in
    rw (one, e) none

-- what stands before the first closing brace has none
before_has_none : (rest : Text) → list_any is_close (before_first is_close rest) ≡ false
before_has_none [] = refl
before_has_none (d ∷ rest) = before_step d rest (is_close d) refl (before_has_none rest)

begins_step : (d : ℕ) (rest : Text) (v : Bool) → eqb d open_brace ≡ false
    → begins_with open_brace (take (cond (not v) (1 + position_or_len is_close rest) 0) (d ∷ rest)) ≡ false
begins_step d rest true e = refl
begins_step d rest false e =
    let one : 1 + position_or_len is_close rest ≡ suc (position_or_len is_close rest) = omega arith in
    rw one e

begins_before : (rest : Text) → begins_with open_brace rest ≡ false
    → begins_with open_brace (before_first is_close rest) ≡ false
begins_before [] e = refl
begins_before (d ∷ rest) e = begins_step d rest (is_close d) e

expression_fronts : (rest : Text) (v : Bool) → begins_with open_brace rest ≡ false
    → list_any is_close rest ≡ v
    → IsAtFront (if v then Expression (before_first is_close rest) else Unclosed) (open_brace ∷ rest)
expression_fronts rest true other e =
    let text = before_first is_close rest in
    let after = drop (position_or_len is_close rest + 1) rest in
    record {
      written =
          rw (expression_len rest) (ap (λ (t : Text). open_brace ∷ t)
          (append_assoc text (close_brace ∷ []) after ∙ text_around rest e));
      some = omega arith;
      whole = rw (before_has_none rest, begins_before rest other) refl;
    }
expression_fronts rest false other e = record { written = refl; some = omega arith; whole = refl }

open_fronts : (rest : Text) (v : Bool) → begins_with open_brace rest ≡ v
    → IsAtFront (if v then Doubled (open_brace ∷ []) else expression_piece rest) (open_brace ∷ rest)
open_fronts rest true e = record {
  written = ap (λ (t : Text). open_brace ∷ t) (same_front open_brace rest e);
  some = omega arith;
  whole = refl;
}
open_fronts rest false e = expression_fronts rest (list_any is_close rest) e refl

close_fronts : (rest : Text) (v : Bool) → begins_with close_brace rest ≡ v
    → IsAtFront (if v then Doubled (close_brace ∷ []) else Plain (close_brace ∷ [])) (close_brace ∷ rest)
close_fronts rest true e = record {
  written = ap (λ (t : Text). close_brace ∷ t) (same_front close_brace rest e);
  some = omega arith;
  whole = refl;
}
close_fronts rest false e = record { written = refl; some = omega arith; whole = refl }

all_step : (c : ℕ) (rest : Text) (v : Bool) → is_plain c ≡ v
    → list_all is_plain (take_while is_plain rest) ≡ true
    → list_all is_plain (take (cond v (1 + prefix_len is_plain rest) 0) (c ∷ rest)) ≡ true
all_step c rest true e all =
    let one : 1 + prefix_len is_plain rest ≡ suc (prefix_len is_plain rest) = omega arith in
    rw (one, e) all
all_step c rest false e all = refl

all_plain : (text : Text) → list_all is_plain (take_while is_plain text) ≡ true
all_plain [] = refl
all_plain (c ∷ rest) = all_step c rest (is_plain c) refl (all_plain rest)

plain_fronts : (c : ℕ) (rest : Text) → eqb c open_brace ≡ false → eqb c close_brace ≡ false
    → IsAtFront (Plain (take_while is_plain (c ∷ rest))) (c ∷ rest)
plain_fronts c rest not_open not_close =
    let len = length-prefix_len is_plain (c ∷ rest) in
    let first : 0 < prefix_len is_plain (c ∷ rest) = rw (not_open, not_close) (omega arith) in
    record {
      written = rw len (take-append-drop (prefix_len is_plain (c ∷ rest)) (c ∷ rest));
      some = rw len first;
      whole = rw (all_plain (c ∷ rest)) refl;
    }

close_or_plain : (c : ℕ) (rest : Text) (v : Bool) → eqb c open_brace ≡ false → eqb c close_brace ≡ v
    → IsAtFront (if v then close_piece rest else Plain (take_while is_plain (c ∷ rest))) (c ∷ rest)
close_or_plain c rest true other e =
    rw (eqb-true c close_brace e) (close_fronts rest (begins_with close_brace rest) refl)
close_or_plain c rest false other e = plain_fronts c rest other e

open_or_other : (c : ℕ) (rest : Text) (v : Bool) → eqb c open_brace ≡ v
    → IsAtFront (if v then open_piece rest else (if c == close_brace then close_piece rest
    else Plain (take_while is_plain (c ∷ rest)))) (c ∷ rest)
open_or_other c rest true e =
    rw (eqb-true c open_brace e) (open_fronts rest (begins_with open_brace rest) refl)
open_or_other c rest false e = close_or_plain c rest (eqb c close_brace) e refl

-- the piece at the front
at_front : (c : ℕ) (rest : Text) → IsAtFront (piece_at (c ∷ rest)) (c ∷ rest)
at_front c rest = open_or_other c rest (eqb c open_brace) refl

-- the pieces are written as the text is
pub pieces_are_text : (skip column : ℕ) (text : Text)
    → flat_map (λ p. spelling p.1) (pieces_from skip column text) ≡ drop skip text
unfolding pieces_from
pieces_are_text zero column [] = refl
pieces_are_text (suc skip) column [] = refl
pieces_are_text (suc skip) column (c ∷ rest) = pieces_are_text skip (column + 1) rest
pieces_are_text zero column (c ∷ rest) =
    let front = at_front c rest in
    let len = length (spelling (piece_at (c ∷ rest))) in
    let more : len ≡ suc (len - 1) = omega (arith, front.some) in
    ap (λ (t : Text). spelling (piece_at (c ∷ rest)) ++ t) (pieces_are_text (len - 1) (column + 1) rest
    ∙ ap (λ n. drop n (c ∷ rest)) (sym more)) ∙ front.written

pub pieces_are_whole : (skip column : ℕ) (text : Text)
    → list_all (λ p. is_whole p.1) (pieces_from skip column text) ≡ true
unfolding pieces_from
pieces_are_whole zero column [] = refl
pieces_are_whole (suc skip) column [] = refl
pieces_are_whole (suc skip) column (c ∷ rest) = pieces_are_whole skip (column + 1) rest
pieces_are_whole zero column (c ∷ rest) =
    let skip = length (spelling (piece_at (c ∷ rest))) - 1 in
    and_from _ _ (at_front c rest).whole (pieces_are_whole skip (column + 1) rest)

-- the piece at the front is as long as it is written
pub front_len : (text : Text) → 0 < length text
    → length (spelling (piece_at text)) + length (drop (length (spelling (piece_at text))) text) ≡ length text
front_len [] some = absurd (omega (arith, some))
front_len (c ∷ rest) some =
    let front = spelling (piece_at (c ∷ rest)) in
    sym (length-append front (drop (length front) (c ∷ rest)))
    ∙ ap (λ (t : Text). length t) (at_front c rest).written
