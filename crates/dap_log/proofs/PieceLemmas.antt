-- The piece at the front of a text, as a loop finds it.
use Rattle.std.proofs.Common.{◌≡◌, ◌≢◌, ℕ, suc, ◌+◌, ◌<◌, [], ◌∷◌, ◌++◌, Bool, true, false, not, ◌||◌, cond}
use Rattle.std.proofs.Common.{refl, ap, arith, length, get_or}
use Rattle.std.specs.List.{list_any, prefix_len, position_or_len, take_while, before_first}
use Rattle.std.proofs.lemmas.Bool.{ne_eqb}
use Rattle.std.proofs.lemmas.List.{length-append}
use Rattle.std.proofs.lemmas.List.Folds.{length-prefix_len}
use Rattle.std.proofs.lemmas.List.Sums.{prefix_len_stops}
use Rattle.base_text.specs.Bytes.{Text}
use Rattle.dap_log.specs.Pieces.{open_brace, close_brace, is_plain, is_close, begins_with, piece_at}
use Rattle.dap_log.specs.Pieces.{open_piece, close_piece, Plain, Expression, Unclosed}

-- a text that doesn't begin so has no such character at its front
pub other_front : (c : ℕ) (text : Text) → ((rest : Text) → text ≢ c ∷ rest) → begins_with c text ≡ false
other_front c [] other = refl
other_front c (d ∷ rest) other = ne_eqb d c (λ e. other rest (ap (λ (x : ℕ). x ∷ rest) e))

none_at : (p : ℕ → Bool) (x : ℕ) (xs : Text) (v : Bool) → p x ≡ v
    → (position_or_len p xs ≡ length xs → list_any p xs ≡ false)
    → cond (not v) (1 + position_or_len p xs) 0 ≡ suc (length xs) → v || list_any p xs ≡ false
none_at p x xs true e rest last = absurd (omega (arith, last))
none_at p x xs false e rest last = rest (omega (arith, last))

-- a text without a first place of a character doesn't have it
pub none_found : (p : ℕ → Bool) (text : Text) → position_or_len p text ≡ length text
    → list_any p text ≡ false
none_found p [] last = refl
none_found p (x ∷ xs) last = none_at p x xs (p x) refl (none_found p xs) last

one_at : (p : ℕ → Bool) (x : ℕ) (xs : Text) (v : Bool) → p x ≡ v
    → (position_or_len p xs < length xs → list_any p xs ≡ true)
    → cond (not v) (1 + position_or_len p xs) 0 < suc (length xs) → v || list_any p xs ≡ true
one_at p x xs true e rest less = refl
one_at p x xs false e rest less = rest (omega (arith, less))

pub one_found : (p : ℕ → Bool) (text : Text) → position_or_len p text < length text
    → list_any p text ≡ true
one_found p [] less = absurd (omega (arith, less))
one_found p (x ∷ xs) less = one_at p x xs (p x) refl (one_found p xs) less

-- a closing brace alone stands for itself
pub close_alone : (text : Text) → ((rest : Text) → text ≢ close_brace ∷ rest)
    → close_piece text ≡ Plain (close_brace ∷ [])
close_alone text other = rw (other_front close_brace text other) refl

-- an opening brace without a closing one behind it isn't closed, and else begins an expression
pub unclosed_piece : (text : Text) → ((rest : Text) → text ≢ open_brace ∷ rest)
    → position_or_len is_close text ≡ length text → open_piece text ≡ Unclosed
unclosed_piece text other e =
    let none : list_any is_close text ≡ false = none_found is_close text e in
    rw (other_front open_brace text other, none) refl

pub closed_piece : (text : Text) → ((rest : Text) → text ≢ open_brace ∷ rest)
    → position_or_len is_close text < length text
    → open_piece text ≡ Expression (before_first is_close text)
closed_piece text other less =
    let some : list_any is_close text ≡ true = one_found is_close text less in
    rw (other_front open_brace text other, some) refl

-- a text that begins otherwise than with a brace
pub plain_front : (text : Text) → 0 < length text → ((rest : Text) → text ≢ open_brace ∷ rest)
    → ((rest : Text) → text ≢ close_brace ∷ rest)
    → (piece_at text ≡ Plain (take_while is_plain text)) × (0 < prefix_len is_plain text)
plain_front [] some not_open not_close = absurd (omega arith)
plain_front (c ∷ rest) some not_open not_close =
    let other : c ≢ open_brace = λ e. not_open rest (ap (λ (x : ℕ). x ∷ rest) e) in
    let others : c ≢ close_brace = λ e. not_close rest (ap (λ (x : ℕ). x ∷ rest) e) in (
      rw (ne_eqb c open_brace other, ne_eqb c close_brace others) refl,
      rw (ne_eqb c open_brace other, ne_eqb c close_brace others) (omega arith),
    )

brace_is_ascii : (c : ℕ) → is_plain c ≡ false → c < 128
brace_is_ascii c brace = grind arith

-- a text may be cut before its first brace
pub cut_at_brace : (text : Text) → prefix_len is_plain text < length text
    → get_or text (prefix_len is_plain text) 0 < 128
cut_at_brace text less = brace_is_ascii _ (prefix_len_stops is_plain text 0 less)

-- an expression and the brace behind it
pub expression_len : (text : Text)
    → length (before_first is_close text ++ close_brace ∷ []) ≡ position_or_len is_close text + 1
expression_len text = simp (length-append, length-prefix_len (λ c. not (is_close c)) text) (omega arith)
