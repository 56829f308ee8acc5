-- Reading tokens one after the other, as a loop does.
use Rattle.std.proofs.Common.{◌≡◌, ℕ, zero, suc, ◌+◌, ◌-◌, ◌<◌, List, [], ◌∷◌, ◌++◌, true, false, drop}
use Rattle.std.proofs.Common.{length, get_or, ◌≢◌, Result, Ok, Err, refl, sym, ap, ◌∙◌, append_assoc, arith}
use Rattle.std.proofs.Common.{eqb, eq-eqb}
use Rattle.std.proofs.lemmas.Bool.{ne_eqb}
use Rattle.std.proofs.lemmas.List.{append-nil}
use Rattle.asm_syntax.specs.declared.fault.FaultKind.{FaultKind}
use Rattle.asm_syntax.specs.declared.token.Placed.{Placed}
use Rattle.asm_syntax.specs.Lexemes.{Lexeme, Piece, piece_of, pieces_of}
use Rattle.asm_syntax.specs.Outcome.{Fault, ◌>>=◌}
use Rattle.asm_lex.specs.Characters.{is_blank}
use Rattle.asm_lex.specs.Tokens.{at_column, token_at, tokens_from}

-- what was read before, and what is still read
abbrev pub with_front : List Piece → Result (List Piece) Fault → Result (List Piece) Fault
with_front front read = read >>= λ ps. Ok (front ++ ps)

-- skipping the rest of a token is going on after it
pub skips : (k c : ℕ) (bytes : List ℕ) → tokens_from k c bytes ≡ tokens_from 0 (c + k) (drop k bytes)
unfolding tokens_from
skips zero c bytes = ap (λ n. tokens_from 0 n bytes) (omega arith)
skips (suc k) c [] = refl
skips (suc k) c (b ∷ bytes) = skips k (c + 1) bytes ∙ ap (λ n. tokens_from 0 n (drop k bytes)) (omega arith)

pub at_end : (front : List Piece) (c : ℕ) (bytes : List ℕ) (total : Result (List Piece) Fault)
    → length bytes ≡ 0 → with_front front (tokens_from 0 c bytes) ≡ total → total ≡ Ok front
unfolding tokens_from
at_end front c [] total e so_far = sym so_far ∙ ap (λ ps. Ok ps) (append-nil front)
at_end front c (b ∷ bytes) total e so_far = absurd (omega arith)

pub at_blank : (front : List Piece) (c : ℕ) (bytes : List ℕ) (total : Result (List Piece) Fault)
    → 0 < length bytes → is_blank (get_or bytes 0 0) ≡ true
    → with_front front (tokens_from 0 c bytes) ≡ total
    → with_front front (tokens_from 0 (c + 1) (drop 1 bytes)) ≡ total
unfolding tokens_from
at_blank front c [] total lt e so_far = absurd (omega arith)
at_blank front c (b ∷ bytes) total lt e so_far = rw e at so_far

pub at_comment : (front : List Piece) (c : ℕ) (bytes : List ℕ) (total : Result (List Piece) Fault)
    → 0 < length bytes → is_blank (get_or bytes 0 0) ≡ false → get_or bytes 0 0 ≡ 59
    → with_front front (tokens_from 0 c bytes) ≡ total → total ≡ Ok front
unfolding tokens_from
at_comment front c [] total lt e f so_far = absurd (omega arith)
at_comment front c (b ∷ bytes) total lt e f so_far =
    let g : eqb b 59 ≡ true = eq-eqb b 59 f in
    let one : with_front front (tokens_from 0 c (b ∷ bytes)) ≡ Ok front =
    rw (e, g) (ap (λ (ps : List Piece). Ok ps) (append-nil front)) in
    sym so_far ∙ one

-- what is left at a token
pub rest_at : (c : ℕ) (b : ℕ) (bytes : List ℕ) → is_blank b ≡ false → b ≢ 59
    → tokens_from 0 c (b ∷ bytes)
    ≡ (at_column c (token_at (b ∷ bytes)) >>= λ t. tokens_from (t.1 - 1) (c + 1) bytes >>= λ ps. Ok
    ((c, t.0) ∷ ps))
unfolding tokens_from
rest_at c b bytes e f =
    let g : eqb b 59 ≡ false = ne_eqb b 59 f in
    rw (e, g) refl

regroup : (front : List Piece) (p : Piece) (read : Result (List Piece) Fault)
    → with_front front (read >>= λ ps. Ok (p ∷ ps)) ≡ with_front (front ++ p ∷ []) read
regroup front p (Ok ps) = ap (λ (x : List Piece). Ok x) (simp append_assoc)
regroup front p (Err f) = refl

pub at_token : (front : List Piece) (c : ℕ) (bytes : List ℕ) (total : Result (List Piece) Fault) (t : Lexeme)
    (n : ℕ) → 0 < length bytes → is_blank (get_or bytes 0 0) ≡ false → get_or bytes 0 0 ≢ 59
    → token_at bytes ≡ Ok (t, n) → 0 < n
    → with_front front (tokens_from 0 c bytes) ≡ total
    → with_front (front ++ (c, t) ∷ []) (tokens_from 0 (c + n) (drop n bytes)) ≡ total
at_token front c [] total t n lt e f read pos so_far = absurd (omega arith)
at_token front c (b ∷ bytes) total t zero lt e f read pos so_far = absurd (omega arith)
at_token front c (b ∷ bytes) total t (suc m) lt e f read pos so_far =
    let p : Piece = (c, t) in
    let m_is : suc m - 1 ≡ m = omega arith in
    let c_is : c + suc m ≡ c + 1 + m = omega arith in
    let one : with_front front (tokens_from 0 c (b ∷ bytes))
    ≡ with_front (front ++ p ∷ []) (tokens_from m (c + 1) bytes) =
    rw (rest_at c b bytes e f, read, m_is) (regroup front p (tokens_from m (c + 1) bytes)) in
    let two : tokens_from m (c + 1) bytes ≡ tokens_from 0 (c + suc m) (drop m bytes) =
    skips m (c + 1) bytes ∙ ap (λ k. tokens_from 0 k (drop m bytes)) (sym c_is) in
    ap (with_front (front ++ p ∷ [])) (sym two) ∙ sym one ∙ so_far

pub at_fault : (k : FaultKind) (front : List Piece) (c : ℕ) (bytes : List ℕ)
    (total : Result (List Piece) Fault) → 0 < length bytes → is_blank (get_or bytes 0 0) ≡ false
    → get_or bytes 0 0 ≢ 59
    → token_at bytes ≡ Err k → with_front front (tokens_from 0 c bytes) ≡ total → total ≡ Err (c, k)
at_fault k front c [] total lt e f read so_far = absurd (omega arith)
at_fault k front c (b ∷ bytes) total lt e f read so_far =
    let one : with_front front (tokens_from 0 c (b ∷ bytes)) ≡ Err (c, k) =
    rw (rest_at c b bytes e f, read) refl in
    sym so_far ∙ one

pub pieces_of-append : (ps : List Placed) (p : Placed)
    → pieces_of (ps ++ p ∷ []) ≡ pieces_of ps ++ piece_of p ∷ []
pieces_of-append [] p = refl
pieces_of-append (q ∷ ps) p = ap (λ (t : List Piece). piece_of q ∷ t) (pieces_of-append ps p)
