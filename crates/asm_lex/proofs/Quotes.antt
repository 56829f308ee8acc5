-- One step through a string.
use Rattle.std.proofs.Common.{◌≡◌, ℕ, ◌+◌, ◌<◌, ◌≤◌, ◌≢◌, List, [], ◌∷◌, true, false, length, get_or, drop}
use Rattle.std.proofs.Common.{Option, Some, None, refl, sym, ap, ◌∙◌, arith, eqb, eq-eqb}
use Rattle.std.proofs.lemmas.Bool.{ne_eqb, lt-ltb}
use Rattle.std.specs.Prelude.{nat_lt, nat_le}
use Rattle.std.specs.List.{list_all}
use Rattle.asm_lex.specs.Characters.{is_printed}
use Rattle.asm_syntax.specs.Lexemes.{characters_of}
use Rattle.asm_lex.specs.Texts.{moved_by, closing_quote, is_text}

pub moved_none : (o : Option ℕ) → moved_by 0 o ≡ o
moved_none None = refl
moved_none (Some n) = ap (λ (m : ℕ). Some m) (omega arith)

moved_more : (m n : ℕ) (o : Option ℕ) → moved_by m (moved_by n o) ≡ moved_by (m + n) o
moved_more m n None = refl
moved_more m n (Some k) = ap (λ (j : ℕ). Some j) (omega arith)

pub plain : (len : ℕ) (rest : List ℕ) (total : Option ℕ) → 0 < length rest → get_or rest 0 0 ≢ 39
    → moved_by len (closing_quote rest) ≡ total → moved_by (len + 1) (closing_quote (drop 1 rest)) ≡ total
plain len [] total lt ne h = absurd (omega arith)
plain len (b ∷ []) total lt ne h = let e : eqb b 39 ≡ false = ne_eqb b 39 ne in rw e at h
plain len (b ∷ c ∷ rest) total lt ne h =
    let e : eqb b 39 ≡ false = ne_eqb b 39 ne in
    sym (moved_more len 1 (closing_quote (c ∷ rest))) ∙ rw e at h

pub doubled : (len : ℕ) (rest : List ℕ) (total : Option ℕ) → 2 ≤ length rest → get_or rest 0 0 ≡ 39
    → get_or rest 1 0 ≡ 39
    → moved_by len (closing_quote rest) ≡ total → moved_by (len + 2) (closing_quote (drop 2 rest)) ≡ total
doubled len [] total lt e f h = absurd (omega arith)
doubled len (b ∷ []) total lt e f h = absurd (omega arith)
doubled len (b ∷ c ∷ rest) total lt e f h =
    let p = eq-eqb b 39 e in
    let q = eq-eqb c 39 f in
    sym (moved_more len 2 (closing_quote rest)) ∙ rw (p, q) at h

-- the closing quote: a quote at the end, or one that isn't doubled
pub closes : (len : ℕ) (rest : List ℕ) (total : Option ℕ) → 0 < length rest → get_or rest 0 0 ≡ 39
    → (2 ≤ length rest → get_or rest 1 0 ≢ 39)
    → moved_by len (closing_quote rest) ≡ total → Some len ≡ total
closes len [] total lt e f h = absurd (omega arith)
closes len (b ∷ []) total lt e f h =
    let p = eq-eqb b 39 e in
    let n : len ≡ len + 0 = omega arith in
    ap (λ (m : ℕ). Some m) n ∙ rw p at h
closes len (b ∷ c ∷ rest) total lt e f h =
    let p = eq-eqb b 39 e in
    let two : 2 ≤ length (b ∷ c ∷ rest) = omega arith in
    let q : eqb c 39 ≡ false = ne_eqb c 39 (f two) in
    let n : len ≡ len + 0 = omega arith in
    ap (λ (m : ℕ). Some m) n ∙ rw (p, q) at h

-- one character, and those after it
pub characters_of-quote : (rest : List ℕ) → 2 ≤ length rest → get_or rest 0 0 ≡ 39
    → characters_of rest ≡ 39 ∷ characters_of (drop 2 rest)
characters_of-quote [] lt e = absurd (omega arith)
characters_of-quote (b ∷ []) lt e = absurd (omega arith)
characters_of-quote (b ∷ c ∷ rest) lt e =
    let p = eq-eqb b 39 e in
    rw p (ap (λ k. k ∷ characters_of rest) e)

pub text_fits : (t : List ℕ) (n : ℕ) → list_all is_printed t ≡ true → n ≡ length (characters_of t) → 0 < n
    → nat_le n 128 ≡ is_text t
text_fits t n all is pos =
    let some : nat_lt 0 (length (characters_of t)) ≡ true =
    lt-ltb 0 (length (characters_of t)) (omega arith) in
    rw (all, some, is) refl
