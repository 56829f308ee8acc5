-- Words that can't stand where they do: a scan finds the leftmost.
use Rattle.std.proofs.Common.{◌≡◌, ℕ, ◌+◌, ◌≤◌, ◌⊎◌, inl, inr, List, [], ◌∷◌, ◌++◌, Bool, true, false, refl}
use Rattle.std.proofs.Common.{sym, ap, ◌∙◌, Option, Some, None, arith, subst}
use Rattle.std.proofs.lemmas.Bool.{false≢true}
use Rattle.asm_syntax.specs.Lexemes.{Piece}
use Rattle.asm_lex.specs.Commas.{is_comma}
use Rattle.asm_lex.specs.Words.{leads, is_misplaced, misplaced_from, misplaced_word}
use Rattle.asm_text.specs.Faults.{IsMisplaced, ends_with}
use Rattle.asm_laws.proofs.DirectiveForms.{Rises}

abbrev MisplacedIn : Bool → Bool → List Piece → ℕ → Type 0
MisplacedIn operand atom [] c = ⊥
MisplacedIn operand atom (p ∷ ps) c =
    ((c ≡ p.0) × (is_misplaced operand atom p.1 ps ≡ true)) ⊎ MisplacedIn (is_comma p.1) (leads p.1) ps c

later : (ps : List Piece) (operand atom : Bool) (column c : ℕ) → Rises column ps
    → MisplacedIn operand atom ps c
    → column ≤ c
later [] operand atom column c r m = absurd m
later (p ∷ ps) operand atom column c r (inl m) =
    let at = m.0 in
    let le = r.0 in
    omega (arith, at, le)
later (p ∷ ps) operand atom column c r (inr m) =
    let more = later ps (is_comma p.1) (leads p.1) (p.0 + 1) c r.1 m in
    let le = r.0 in
    omega (arith, more, le)

abbrev Scanned : Bool → Bool → List Piece → Option ℕ → Type 0
Scanned operand atom ps None = (c : ℕ) → MisplacedIn operand atom ps c → ⊥
Scanned operand atom ps (Some k) =
    MisplacedIn operand atom ps k × ((c : ℕ) → MisplacedIn operand atom ps c → k ≤ c)

only_later : (operand atom : Bool) (p : Piece) (ps : List Piece) (c : ℕ)
    → is_misplaced operand atom p.1 ps ≡ false → MisplacedIn operand atom (p ∷ ps) c
    → MisplacedIn (is_comma p.1) (leads p.1) ps c
only_later operand atom p ps c well (inl m) = absurd (false≢true (sym well ∙ m.1))
only_later operand atom p ps c well (inr m) = m

passed : (operand atom : Bool) (p : Piece) (ps : List Piece) → is_misplaced operand atom p.1 ps ≡ false
    → (x : Option ℕ) → Scanned (is_comma p.1) (leads p.1) ps x → Scanned operand atom (p ∷ ps) x
passed operand atom p ps well None h = λ c m. h c (only_later operand atom p ps c well m)
passed operand atom p ps well (Some k) h = (inr h.0, λ c m. h.1 c (only_later operand atom p ps c well m))

scanned : (ps : List Piece) (operand atom : Bool) (column : ℕ) → Rises column ps
    → Scanned operand atom ps (misplaced_from operand atom ps)
unfolding misplaced_from
scanned [] operand atom column r = λ c m. m
scanned (p ∷ ps) operand atom column r =
    by (scanned ps (is_comma p.1) (leads p.1) (p.0 + 1) r.1) (is_misplaced operand atom p.1 ps) refl
  where
    first : (c : ℕ) → MisplacedIn operand atom (p ∷ ps) c → p.0 ≤ c
    first c (inl m) = let at = m.0 in omega (arith, at)
    first c (inr m) =
        let more = later ps (is_comma p.1) (leads p.1) (p.0 + 1) c r.1 m in
        omega (arith, more)

    by : Scanned (is_comma p.1) (leads p.1) ps (misplaced_from (is_comma p.1) (leads p.1) ps)
        → (b : Bool) → is_misplaced operand atom p.1 ps ≡ b
        → Scanned operand atom (p ∷ ps) (misplaced_from operand atom (p ∷ ps))
    by next true e =
        let is : misplaced_from operand atom (p ∷ ps) ≡ Some p.0 = rw e refl in
        subst (Scanned operand atom (p ∷ ps)) (sym is) (inl (refl, e), first)
    by next false e =
        let is : misplaced_from operand atom (p ∷ ps) ≡ misplaced_from (is_comma p.1) (leads p.1) ps = rw
        e refl in
        subst (Scanned operand atom (p ∷ ps)) (sym is)
        (passed operand atom p ps e (misplaced_from (is_comma p.1) (leads p.1) ps) next)

found : (before : List Piece) (operand atom : Bool) (p : Piece) (after : List Piece) (c : ℕ) → c ≡ p.0
    → is_misplaced (ends_with is_comma operand before) (ends_with leads atom before) p.1 after ≡ true
    → MisplacedIn operand atom (before ++ (p ∷ after)) c
found [] operand atom p after c at h = inl (at, h)
found (q ∷ before) operand atom p after c at h = inr (found before (is_comma q.1) (leads q.1) p after c at h)

abbrev Places : Bool → Bool → List Piece → ℕ → Type 0
Places operand atom ps c =
    (before : List Piece) × (p : Piece) × (after : List Piece)
    × (ps ≡ before ++ (p ∷ after)) × (c ≡ p.0)
    × (is_misplaced (ends_with is_comma operand before) (ends_with leads atom before) p.1 after ≡ true)

places : (ps : List Piece) (operand atom : Bool) (c : ℕ) → MisplacedIn operand atom ps c
    → Places operand atom ps c
places [] operand atom c m = absurd m
places (p ∷ ps) operand atom c (inl m) = ([], p, ps, refl, m.0, m.1)
places (p ∷ ps) operand atom c (inr m) =
    let b = places ps (is_comma p.1) (leads p.1) c m in
    (p ∷ b.0, b.1, b.2, ap (λ (xs : List Piece). p ∷ xs) b.3, b.4, b.5)

misplaced_in : (ps : List Piece) (c : ℕ) → IsMisplaced ps c → MisplacedIn true true ps c
misplaced_in ps c m =
    subst (λ (xs : List Piece). MisplacedIn true true xs c) (sym m.3) (found m.0 true true m.1 m.2 c m.4 m.5)

-- no word is misplaced, or this is the column of the first that is
abbrev pub WordVerdict : List Piece → Option ℕ → Type 0
WordVerdict ps None = (c : ℕ) → IsMisplaced ps c → ⊥
WordVerdict ps (Some k) = IsMisplaced ps k × ((c : ℕ) → IsMisplaced ps c → k ≤ c)

judged_by : (ps : List Piece) (x : Option ℕ) → Scanned true true ps x → WordVerdict ps x
judged_by ps None h = λ c m. h c (misplaced_in ps c m)
judged_by ps (Some k) h = (places ps true true k h.0, λ c m. h.1 c (misplaced_in ps c m))

pub words_judged : (ps : List Piece) (column : ℕ) → Rises column ps → WordVerdict ps (misplaced_word ps)
words_judged ps column r = judged_by ps (misplaced_word ps) (scanned ps true true column r)

pub misplaced_from_on : (ps : List Piece) (column c : ℕ) → Rises column ps → IsMisplaced ps c → column ≤ c
misplaced_from_on ps column c r m = later ps true true column c r (misplaced_in ps c m)
