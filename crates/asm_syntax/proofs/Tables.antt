-- Tables of words: two of them say the same where each finds the words of the other.
use Rattle.std.proofs.Common.{◌≡◌, ℕ, List, [], ◌∷◌, Bool, true, false, Option, Some, None, map, refl}
use Rattle.std.proofs.Common.{sym, ◌∙◌}
use Rattle.std.specs.Option.{is_some}
use Rattle.std.specs.Map.{lookup}
use Rattle.std.specs.Str.{bytes_eq}
use Rattle.std.proofs.lemmas.Option.{none-some}
use Rattle.std.proofs.lemmas.Slice.Eq.{bytes_eq-Decides}
use Rattle.i80_base.proofs.Tables.{head_same, tail_same}
use Rattle.asm_syntax.specs.declared.keyword.Keyword.{Keyword}
use Rattle.asm_syntax.specs.declared.keyword.TheConstants.{KEYWORDS}
use Rattle.asm_syntax.specs.Words.{Entry, reserved_words, keyword_of}

-- what a word means by a table
abbrev pub found_by : List Entry → List ℕ → Option Keyword
found_by es word = lookup (bytes_eq word) es

-- the table in the code
abbrev pub table : List Entry
table = map (λ e. (e.0.now, e.1)) KEYWORDS

some_none : (found : Option Keyword) → is_some found ≡ true → found ≡ None → ⊥
some_none None h n = cc
some_none (Some k) h n = cc

found : (s t : List Entry) → map (λ e. found_by s e.0) t ≡ map (λ e. Some e.1) t
    → (w : List ℕ) (k : Keyword) → found_by t w ≡ Some k → found_by s w ≡ Some k
found s [] h w k e = absurd (none-some k e)
found s (x ∷ xs) h w k e = by (λ i. found s xs (tail_same _ _ _ _ h) w k i) (bytes_eq w x.0) refl
  where
    by : (found_by xs w ≡ Some k → found_by s w ≡ Some k)
        → (b : Bool) → bytes_eq w x.0 ≡ b → found_by s w ≡ Some k
    by next true t =
        let same : w ≡ x.0 = (bytes_eq-Decides w x.0).0 t in
        let here : found_by s x.0 ≡ Some x.1 = head_same _ _ _ _ h in
        let is : Some x.1 ≡ Some k = rw t at e in
        rw same (here ∙ is)
    by next false t = let i : found_by xs w ≡ Some k = rw t at e in next i

missing : (s t : List Entry) → map (λ e. is_some (found_by t e.0)) s ≡ map (λ e. true) s
    → (w : List ℕ) → found_by t w ≡ None → found_by s w ≡ None
missing [] t h w n = refl
missing (x ∷ xs) t h w n = by (missing xs t (tail_same _ _ _ _ h) w n) (bytes_eq w x.0) refl
  where
    by : found_by xs w ≡ None → (b : Bool) → bytes_eq w x.0 ≡ b → found_by (x ∷ xs) w ≡ None
    by next true e =
        let same : w ≡ x.0 = (bytes_eq-Decides w x.0).0 e in
        let some : is_some (found_by t x.0) ≡ true = head_same _ _ _ _ h in
        let none : found_by t x.0 ≡ None = rw same at n in
        absurd (some_none _ some none)
    by next false e = rw e next

same_words : (s t : List Entry) → map (λ e. found_by s e.0) t ≡ map (λ e. Some e.1) t
    → map (λ e. is_some (found_by t e.0)) s ≡ map (λ e. true) s
    → (w : List ℕ) → found_by t w ≡ found_by s w
same_words s t to from w = by (found_by t w) refl
  where
    by : (o : Option Keyword) → found_by t w ≡ o → found_by t w ≡ found_by s w
    by None e = e ∙ sym (missing s t from w e)
    by (Some k) e = e ∙ sym (found s t to w k e)

pub keywords_are : (w : List ℕ) → found_by table w ≡ keyword_of w
unfolding keyword_of
keywords_are w = same_words reserved_words table refl refl w
