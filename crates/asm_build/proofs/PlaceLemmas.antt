-- Where names are among entries.
use Rattle.std.proofs.Common.{◌≡◌, ℕ, suc, arith, ◌+◌, ◌<◌, length, get_or, set, Option, None, Some}
use Rattle.std.proofs.Common.{option_map, List, [], ◌∷◌, ◌++◌, Bool, true, false, cond, refl, sym, ap, subst}
use Rattle.std.proofs.Common.{◌∙◌}
use Rattle.std.specs.Prelude.{String}
use Rattle.std.specs.Global.{Global}
use Rattle.std.specs.Str.{bytes_eq}
use Rattle.std.specs.String.{string_bytes}
use Rattle.std.proofs.lemmas.Bool.{false≢true}
use Rattle.std.proofs.lemmas.List.{map-append, length-map}
use Rattle.std.proofs.lemmas.Slice.Eq.{bytes_eq-Decides}
use Rattle.asm_build.specs.declared.symbols.Symbol.{Symbol}
use Rattle.asm_build.specs.Texts.{entries_in, place_in}
use Rattle.asm_build.specs.Reading.{symbol_at}
use Rattle.asm_build.specs.Meaning.{with_symbol}

abbrev pub Entry : Type 0
Entry = String Global × Symbol

abbrev pub Table : Type 0
Table = List (List ℕ × Symbol)

-- ---- names

same_bool : (a b : Bool) → (a ≡ true → b ≡ true) → (b ≡ true → a ≡ true) → a ≡ b
same_bool true b h k = sym (h refl)
same_bool false true h k = k refl
same_bool false false h k = refl

pub eq_swap : (x y : List ℕ) → bytes_eq x y ≡ bytes_eq y x
eq_swap x y =
    same_bool (bytes_eq x y) (bytes_eq y x)
    (λ h. (bytes_eq-Decides y x).1 (sym ((bytes_eq-Decides x y).0 h)))
    (λ h. (bytes_eq-Decides x y).1 (sym ((bytes_eq-Decides y x).0 h)))

-- ---- places

no_some : (i : ℕ) → None ≡ Some i → ⊥
no_some i h = cc

inner : (i j : ℕ) → Some i ≡ Some j → i ≡ j
inner i j h = cc

up : (i : ℕ) → 1 + i ≡ suc i
up i = omega (arith)

abbrev next : Option ℕ → Option ℕ
next o = option_map (λ i. 1 + i) o

no_next : (o : Option ℕ) → next o ≡ None → o ≡ None
no_next None h = refl
no_next (Some i) h = absurd (no_some (1 + i) (sym h))

next_is : (o : Option ℕ) (i : ℕ) → next o ≡ Some i → (j : ℕ) × (o ≡ Some j) × (i ≡ suc j)
next_is None i h = absurd (no_some i h)
next_is (Some j) i h = (j, refl, sym (inner (1 + j) i h) ∙ up j)

not_found : (b : Bool) (o : Option ℕ) → cond b (Some 0) (next o) ≡ None → (b ≡ false) × (o ≡ None)
not_found true o h = absurd (no_some 0 (sym h))
not_found false o h = (refl, no_next o h)

abbrev IsPlaced : List Entry → List ℕ → ℕ → Entry → Type 0
IsPlaced es x i r = (i < length es) × (symbol_at (entries_in es) x ≡ Some (get_or es i r).1)

placed_by : (b : Bool) (e r : Entry) (es : List Entry) (x : List ℕ) (i : ℕ)
    → cond b (Some 0) (next (place_in (entries_in es) x)) ≡ Some i
    → ((j : ℕ) → place_in (entries_in es) x ≡ Some j → IsPlaced es x j r)
    → (i < length (e ∷ es))
    × (cond b (Some e.1) (symbol_at (entries_in es) x) ≡ Some (get_or (e ∷ es) i r).1)
placed_by true e r es x i h rest =
    subst (λ k. (k < length (e ∷ es)) × (Some e.1 ≡ Some (get_or (e ∷ es) k r).1)) (inner 0 i h)
    (omega (arith), refl)
placed_by false e r es x i h rest =
    let later = next_is (place_in (entries_in es) x) i h in
    let there = rest later.0 later.1 in
    subst (λ k. (k < length (e ∷ es)) × (symbol_at (entries_in es) x ≡ Some (get_or (e ∷ es) k r).1))
    (sym later.2) (omega (arith, there.0), there.1)

-- a name's symbol is in its place
pub placed : (es : List Entry) (x : List ℕ) (i : ℕ) (r : Entry) → place_in (entries_in es) x ≡ Some i
    → IsPlaced es x i r
placed [] x i r h = absurd (no_some i h)
placed (e ∷ es) x i r h =
    placed_by (bytes_eq x (string_bytes e.0)) e r es x i h (λ j. placed es x j r)

pub place_within : (es : List Entry) (x : List ℕ) (i : ℕ) → place_in (entries_in es) x ≡ Some i
    → i < length es
place_within [] x i h = absurd (no_some i h)
place_within (e ∷ es) x i h = (placed (e ∷ es) x i e h).0

-- a name without a place has no symbol
pub unplaced : (es : Table) (x : List ℕ) → place_in es x ≡ None → symbol_at es x ≡ None
unplaced [] x h = refl
unplaced (e ∷ es) x h =
    let missing = not_found (bytes_eq x e.0) (place_in es x) h in
    ap (λ b. cond b (Some e.1) (symbol_at es x)) missing.0 ∙ unplaced es x missing.1

-- a new name goes last
pub new_symbol : (es : Table) (x : List ℕ) (d : Symbol) → place_in es x ≡ None
    → with_symbol es x d ≡ es ++ (x, d) ∷ []
new_symbol [] x d h = refl
new_symbol (e ∷ es) x d h =
    let missing = not_found (bytes_eq x e.0) (place_in es x) h in
    ap (λ b. cond b ((e.0, d) ∷ es) (e ∷ with_symbol es x d)) missing.0
    ∙ ap (λ (t : Table). e ∷ t) (new_symbol es x d missing.1)

new_place_by : (a b : Bool) (n : ℕ) (o : Option ℕ) → (a ≡ true → b ≡ true → ⊥)
    → cond a (Some 0) (next (cond b (Some n) o)) ≡ cond b (Some (suc n)) (cond a (Some 0) (next o))
new_place_by true true n o h = absurd (h refl refl)
new_place_by true false n o h = refl
new_place_by false true n o h = ap (λ (k : ℕ). Some k) (up n)
new_place_by false false n o h = refl

-- then its place is the last, and the others stay
pub new_place : (es : Table) (x y : List ℕ) (d : Symbol) → place_in es x ≡ None
    → place_in (es ++ (x, d) ∷ []) y ≡ cond (bytes_eq x y) (Some (length es)) (place_in es y)
new_place [] x y d h = ap (λ b. cond b (Some 0) None) (eq_swap y x)
new_place (e ∷ es) x y d h =
    let missing = not_found (bytes_eq x e.0) (place_in es x) h in
    ap (λ o. cond (bytes_eq y e.0) (Some 0) (next o)) (new_place es x y d missing.1)
    ∙ new_place_by (bytes_eq y e.0) (bytes_eq x y) (length es) (place_in es y) (apart missing.0)
  where
    apart : bytes_eq x e.0 ≡ false → bytes_eq y e.0 ≡ true → bytes_eq x y ≡ true → ⊥
    apart other here same =
        false≢true (sym other ∙ (bytes_eq-Decides x e.0).1
        ((bytes_eq-Decides x y).0 same ∙ (bytes_eq-Decides y e.0).0 here))

-- the same in memory: a name is added to the entries with this text, and to the places with this index
pub added_place : (es more : List Entry) (text : String Global) (x y : List ℕ) (d : Symbol) (i : ℕ)
    (was is : Option ℕ)
    → place_in (entries_in es) x ≡ None → string_bytes text ≡ x → more ≡ es ++ (text, d) ∷ []
    → i ≡ length es → was ≡ place_in (entries_in es) y → is ≡ cond (bytes_eq x y) (Some i) was
    → is ≡ place_in (entries_in more) y
added_place es more text x y d i was is new named more_is last was_is h =
    h ∙ ap (cond (bytes_eq x y) (Some i)) was_is
    ∙ ap (λ n. cond (bytes_eq x y) (Some n) (place_in (entries_in es) y))
    (last ∙ sym (length-map es (λ (e : Entry). (string_bytes e.0, e.1))))
    ∙ sym (new_place (entries_in es) x y d new)
    ∙ ap (λ n. place_in (entries_in es ++ (n, d) ∷ []) y) (sym named)
    ∙ ap (λ (t : Table). place_in t y)
    (sym (map-append (λ (e : Entry). (string_bytes e.0, e.1)) es ((text, d) ∷ [])))
    ∙ ap (λ (l : List Entry). place_in (entries_in l) y) (sym more_is)

-- a symbol is replaced where its name is
replaced_by : (b : Bool) (e r : Entry) (es : List Entry) (x : List ℕ) (i : ℕ) (d : Symbol)
    → cond b (Some 0) (next (place_in (entries_in es) x)) ≡ Some i
    → ((j : ℕ) → place_in (entries_in es) x ≡ Some j
    → entries_in (set es j ((get_or es j r).0, d)) ≡ with_symbol (entries_in es) x d)
    → entries_in (set (e ∷ es) i ((get_or (e ∷ es) i r).0, d))
    ≡ cond b ((string_bytes e.0, d) ∷ entries_in es)
    ((string_bytes e.0, e.1) ∷ with_symbol (entries_in es) x d)
replaced_by true e r es x i d h rest =
    subst (λ k. entries_in (set (e ∷ es) k ((get_or (e ∷ es) k r).0, d))
    ≡ (string_bytes e.0, d) ∷ entries_in es) (inner 0 i h) refl
replaced_by false e r es x i d h rest =
    let later = next_is (place_in (entries_in es) x) i h in
    subst (λ k. entries_in (set (e ∷ es) k ((get_or (e ∷ es) k r).0, d))
    ≡ (string_bytes e.0, e.1) ∷ with_symbol (entries_in es) x d) (sym later.2)
    (ap (λ (t : Table). (string_bytes e.0, e.1) ∷ t) (rest later.0 later.1))

replaced : (es : List Entry) (x : List ℕ) (i : ℕ) (d : Symbol) (r : Entry)
    → place_in (entries_in es) x ≡ Some i
    → entries_in (set es i ((get_or es i r).0, d)) ≡ with_symbol (entries_in es) x d
replaced [] x i d r h = absurd (no_some i h)
replaced (e ∷ es) x i d r h =
    replaced_by (bytes_eq x (string_bytes e.0)) e r es x i d h (λ j. replaced es x j d r)

pub replaced_at : (es : List Entry) (x : List ℕ) (i : ℕ) (d : Symbol) (r : Entry)
    → place_in (entries_in es) x ≡ Some i → r ≡ get_or es i r
    → entries_in (set es i (r.0, d)) ≡ with_symbol (entries_in es) x d
replaced_at es x i d r h is =
    ap (λ (e : Entry). entries_in (set es i (e.0, d))) is ∙ replaced es x i d r h

same_place_by : (b : Bool) (e : List ℕ × Symbol) (es : Table) (x y : List ℕ) (d : Symbol) (i : ℕ)
    → cond b (Some 0) (next (place_in es x)) ≡ Some i
    → ((j : ℕ) → place_in es x ≡ Some j → place_in (with_symbol es x d) y ≡ place_in es y)
    → place_in (cond b ((e.0, d) ∷ es) (e ∷ with_symbol es x d)) y ≡ place_in (e ∷ es) y
same_place_by true e es x y d i h rest = refl
same_place_by false e es x y d i h rest =
    let later = next_is (place_in es x) i h in
    ap (λ o. cond (bytes_eq y e.0) (Some 0) (next o)) (rest later.0 later.1)

-- then all names stay where they are
pub same_place : (es : Table) (x y : List ℕ) (d : Symbol) (i : ℕ) → place_in es x ≡ Some i
    → place_in (with_symbol es x d) y ≡ place_in es y
same_place [] x y d i h = absurd (no_some i h)
same_place (e ∷ es) x y d i h =
    same_place_by (bytes_eq x e.0) e es x y d i h (λ j. same_place es x y d j)
