-- Symbols and sets of names in memory are those that contracts see, by bytes.
use Rattle.std.proofs.Common.{◌≡◌, ℕ, suc, arith, slice_get, None, ◌+◌, ◌<◌, ◌≤◌, length, drop, get_or}
use Rattle.std.proofs.Common.{drop-cons, add-one, List, [], ◌∷◌, Bool, true, false, ◌||◌, Option, Some, cond}
use Rattle.std.proofs.Common.{map, refl, sym, ap, ◌∙◌}
use Rattle.std.specs.Prelude.{String, fold}
use Rattle.std.specs.Global.{Global}
use Rattle.std.specs.Str.{bytes_eq}
use Rattle.std.specs.String.{string_bytes}
use Rattle.std.specs.List.{list_any, AllZip}
use Rattle.std.specs.Map.{lookup}
use Rattle.std.proofs.lemmas.List.{drop_all}
use Rattle.std.proofs.lemmas.Option.{slice_get_within, get_or_from_slice_get, slice_get-get_or}
use denote.Bor.{Bor}
use Rattle.asm_build.specs.declared.symbols.Symbol.{Symbol}
use Rattle.asm_build.specs.Texts.{entries_in}
use Rattle.asm_build.specs.Layout.{is_among}
use Rattle.asm_build.specs.Meaning.{with_symbol}
use Rattle.asm_build.proofs.PlaceLemmas.{Entry, Table, eq_swap}

-- ---- sets

abbrev pub Text : Type 0
Text = Bor (List ℕ)

abbrev pub texts : List Text → List (List ℕ)
texts ks = map (λ (n : Text). n.now) ks

pub among_texts : (x : List ℕ) (ks : List Text) → list_any (λ k. bytes_eq x k.now) ks ≡ is_among x (texts ks)
among_texts x [] = refl
among_texts x (k ∷ ks) = ap (λ b. bytes_eq x k.now || b) (among_texts x ks)

or_new : (b c : Bool) → cond b true c ≡ ((b || false) || c)
or_new true c = refl
or_new false c = refl

pub among_inserted : (x v : List ℕ) (ks more : List Text)
    → list_any (λ (n : Text). bytes_eq x n.now) more
    ≡ cond (bytes_eq v x) true (list_any (λ (n : Text). bytes_eq x n.now) ks)
    → is_among x (texts more) ≡ (is_among x (v ∷ []) || is_among x (texts ks))
among_inserted x v ks more h =
    sym (among_texts x more) ∙ h
    ∙ ap (λ b. cond b true (list_any (λ (n : Text). bytes_eq x n.now) ks)) (eq_swap v x)
    ∙ or_new (bytes_eq x v) (list_any (λ (n : Text). bytes_eq x n.now) ks)
    ∙ ap (λ b. (bytes_eq x v || false) || b) (among_texts x ks)

-- ---- copies

abbrev IsCopy : Entry → Entry → Type 0
IsCopy e f = (string_bytes f.0 ≡ string_bytes e.0) × (f.1 ≡ e.1)

copy_entry : (e f : Entry) (es fs : List Entry) → string_bytes f.0 ≡ string_bytes e.0 → f.1 ≡ e.1
    → entries_in fs ≡ entries_in es → entries_in (f ∷ fs) ≡ entries_in (e ∷ es)
copy_entry e f es fs h k more =
    ap (λ (b : List ℕ). (b, f.1) ∷ entries_in fs) h
    ∙ ap (λ (d : Symbol). (string_bytes e.0, d) ∷ entries_in fs) k
    ∙ ap (λ (t : List (List ℕ × Symbol)). (string_bytes e.0, e.1) ∷ t) more

pub copied : (es fs : List Entry) → AllZip IsCopy es fs → entries_in fs ≡ entries_in es
copied [] [] h = refl
copied [] (f ∷ fs) h = absurd h
copied (e ∷ es) [] h = absurd h
copied (e ∷ es) (f ∷ fs) h = copy_entry e f es fs h.0.0 h.0.1 (copied es fs h.1)

abbrev Place : Type 0
Place = String Global × ℕ

abbrev IsPlaceCopy : Place → Place → Type 0
IsPlaceCopy p q = (string_bytes q.0 ≡ string_bytes p.0) × (q.1 ≡ p.1)

abbrev found_in : List ℕ → List Place → Option ℕ
found_in x ps = lookup (λ k. bytes_eq x (string_bytes k)) ps

pub copied_places : (ps qs : List Place) (x : List ℕ) → AllZip IsPlaceCopy ps qs
    → found_in x qs ≡ found_in x ps
copied_places [] [] x h = refl
copied_places [] (q ∷ qs) x h = absurd h
copied_places (p ∷ ps) [] x h = absurd h
copied_places (p ∷ ps) (q ∷ qs) x h =
    ap (λ k. cond (bytes_eq x k) (Some q.1) (found_in x qs)) h.0.0
    ∙ ap (λ i. cond (bytes_eq x (string_bytes p.0)) (Some i) (found_in x qs)) h.0.1
    ∙ ap (cond (bytes_eq x (string_bytes p.0)) (Some p.1)) (copied_places ps qs x h.1)

-- ---- definitions, one after the other

abbrev pub defines : Table → List ℕ × Symbol → Table
defines es e = with_symbol es e.0 e.1

drops : (es : Table) (i : ℕ) (e : List ℕ × Symbol) → slice_get es i ≡ Some e → drop i es ≡ e ∷ drop (i + 1) es
drops es i e h =
    drop-cons es i e (slice_get_within es i e h)
    ∙ ap (λ (f : List ℕ × Symbol). f ∷ drop (suc i) es) (get_or_from_slice_get es i e e h)
    ∙ ap (λ k. e ∷ drop k es) (sym (add-one i))

pub fold_goes : (es start total : Table) (i : ℕ) (e : List ℕ × Symbol) → slice_get es i ≡ Some e
    → fold defines start (drop i es) ≡ total
    → fold defines (with_symbol start e.0 e.1) (drop (i + 1) es) ≡ total
fold_goes es start total i e there h = ap (fold defines start) (sym (drops es i e there)) ∙ h

pub fold_ends : (es start total : Table) (i : ℕ) → length es ≤ i → fold defines start (drop i es) ≡ total
    → start ≡ total
fold_ends es start total i le h = ap (fold defines start) (sym (drop_all i es le)) ∙ h

pub some_there : (es : Table) (i : ℕ) → i < length es → None ≡ slice_get es i → ⊥
some_there [] i lt h = omega (arith, lt)
some_there (e ∷ es) i lt h =
    let there : slice_get (e ∷ es) i ≡ Some (get_or (e ∷ es) i e) = slice_get-get_or (e ∷ es) i e lt in cc
