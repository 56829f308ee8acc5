-- What setting a source's lines does at the place of its list.
use Rattle.std.proofs.Common.{◌≡◌, ℕ, ◌<◌, ◌==◌, List, [], ◌∷◌, ◌++◌, Some, None, refl, sym, ap, ◌∙◌, arith}
use Rattle.std.proofs.Common.{length, zero, suc, take, drop, slice_set, inl, inr, not, append_assoc}
use Rattle.std.proofs.Common.{append-nil}
use Rattle.std.specs.List.{position, position_or_len, remove}
use Rattle.std.proofs.lemmas.Bool.{cases_Bool, cases_lt, lt-ltb, le-ltb}
use Rattle.std.proofs.lemmas.List.{set_split}
use Rattle.std.proofs.lemmas.List.Sums.{prefix_len-le-length}
use Rattle.lab_image.specs.declared.lists.BreakpointList.{BreakpointList}
use Rattle.lab_image.specs.Breakpoints.{list_of, with_lines}

abbrev place_in : ℕ → List BreakpointList → ℕ
place_in source lists = position_or_len (λ l. l.source == source) lists

at_place : (source : ℕ) (lines : List ℕ) (lists : List BreakpointList) (place : ℕ)
    → place ≡ place_in source lists → place < length lists
    → with_lines source lines lists ≡ take place lists ++ list_of source lines ++ drop (suc place) lists
at_place source lines [] place e h = absurd (omega arith)
at_place source lines (l ∷ ls) zero e h = elim (cases_Bool (l.source == source)) [
  | inl same ↦ rw same refl
  | inr other ↦ absurd (let f = rw other at e in omega arith)
]
at_place source lines (l ∷ ls) (suc k) e h = elim (cases_Bool (l.source == source)) [
  | inl same ↦ absurd (let f = rw same at e in omega arith)
  | inr other ↦ (let f = rw other at e in
      let later : k ≡ place_in source ls = omega arith in
      rw other (ap (λ xs. l ∷ xs) (at_place source lines ls k later (omega arith))))
]

no_place : (source : ℕ) (lines : List ℕ) (lists : List BreakpointList) → place_in source lists ≡ length lists
    → with_lines source lines lists ≡ lists ++ list_of source lines
no_place source lines [] e = refl
no_place source lines (l ∷ ls) e = elim (cases_Bool (l.source == source)) [
  | inl same ↦ absurd (let f = rw same at e in omega arith)
  | inr other ↦ (let f = rw other at e in
      rw other (ap (λ xs. l ∷ xs) (no_place source lines ls (omega arith))))
]

found : (source place : ℕ) (lists : List BreakpointList)
    → Some place ≡ position (λ l. l.source == source) lists
    → (place ≡ place_in source lists) × (place < length lists)
found source place lists e = elim (cases_lt (place_in source lists) (length lists)) [
  | inl less ↦ (let is = rw (lt-ltb (place_in source lists) (length lists) less) at e in
      let same : place ≡ place_in source lists = cc in (same, omega arith))
  | inr more ↦ absurd (let is = rw (le-ltb (place_in source lists) (length lists) more) at e in cc)
]

missing : (source : ℕ) (lists : List BreakpointList) → None ≡ position (λ l. l.source == source) lists
    → place_in source lists ≡ length lists
missing source lists e = elim (cases_lt (place_in source lists) (length lists)) [
  | inl less ↦ absurd (let is = rw (lt-ltb (place_in source lists) (length lists) less) at e in cc)
  | inr more ↦ omega (arith, prefix_len-le-length (λ (l : BreakpointList). not (l.source == source)) lists)
]

list_of_some : (source : ℕ) (lines : List ℕ) → 0 < length lines
    → list_of source lines ≡ record { source = source; lines = lines } ∷ []
list_of_some source [] h = absurd (omega arith)
list_of_some source (line ∷ lines) h = refl

list_of_none : (source : ℕ) (lines : List ℕ) → length lines ≡ 0 → list_of source lines ≡ []
list_of_none source [] h = refl
list_of_none source (line ∷ lines) h = absurd (omega arith)

-- no lines: the list goes, if there is one
pub lines_gone : (source place : ℕ) (lines : List ℕ) (lists : List BreakpointList) → length lines ≡ 0
    → Some place ≡ position (λ l. l.source == source) lists
    → remove lists place ≡ with_lines source lines lists
lines_gone source place lines lists none e =
    let at = found source place lists e in
    sym (at_place source lines lists place at.0 at.1
    ∙ rw (list_of_none source lines none, append-nil (take place lists)) refl)

pub lines_absent : (source : ℕ) (lines : List ℕ) (lists : List BreakpointList) → length lines ≡ 0
    → None ≡ position (λ l. l.source == source) lists → lists ≡ with_lines source lines lists
lines_absent source lines lists none e =
    sym (no_place source lines lists (missing source lists e)
    ∙ rw (list_of_none source lines none, append-nil lists) refl)

-- lines: the list keeps its place, or goes last
pub lines_kept : (source place : ℕ) (lines : List ℕ) (lists : List BreakpointList) → 0 < length lines
    → Some place ≡ position (λ l. l.source == source) lists
    → slice_set lists place (record { source = source; lines = lines }) ≡ with_lines source lines lists
lines_kept source place lines lists some e =
    let at = found source place lists e in
    let kept : BreakpointList = record { source = source; lines = lines } in
    sym (at_place source lines lists place at.0 at.1
    ∙ rw (list_of_some source lines some, append_assoc) (sym (set_split lists place kept at.1)))

pub lines_new : (source : ℕ) (lines : List ℕ) (lists : List BreakpointList) → 0 < length lines
    → None ≡ position (λ l. l.source == source) lists
    → lists ++ record { source = source; lines = lines } ∷ [] ≡ with_lines source lines lists
lines_new source lines lists some e =
    sym (no_place source lines lists (missing source lists e) ∙ rw (list_of_some source lines some) refl)
