-- A subscription is added to a connection, or removed: the index that a search finds is the definition's.
use Rattle.std.proofs.Common.{◌≡◌, ℕ, ◌<◌, List, [], ◌∷◌, Some, None, Bool, refl, ap, arith, length, zero}
use Rattle.std.proofs.Common.{suc, slice_set, slice_index_or, inl, inr, not}
use Rattle.std.specs.List.{position, position_or_len, remove}
use Rattle.std.specs.Str.{bytes_eq}
use Rattle.std.proofs.lemmas.Bool.{cases_Bool, cases_lt, lt-ltb, le-ltb}
use Rattle.std.proofs.lemmas.List.Sums.{prefix_len-le-length}
use Rattle.kern_peers.specs.declared.peer.Peer.{Peer}
use Rattle.kern_peers.specs.Connections.{is_number, changed_at, without_first}

-- ---- the index that a search finds

found : {X : Type 0} (p : X → Bool) (place : ℕ) (xs : List X) → Some place ≡ position p xs
    → (place ≡ position_or_len p xs) × (place < length xs)
found p place xs e = elim (cases_lt (position_or_len p xs) (length xs)) [
  | inl less ↦ (let is = rw (lt-ltb (position_or_len p xs) (length xs) less) at e in
      let same : place ≡ position_or_len p xs = cc in (same, omega arith))
  | inr more ↦ absurd (let is = rw (le-ltb (position_or_len p xs) (length xs) more) at e in cc)
]

missing : {X : Type 0} (p : X → Bool) (xs : List X) → None ≡ position p xs → position_or_len p xs ≡ length xs
missing p xs e = elim (cases_lt (position_or_len p xs) (length xs)) [
  | inl less ↦ absurd (let is = rw (lt-ltb (position_or_len p xs) (length xs) less) at e in cc)
  | inr more ↦ omega (arith, prefix_len-le-length (λ x. not (p x)) xs)
]

-- ---- a connection with other prefixes

abbrev Change : Type 0
Change = List (List ℕ) → List (List ℕ)

abbrev changed : Change → Peer → Peer
changed change p = record p { prefixes = change p.prefixes }

at_place : (n : ℕ) (change : Change) (peers : List Peer) (place : ℕ) (p : Peer)
    → place ≡ position_or_len (is_number n) peers → place < length peers
    → p ≡ slice_index_or peers place p
    → slice_set peers place (changed change p) ≡ changed_at n change peers
at_place n change [] place p e h is = absurd (omega arith)
at_place n change (q ∷ qs) zero p e h is = elim (cases_Bool (is_number n q)) [
  | inl same ↦ rw (same, is) refl
  | inr other ↦ absurd (let f = rw other at e in omega arith)
]
at_place n change (q ∷ qs) (suc k) p e h is = elim (cases_Bool (is_number n q)) [
  | inl same ↦ absurd (let f = rw same at e in omega arith)
  | inr other ↦ (let f = rw other at e in
      let later : k ≡ position_or_len (is_number n) qs = omega arith in
      rw other (ap (λ xs. q ∷ xs) (at_place n change qs k p later (omega arith) is)))
]

pub changed_there : (n : ℕ) (change : Change) (peers : List Peer) (place : ℕ) (p : Peer)
    → Some place ≡ position (is_number n) peers → p ≡ slice_index_or peers place p
    → slice_set peers place (changed change p) ≡ changed_at n change peers
changed_there n change peers place p e is =
    let at = found (is_number n) place peers e in at_place n change peers place p at.0 at.1 is

nowhere : (n : ℕ) (change : Change) (peers : List Peer)
    → position_or_len (is_number n) peers ≡ length peers → peers ≡ changed_at n change peers
nowhere n change [] e = refl
nowhere n change (q ∷ qs) e = elim (cases_Bool (is_number n q)) [
  | inl same ↦ absurd (let f = rw same at e in omega arith)
  | inr other ↦ (let f = rw other at e in rw other (ap (λ xs. q ∷ xs) (nowhere n change qs (omega arith))))
]

pub changed_nowhere : (n : ℕ) (change : Change) (peers : List Peer) → None ≡ position (is_number n) peers
    → peers ≡ changed_at n change peers
changed_nowhere n change peers e = nowhere n change peers (missing (is_number n) peers e)

-- ---- a removed prefix

abbrev is_prefix : List ℕ → List ℕ → Bool
is_prefix prefix p = bytes_eq p prefix

out_at : (prefix : List ℕ) (ps : List (List ℕ)) (place : ℕ)
    → place ≡ position_or_len (is_prefix prefix) ps → place < length ps
    → remove ps place ≡ without_first prefix ps
out_at prefix [] place e h = absurd (omega arith)
out_at prefix (p ∷ ps) zero e h = elim (cases_Bool (bytes_eq p prefix)) [
  | inl same ↦ rw same refl
  | inr other ↦ absurd (let f = rw other at e in omega arith)
]
out_at prefix (p ∷ ps) (suc k) e h = elim (cases_Bool (bytes_eq p prefix)) [
  | inl same ↦ absurd (let f = rw same at e in omega arith)
  | inr other ↦ (let f = rw other at e in
      let later : k ≡ position_or_len (is_prefix prefix) ps = omega arith in
      rw other (ap (λ xs. p ∷ xs) (out_at prefix ps k later (omega arith))))
]

pub removed_there : (prefix : List ℕ) (ps : List (List ℕ)) (place : ℕ)
    → Some place ≡ position (is_prefix prefix) ps → remove ps place ≡ without_first prefix ps
removed_there prefix ps place e =
    let at = found (is_prefix prefix) place ps e in out_at prefix ps place at.0 at.1

stays : (prefix : List ℕ) (ps : List (List ℕ))
    → position_or_len (is_prefix prefix) ps ≡ length ps → ps ≡ without_first prefix ps
stays prefix [] e = refl
stays prefix (p ∷ ps) e = elim (cases_Bool (bytes_eq p prefix)) [
  | inl same ↦ absurd (let f = rw same at e in omega arith)
  | inr other ↦ (let f = rw other at e in rw other (ap (λ xs. p ∷ xs) (stays prefix ps (omega arith))))
]

pub removed_nowhere : (prefix : List ℕ) (ps : List (List ℕ)) → None ≡ position (is_prefix prefix) ps
    → ps ≡ without_first prefix ps
removed_nowhere prefix ps e = stays prefix ps (missing (is_prefix prefix) ps e)
