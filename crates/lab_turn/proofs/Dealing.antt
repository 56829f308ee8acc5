-- The passes of a new turnstile.
use Rattle.std.proofs.Common.{◌≡◌, ℕ, zero, suc, ◌+◌, ◌<◌, ◌≤◌, ⊎_elim, List, [], ◌∷◌, ◌++◌, length, Some}
use Rattle.std.proofs.Common.{Option, refl, ap, sym, ◌∙◌, subst, arith, length-append}
use Rattle.std.specs.List.{slice_get}
use Rattle.atomic_table.specs.Seated.{TableId}
use Rattle.atomic_table.specs.Table.{Me}
use Rattle.lab_turn.specs.declared.view.View.{View}
use Rattle.lab_turn.specs.History.{TurnstileState, PassState, FreshFrom, fresh_pass}
use Rattle.lab_turn.specs.Turns.{maker_at, maker_after, new_pass, pass_of, IsIdle}
use Rattle.lab_turn.proofs.HistoryLemmas.{le_or_lt}

module _ {A : Type 0} where
  get_front : (xs : List A) (y : A) (k : ℕ) → k < length xs → slice_get (xs ++ y ∷ []) k ≡ slice_get xs k
  get_front [] y k lt = absurd (omega arith)
  get_front (x ∷ xs) y zero lt = refl
  get_front (x ∷ xs) y (suc k) lt = get_front xs y k (omega arith)

  get_back : (xs : List A) (y : A) → slice_get (xs ++ y ∷ []) (length xs) ≡ Some y
  get_back [] y = refl
  get_back (x ∷ xs) y = get_back xs y

module _ {C : Type 0} (turnstile : TurnstileState) where
  -- the next pass comes behind those that were made
  pub fresh_push : (first : ℕ) (ps qs : List (PassState C)) (p : PassState C) → FreshFrom first turnstile ps
      → qs ≡ ps ++ p ∷ [] → p ≡ fresh_pass turnstile (first + length ps) → FreshFrom first turnstile qs
  fresh_push first ps qs p fresh grown is = subst (FreshFrom first turnstile) (sym grown) (λ k lt. ⊎_elim
      (λ (le : length ps ≤ k).
      let same : k ≡ length ps = omega (arith, length-append ps (p ∷ [])) in
      subst (λ n. slice_get (ps ++ p ∷ []) n ≡ Some (fresh_pass turnstile (first + n))) (sym same)
      (get_back ps p ∙ ap Some is))
      (λ (below : k < length ps). get_front ps p k below ∙ fresh k below)
      (le_or_lt (length ps) k))

  -- the first pass comes in front
  pub fresh_first : (ps : List (PassState C)) (p : PassState C) → FreshFrom 1 turnstile ps
      → p ≡ fresh_pass turnstile 0 → FreshFrom 0 turnstile (p ∷ ps)
  fresh_first ps p fresh is zero lt = ap Some is
  fresh_first ps p fresh is (suc k) lt =
      let next : 1 + k ≡ 0 + suc k = omega arith in
      subst (λ n. slice_get ps k ≡ Some (fresh_pass turnstile n)) next (fresh k (omega arith))

module _ {J C : Type 0} (table : TableId) (seats limit : ℕ) where
  -- the pass that the maker makes as the n-th
  pub dealt : (table' : TableId) (n : ℕ) (m m' : Me (Option J) (View C)) → table' ≡ table
      → m ≡ (maker_at seats limit n, []) → m' ≡ (new_pass m.0, [])
      → pass_of table' m'.0 ≡ fresh_pass record { table = table; seats = seats; limit = limit } n
  dealt table' n m m' same made new =
      ap (λ t. pass_of t m'.0) same ∙ (ap (λ (m : Me (Option J) (View C)). pass_of table m.0) new
      ∙ ap (λ (m : Me (Option J) (View C)). pass_of table (new_pass m.0)) made)

  pub dealt_idle : (n : ℕ) (m m' : Me (Option J) (View C)) → m ≡ (maker_at seats limit n, [])
      → m' ≡ (new_pass m.0, []) → (n ≡ m'.0.seat) × IsIdle m'
  dealt_idle n m m' made new =
      let is : m' ≡ (new_pass (maker_at seats limit n), []) =
      new ∙ ap (λ (m : Me (Option J) (View C)). (new_pass m.0, [])) made in
      subst (λ (m : Me (Option J) (View C)). (n ≡ m.0.seat) × IsIdle m) (sym is)
      (refl, record { ticket = refl; found = refl; spent = refl; alone = refl; bare = refl })

  pub maker_step : (n : ℕ) (m m' : Me (Option J) (View C)) → m ≡ (maker_at seats limit n, [])
      → m' ≡ (maker_after m.0, m.1) → m' ≡ (maker_at seats limit (n + 1), [])
  maker_step n m m' made is = is ∙ ap (λ (m : Me (Option J) (View C)). (maker_after m.0, m.1)) made

  -- the maker is a pass too
  pub maker_pass : (table' : TableId) (n : ℕ) (m : Me (Option J) (View C)) → table' ≡ table
      → m ≡ (maker_at seats limit n, [])
      → pass_of table' m.0 ≡ fresh_pass record { table = table; seats = seats; limit = limit } 0
  maker_pass table' n m same made =
      ap (λ t. pass_of t m.0) same ∙ ap (λ (m : Me (Option J) (View C)). pass_of table m.0) made

  pub maker_idle : (n : ℕ) (m : Me (Option J) (View C)) → m ≡ (maker_at seats limit n, [])
      → (0 ≡ m.0.seat) × IsIdle m
  maker_idle n m made =
      subst (λ (m : Me (Option J) (View C)). (0 ≡ m.0.seat) × IsIdle m) (sym made)
      (refl, record { ticket = refl; found = refl; spent = refl; alone = refl; bare = refl })
