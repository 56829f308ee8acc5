-- The lines of a text that is written line by line.
use Rattle.std.proofs.Common.{◌≡◌, ℕ, zero, suc, ◌-◌, ◌<◌, List, [], ◌∷◌, ◌++◌, Bool, true, false, cond}
use Rattle.std.proofs.Common.{length, refl, ap, ◌∙◌, arith, eqb, append_assoc}
use Rattle.std.specs.Prelude.{codes, nat_lt, slice_index}
use Rattle.std.specs.List.{list_all, slice_split, onto_first}
use Rattle.std.specs.Str.Lines.{lines, lines_of_parts, strip_carriage_return}
use Rattle.std.proofs.lemmas.Bool.{and_parts, ltb-true, ne_eqb}

above_ends : (c : ℕ) → nat_lt 13 c ≡ true → eqb c 10 ≡ false
above_ends c h = let lt : 13 < c = ltb-true 13 c h in ne_eqb c 10 (λ e. absurd (omega (arith, lt, e)))

above_return : (c : ℕ) → nat_lt 13 c ≡ true → eqb c 13 ≡ false
above_return c h = let lt : 13 < c = ltb-true 13 c h in ne_eqb c 13 (λ e. absurd (omega (arith, lt, e)))

parts_first : (t rest : List ℕ) → list_all (nat_lt 13) t ≡ true
    → slice_split (λ b. eqb b 10) (t ++ 10 ∷ rest) ≡ t ∷ slice_split (λ b. eqb b 10) rest
parts_first [] rest h = refl
parts_first (c ∷ t) rest h =
    let p = and_parts (nat_lt 13 c) (list_all (nat_lt 13) t) h in
    rw (above_ends c p.0, parts_first t rest p.1) refl

abbrev Some_parts : List (List ℕ) → Type 0
Some_parts ps = (y : List ℕ) × (more : List (List ℕ)) × (ps ≡ y ∷ more)

parts_some_by : (b : Bool) (x : ℕ) (ps : List (List ℕ)) → Some_parts ps
    → Some_parts (cond b ([] ∷ ps) (onto_first x ps))
parts_some_by true x ps h = ([], ps, refl)
parts_some_by false x ps (y, more, is) = (x ∷ y, more, ap (onto_first x) is)

parts_some : (rest : List ℕ) → Some_parts (slice_split (λ b. eqb b 10) rest)
parts_some [] = ([], [], refl)
parts_some (x ∷ rest) = parts_some_by (eqb x 10) x (slice_split (λ b. eqb b 10) rest) (parts_some rest)

no_return : (t : List ℕ) (i : ℕ) → list_all (nat_lt 13) t ≡ true → eqb (slice_index t i) 13 ≡ false
no_return [] i h = refl
no_return (c ∷ t) zero h = let p = and_parts (nat_lt 13 c) (list_all (nat_lt 13) t) h in above_return c p.0
no_return (c ∷ t) (suc i) h = let p = and_parts (nat_lt 13 c) (list_all (nat_lt 13) t) h in no_return t i p.1

strips_nothing : (t : List ℕ) → list_all (nat_lt 13) t ≡ true → strip_carriage_return t ≡ t
strips_nothing t h = rw (no_return t (length t - 1) h) refl

first_part : (t : List ℕ) (ps : List (List ℕ)) → Some_parts ps
    → lines_of_parts (t ∷ ps) ≡ strip_carriage_return t ∷ lines_of_parts ps
first_part t ps (y, more, is) = rw is refl

pub first_line : (t rest : List ℕ) → list_all (nat_lt 13) t ≡ true
    → lines ((t ++ codes "\n") ++ rest) ≡ t ∷ lines rest
first_line t rest h =
    let parts = parts_some rest in
    let front : (t ++ codes "\n") ++ rest ≡ t ++ 10 ∷ rest = append_assoc t (codes "\n") rest in
    ap lines front ∙ ap lines_of_parts (parts_first t rest h)
    ∙ first_part t (slice_split (λ b. eqb b 10) rest) parts
    ∙ ap (λ (s : List ℕ). s ∷ lines rest) (strips_nothing t h)
