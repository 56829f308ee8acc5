-- The climb finds the tree that lexemes spell, if it is at most 64 deep.
use Rattle.std.proofs.Common.{◌≡◌, ℕ, zero, suc, ◌+◌, ◌-◌, ◌<◌, ◌≤◌, ◌⊎◌, inl, inr, List, [], ◌∷◌, ◌++◌, true}
use Rattle.std.proofs.Common.{false, Option, Some, None, Ok, Err, max, refl, ◌∙◌, arith, append_assoc}
use Rattle.std.proofs.Common.{append-nil}
use Rattle.std.specs.Prelude.{nat_lt, nat_le}
use Rattle.std.proofs.lemmas.Bool.Decides.{nat_tests}
use Rattle.asm_expr.specs.Tree as tree
use Rattle.asm_expr.specs.Tree.{Tree, Prefix, Infix, Parens, depth_of}
use Rattle.asm_expr.specs.declared.expression.Unary.{Unary}
use Rattle.asm_expr.specs.declared.expression.Binary.{Binary}
use Rattle.asm_syntax.specs.declared.fault.FaultKind.TheVariants as kind
use Rattle.asm_syntax.specs.Lexemes.{Lexeme, Sign}
use Rattle.asm_lex.specs.Operators.{prefix_strength, infix_strength, prefix_of, infix_of}
use Rattle.asm_lex.specs.Reading.{Spells, weakest_left, weakest_right, IsProper}
use Rattle.asm_lex.specs.Climb.{tree_or_nesting, after_parenthesis, infix_at, operand_at, chain, expr_at}
use Rattle.asm_lex.proofs.Climbs.{chain_stops, chain_right_faults, chain_made_faults, chain_goes_on}

-- the strength of the operator between operands at the front, 0 if there is none
abbrev pub strength_of : Option Binary → ℕ
strength_of None = 0
strength_of (Some op) = infix_strength op

abbrev pub front_strength : List Lexeme → ℕ
front_strength [] = 0
front_strength (l ∷ ls) = strength_of (infix_of l)

pub infix_none : (level : ℕ) (ls : List Lexeme) → front_strength ls < level → infix_at level ls ≡ None
infix_none level [] h = refl
infix_none level (l ∷ ls) h = by (infix_of l) refl
  where
    by : (o : Option Binary) → infix_of l ≡ o → infix_at level (l ∷ ls) ≡ None
    by None e = rw e refl
    by (Some op) e =
        let h' : infix_strength op < level = rw e at h in
        let weak : nat_lt (infix_strength op) level ≡ true = grind (arith, nat_tests) in
        rw (e, weak) refl

pub infix_some : (level : ℕ) (l : Lexeme) (ls : List Lexeme) (op : Binary) → infix_of l ≡ Some op
    → level ≤ infix_strength op
    → infix_at level (l ∷ ls) ≡ Some (op, ls)
infix_some level l ls op e h =
    let strong_enough : nat_lt (infix_strength op) level ≡ false = grind (arith, nat_tests) in
    rw (e, strong_enough) refl

pub depth_some : (t : Tree) → 0 < depth_of t
depth_some (tree.Number n) = omega arith
depth_some tree.Here = omega arith
depth_some (tree.Named x) = omega arith
depth_some (Prefix op a) = omega arith
depth_some (Infix op a b) = omega arith
depth_some (Parens a) = omega arith

made_fits : (first : ℕ) (t : Tree) → depth_of t ≤ 64 → tree_or_nesting first t ≡ Ok t
unfolding tree_or_nesting
made_fits first t h = let fits : nat_le (depth_of t) 64 ≡ true = grind (arith, nat_tests) in rw fits refl

made_faults : (first : ℕ) (t : Tree) → 64 < depth_of t → tree_or_nesting first t ≡ Err (first, kind.Nesting)
unfolding tree_or_nesting
made_faults first t h = let deep : nat_le (depth_of t) 64 ≡ false = grind (arith, nat_tests) in rw deep refl

fits_or_not : (d : ℕ) → (d ≤ 64) ⊎ (64 < d)
fits_or_not d = search arith

-- the tree at the front of `all` comes to be the left operand of what is after it, or is too deep
abbrev Begins : ℕ → ℕ → ℕ → Tree → List Lexeme → List Lexeme → Type 0
Begins first n level t all rest =
    ((count : ℕ) × (66 ≤ count + depth_of t) × (depth_of t ≤ 64)
    × (expr_at first (suc n) level all ≡ chain first (expr_at first n) count level t rest))
    ⊎ ((suc n < depth_of t) × (expr_at first (suc n) level all ≡ Err (first, kind.Nesting)))

-- the tree at the front of `all` is read up to `rest`, or is too deep
abbrev pub Found_whole : ℕ → ℕ → ℕ → Tree → List Lexeme → List Lexeme → Type 0
Found_whole first n level t all rest =
    ((depth_of t ≤ 64) × (expr_at first n level all ≡ Ok (t, rest)))
    ⊎ ((n < depth_of t) × (expr_at first n level all ≡ Err (first, kind.Nesting)))

whole : (first n level : ℕ) (t : Tree) (all rest : List Lexeme)
    → ((m : ℕ) → n ≡ suc m → Begins first m level t all rest)
    → infix_at level rest ≡ None → Found_whole first n level t all rest
unfolding expr_at
whole first zero level t all rest begins stops = inr (depth_some t, refl)
whole first (suc m) level t all rest begins stops = by (begins m refl)
  where
    by : Begins first m level t all rest → Found_whole first (suc m) level t all rest
    by (inr x) = inr x
    by (inl x) = inl (x.2, x.3 ∙ chain_stops first (expr_at first m) x.0 level t rest (omega arith) stops)

prefix_case : (first n level : ℕ) (op : Unary) (a : Tree) (l : Lexeme) (ls rest : List Lexeme) → suc n ≤ 64
    → prefix_of l ≡ Some op
    → Found_whole first n (prefix_strength op + 1) a ls rest
    → Begins first n level (Prefix op a) (l ∷ ls) rest
unfolding expr_at operand_at
prefix_case first n level op a l ls rest small e (inr x) = inr (omega arith, rw (e, x.1) refl)
prefix_case first n level op a l ls rest small e (inl x) = by (fits_or_not (depth_of a + 1))
  where
    by : (depth_of a + 1 ≤ 64) ⊎ (64 < depth_of a + 1) → Begins first n level (Prefix op a) (l ∷ ls) rest
    by (inl h) = inl (65, omega arith, h, rw (e, x.1, made_fits first (Prefix op a) h) refl)
    by (inr h) = inr (omega arith, rw (e, x.1, made_faults first (Prefix op a) h) refl)

parens_case : (first n level : ℕ) (a : Tree) (ls rest : List Lexeme) → suc n ≤ 64
    → Found_whole first n 0 a ls (Sign 41 ∷ rest) → Begins first n level (Parens a) (Sign 40 ∷ ls) rest
unfolding expr_at operand_at after_parenthesis
parens_case first n level a ls rest small (inr x) = inr (omega arith, rw x.1 refl)
parens_case first n level a ls rest small (inl x) = by (fits_or_not (depth_of a + 1))
  where
    by : (depth_of a + 1 ≤ 64) ⊎ (64 < depth_of a + 1) → Begins first n level (Parens a) (Sign 40 ∷ ls) rest
    by (inl h) = inl (65, omega arith, h, rw (x.1, made_fits first (Parens a) h) refl)
    by (inr h) = inr (omega arith, rw (x.1, made_faults first (Parens a) h) refl)

infix_case : (first n level : ℕ) (op : Binary) (a b : Tree) (all : List Lexeme) (l : Lexeme)
    (ls rest : List Lexeme) → suc n ≤ 64 → infix_of l ≡ Some op
    → level ≤ infix_strength op → Begins first n level a all (l ∷ ls)
    → Found_whole first n (infix_strength op + 1) b ls rest
    → Begins first n level (Infix op a b) all rest
infix_case first n level op a b all l ls rest small e le (inr x) y = inr (omega arith, x.1)
infix_case first n level op a b all l ls rest small e le (inl x) (inr y) =
    inr (
      omega arith,
      x.3 ∙ chain_right_faults first (expr_at first n) x.0 level a (l ∷ ls) ls op _
          (omega arith) (infix_some level l ls op e le) y.1,
    )
infix_case first n level op a b all l ls rest small e le (inl x) (inl y) =
    by (fits_or_not (max (depth_of a) (depth_of b) + 1))
  where
    by : (max (depth_of a) (depth_of b) + 1 ≤ 64) ⊎ (64 < max (depth_of a) (depth_of b) + 1)
        → Begins first n level (Infix op a b) all rest
    by (inl h) =
        inl (
          x.0 - 1,
          omega arith,
          h,
          x.3
              ∙ chain_goes_on first (expr_at first n) x.0 level a b (Infix op a b) (l ∷ ls) ls rest op
              (omega arith) (infix_some level l ls op e le) y.1 (made_fits first (Infix op a b) h),
        )
    by (inr h) =
        inr (
          omega arith,
          x.3 ∙ chain_made_faults first (expr_at first n) x.0 level a b (l ∷ ls) ls rest op _
              (omega arith) (infix_some level l ls op e le) y.1 (made_faults first (Infix op a b) h),
        )

pub begins : (t : Tree) (first n level : ℕ) (ls rest : List Lexeme) → suc n ≤ 64 → IsProper t → Spells t ls
    → level ≤ weakest_left t → front_strength rest ≤ weakest_right t
    → Begins first n level t (ls ++ rest) rest
unfolding expr_at operand_at
begins (tree.Number k) first n level ls rest small p s left right =
    inl (65, omega arith, omega arith, rw s refl)
begins tree.Here first n level ls rest small p s left right = inl (65, omega arith, omega arith, rw s refl)
begins (tree.Named x) first n level ls rest small p s left right =
    inl (65, omega arith, omega arith, rw s refl)
begins (Prefix op a) first n level ls rest small p s left right =
    rw s.2 (prefix_case first n level op a s.0 (s.1 ++ rest) rest small s.3
    (whole first n (prefix_strength op + 1) a (s.1 ++ rest) rest
    (λ m e. begins a first m (prefix_strength op + 1) s.1 rest (omega arith) p.1 s.4 (omega arith)
    (omega arith))
    (infix_none (prefix_strength op + 1) rest (omega arith))))
begins (Infix op a b) first n level ls rest small p s left right =
    rw (s.3, append_assoc) (infix_case first n level op a b (s.0 ++ (s.1 ∷ (s.2 ++ rest))) s.1 (s.2 ++ rest)
    rest small s.4 (omega arith)
    (begins a first n level s.0 (s.1 ∷ (s.2 ++ rest)) small p.2 s.5 (omega arith) (rw s.4 p.0))
    (whole first n (infix_strength op + 1) b (s.2 ++ rest) rest
    (λ m e. begins b first m (infix_strength op + 1) s.2 rest (omega arith) p.3 s.6 (omega arith)
    (omega arith))
    (infix_none (infix_strength op + 1) rest (omega arith))))
begins (Parens a) first n level ls rest small p s left right =
    rw (s.1, append_assoc) (parens_case first n level a (s.0 ++ (Sign 41 ∷ rest)) rest small
    (whole first n 0 a (s.0 ++ (Sign 41 ∷ rest)) (Sign 41 ∷ rest)
    (λ m e. begins a first m 0 s.0 (Sign 41 ∷ rest) (omega arith) p s.2 (omega arith) (omega arith))
    refl))

pub found_whole : (t : Tree) (first : ℕ) (ls : List Lexeme) → IsProper t → Spells t ls
    → Found_whole first 64 0 t ls []
found_whole t first ls p s =
    let h : Found_whole first 64 0 t (ls ++ []) [] =
    whole first 64 0 t (ls ++ []) []
    (λ m e. begins t first m 0 ls [] (omega arith) p s (omega arith) (omega arith)) refl in
    rw append-nil at h
