-- What has the shape of an expression spells a proper tree.
use Rattle.std.proofs.Common.{◌≡◌, ℕ, zero, suc, ◌+◌, ◌<◌, ◌≤◌, List, [], ◌∷◌, ◌++◌, Bool, true, false}
use Rattle.std.proofs.Common.{length, Option, Some, None, refl, sym, ap, ◌∙◌, arith, append_assoc, append-nil}
use Rattle.std.proofs.Common.{subst}
use Rattle.std.specs.Prelude.{nat_lt, ◌==◌}
use Rattle.std.proofs.lemmas.Bool.{false≢true}
use Rattle.std.proofs.lemmas.Bool.Decides.{nat_tests}
use Rattle.asm_expr.specs.Tree as tree
use Rattle.asm_expr.specs.Tree.{Tree}
use Rattle.asm_expr.specs.declared.expression.Unary.{Unary}
use Rattle.asm_expr.specs.declared.expression.Binary.{Binary}
use Rattle.asm_syntax.specs.Lexemes.{Lexeme, Name, Keyword, Overlong, Number, Text, Sign}
use Rattle.asm_expr.specs.declared.expression.Unary.TheVariants as unary
use Rattle.asm_expr.specs.declared.expression.Binary.TheVariants as binary
use Rattle.asm_lex.specs.declared.shape.Place.{Place}
use Rattle.asm_lex.specs.declared.shape.Place.TheVariants.{BeforeOperand, AfterOperand}
use Rattle.asm_lex.specs.Operators.{prefix_strength, infix_strength, is_sign, prefix_of, infix_of, atom_in}
use Rattle.asm_lex.specs.Reading.{Spells, weakest_left, weakest_right, IsProper}
use Rattle.asm_lex.specs.Shape.{shape, next_place}
use Rattle.asm_lex.specs.Climb.{infix_at}
use Rattle.asm_laws.proofs.Shapes.{shape-prefix, shape-infix}
use Rattle.asm_laws.proofs.Trees.{front_strength, strength_of, infix_some}

-- a tree at the front, which no operator after it takes from, and the rest
record Front (opened level : ℕ) (ls : List Lexeme) : Type 0 where
  t : Tree
  front : List Lexeme
  rest : List Lexeme
  is : ls ≡ front ++ rest
  spells : Spells t front
  proper : IsProper t
  left : level ≤ weakest_left t
  right : front_strength rest ≤ weakest_right t
  goes_on : shape (Some (AfterOperand opened)) rest ≡ true
  shorter : length rest < length ls

-- and the operator after it, if there is one, is weaker than the level
record Reading (opened level : ℕ) (ls : List Lexeme) : Type 0 where
  found : Front opened level ls
  stops : infix_at level found.rest ≡ None

abbrev Reads_below : ℕ → Type 0
Reads_below k = (opened level : ℕ) (ls : List Lexeme) → length ls ≤ k → level ≤ 8
    → shape (Some (BeforeOperand opened)) ls ≡ true → Reading opened level ls

strength_small : (op : Binary) → infix_strength op ≤ 7
strength_small binary.Multiply = omega arith
strength_small _ = omega arith

prefix_small : (op : Unary) → prefix_strength op ≤ 7
prefix_small unary.Plus = omega arith
prefix_small _ = omega arith

front_small : (ls : List Lexeme) → front_strength ls ≤ 8
front_small [] = omega arith
front_small (l ∷ ls) = by (infix_of l)
  where
    by : (o : Option Binary) → strength_of o ≤ 8
    by None = omega arith
    by (Some op) = let h : infix_strength op ≤ 7 = strength_small op in omega arith

pair_or : Binary × List Lexeme → Option (Binary × List Lexeme) → Binary × List Lexeme
pair_or x None = x
pair_or x (Some y) = y

some_pair : (x y : Binary × List Lexeme) → Some x ≡ Some y → (x.0 ≡ y.0) × (x.1 ≡ y.1)
unfolding pair_or
some_pair x y h = (
  ap (λ (o : Option (Binary × List Lexeme)). (pair_or x o).0) h,
  ap (λ (o : Option (Binary × List Lexeme)). (pair_or x o).1) h,
)

-- the operator at the front, if it is as strong as the level
front_infix : (level : ℕ) (ls rest : List Lexeme) (op : Binary) → infix_at level ls ≡ Some (op, rest)
    → (l : Lexeme) × (ls ≡ l ∷ rest) × (infix_of l ≡ Some op) × (level ≤ infix_strength op)
front_infix level [] rest op h = cc
front_infix level (l ∷ ls) rest op h = by (infix_of l) refl
  where
    by : (o : Option Binary) → infix_of l ≡ o
        → (m : Lexeme) × (l ∷ ls ≡ m ∷ rest) × (infix_of m ≡ Some op) × (level ≤ infix_strength op)
    by None e = let h' = rw e at h in cc
    by (Some p) e = strong_by (nat_lt (infix_strength p) level) refl
      where
        strong_by : (b : Bool) → nat_lt (infix_strength p) level ≡ b
            → (m : Lexeme) × (l ∷ ls ≡ m ∷ rest) × (infix_of m ≡ Some op) × (level ≤ infix_strength op)
        strong_by true w = let h' = rw (e, w) at h in cc
        strong_by false w =
            let same = some_pair (p, ls) (op, rest) (rw (e, w) at h) in
            let le : level ≤ infix_strength p = grind (arith, nat_tests) in (
              l,
              ap (λ (r : List Lexeme). l ∷ r) same.1,
              e
                  ∙ ap (λ (o : Binary). Some o) same.0,
              rw same.0 at le,
            )

-- what stops below a level is weaker
stop_strength : (level : ℕ) (ls : List Lexeme) → infix_at (level + 1) ls ≡ None → front_strength ls ≤ level
stop_strength level [] h = omega arith
stop_strength level (l ∷ ls) h = by (infix_of l) refl
  where
    by : (o : Option Binary) → infix_of l ≡ o → strength_of (infix_of l) ≤ level
    by None e = rw e (omega arith)
    by (Some op) e = rw e (weak_by (nat_lt (infix_strength op) (level + 1)) refl)
      where
        weak_by : (b : Bool) → nat_lt (infix_strength op) (level + 1) ≡ b → infix_strength op ≤ level
        weak_by true w = grind (arith, nat_tests)
        weak_by false w = let h' = rw (e, w) at h in cc

is_sign-is : (character : ℕ) (l : Lexeme) → is_sign character l ≡ true → l ≡ Sign character
is_sign-is character (Sign s) h = ap (λ (x : ℕ). Sign x) (grind (arith, nat_tests))
is_sign-is character _ h = cc

-- an atom spells its tree
AtomReads : Lexeme → Option Tree → Type 0
AtomReads l None = Unit {0}
AtomReads l (Some t) = Spells t (l ∷ []) × IsProper t × (8 ≤ weakest_left t) × (8 ≤ weakest_right t)

atom_reads : (l : Lexeme) → AtomReads l (atom_in l)
unfolding AtomReads
atom_reads (Number n) = (refl, tt, omega arith, omega arith)
atom_reads (Name x) = (refl, tt, omega arith, omega arith)
atom_reads (Sign s) = by (s == 36) refl
  where
    by : (b : Bool) → (s == 36) ≡ b → AtomReads (Sign s) (atom_in (Sign s))
    by true e = let same : s ≡ 36 = grind (arith, nat_tests) in rw same (refl, tt, omega arith, omega arith)
    by false e = rw e tt
atom_reads (Keyword x) = tt
atom_reads Overlong = tt
atom_reads (Text x) = tt

some_none : (x : Binary × List Lexeme) → Some x ≡ None → ⊥
some_none x h = cc

-- ---- one step of the shape

atom_step : (opened : ℕ) (l : Lexeme) (ls : List Lexeme) → prefix_of l ≡ None → is_sign 40 l ≡ false
    → shape (Some (BeforeOperand opened)) (l ∷ ls) ≡ true
    → (t : Tree) × (atom_in l ≡ Some t) × (shape (Some (AfterOperand opened)) ls ≡ true)
unfolding shape
atom_step opened l ls p s h = by (atom_in l) refl
  where
    by : (o : Option Tree) → atom_in l ≡ o
        → (t : Tree) × (atom_in l ≡ Some t) × (shape (Some (AfterOperand opened)) ls ≡ true)
    by None e =
        let next : next_place (BeforeOperand opened) l ≡ None = rw (p, s, e) refl in
        let no_way : shape None ls ≡ true = sym (ap (λ (q : Option Place). shape q ls) next) ∙ h in cc
    by (Some t) e =
        let next : next_place (BeforeOperand opened) l ≡ Some (AfterOperand opened) = rw (p, s, e) refl in
        (t, e, sym (ap (λ (q : Option Place). shape q ls) next) ∙ h)

closing_step : (opened : ℕ) (ls : List Lexeme) → infix_at 0 ls ≡ None
    → shape (Some (AfterOperand (suc opened))) ls ≡ true
    → (rest : List Lexeme) × (ls ≡ Sign 41 ∷ rest) × (shape (Some (AfterOperand opened)) rest ≡ true)
unfolding shape
closing_step opened [] stops h = cc
closing_step opened (l ∷ ls) stops h = by (infix_of l) refl
  where
    by : (o : Option Binary) → infix_of l ≡ o
        → (rest : List Lexeme) × (l ∷ ls ≡ Sign 41 ∷ rest) × (shape (Some (AfterOperand opened)) rest ≡ true)
    by (Some op) e = absurd (some_none (op, ls) (sym (infix_some 0 l ls op e (omega arith)) ∙ stops))
    by None e = sign_by (is_sign 41 l) refl
      where
        sign_by : (b : Bool) → is_sign 41 l ≡ b
            → (rest : List Lexeme) × (l ∷ ls ≡ Sign 41 ∷ rest)
            × (shape (Some (AfterOperand opened)) rest ≡ true)
        sign_by true w =
            let next : next_place (AfterOperand (suc opened)) l ≡ Some (AfterOperand opened) =
            rw (e, w) refl in (
              ls,
              ap (λ (m : Lexeme). m ∷ ls) (is_sign-is 41 l w),
              sym
                  (ap (λ (q : Option Place). shape q ls) next) ∙ h,
            )
        sign_by false w =
            let next : next_place (AfterOperand (suc opened)) l ≡ None = rw (e, w) refl in
            let no_way : shape None ls ≡ true = sym (ap (λ (q : Option Place). shape q ls) next) ∙ h in cc

ending_step : (ls : List Lexeme) → infix_at 0 ls ≡ None → shape (Some (AfterOperand 0)) ls ≡ true → ls ≡ []
unfolding shape
ending_step [] stops h = refl
ending_step (l ∷ ls) stops h = by (infix_of l) refl
  where
    by : (o : Option Binary) → infix_of l ≡ o → l ∷ ls ≡ []
    by (Some op) e = absurd (some_none (op, ls) (sym (infix_some 0 l ls op e (omega arith)) ∙ stops))
    by None e = sign_by (is_sign 41 l) refl
      where
        sign_by : (b : Bool) → is_sign 41 l ≡ b → l ∷ ls ≡ []
        sign_by true w =
            let next : next_place (AfterOperand 0) l ≡ None = rw (e, w) refl in
            let no_way : shape None ls ≡ true = sym (ap (λ (q : Option Place). shape q ls) next) ∙ h in cc
        sign_by false w =
            let next : next_place (AfterOperand 0) l ≡ None = rw (e, w) refl in
            let no_way : shape None ls ≡ true = sym (ap (λ (q : Option Place). shape q ls) next) ∙ h in cc

open_step : (opened : ℕ) (l : Lexeme) (ls : List Lexeme) → prefix_of l ≡ None → is_sign 40 l ≡ true
    → shape (Some (BeforeOperand opened)) (l ∷ ls) ≡ shape (Some (BeforeOperand (suc opened))) ls
unfolding shape
open_step opened l ls p s =
    let next : next_place (BeforeOperand opened) l ≡ Some (BeforeOperand (suc opened)) = rw (p, s) refl in
    ap (λ (q : Option Place). shape q ls) next

no_less : (m n : ℕ) → m < n → n ≤ 0 → ⊥
no_less m n h le = omega arith

-- ---- a tree at the front

atom_front : (opened level : ℕ) (l : Lexeme) (ls : List Lexeme) → level ≤ 8 → prefix_of l ≡ None
    → is_sign 40 l ≡ false
    → shape (Some (BeforeOperand opened)) (l ∷ ls) ≡ true → Front opened level (l ∷ ls)
unfolding AtomReads
atom_front opened level l ls small p s h =
    let x = atom_step opened l ls p s h in
    let r = rw x.1 at (atom_reads l) in
    let fs : front_strength ls ≤ 8 = front_small ls in
    record {
      t = x.0;
      front = l ∷ [];
      rest = ls;
      is = refl;
      spells = r.0;
      proper = r.1;
      left = omega arith;
      right = omega arith;
      goes_on = x.2;
      shorter = omega arith;
    }

prefix_front : (k opened level : ℕ) (l : Lexeme) (ls : List Lexeme) (op : Unary) → Reads_below k
    → length ls ≤ k → level ≤ 8
    → prefix_of l ≡ Some op → shape (Some (BeforeOperand opened)) (l ∷ ls) ≡ true
    → Front opened level (l ∷ ls)
prefix_front k opened level l ls op below le small e h =
    let ps : prefix_strength op ≤ 7 = prefix_small op in
    let r =
    below opened (prefix_strength op + 1) ls le (omega arith) (sym (shape-prefix opened l ls op e) ∙ h) in
    let f = r.found in
    let weak : front_strength f.rest ≤ prefix_strength op =
    stop_strength (prefix_strength op) f.rest r.stops in
    let stronger : prefix_strength op + 1 ≤ weakest_left f.t = f.left in
    let taken : front_strength f.rest ≤ weakest_right f.t = f.right in
    let less : length f.rest < length ls = f.shorter in
    record {
      t = tree.Prefix op f.t;
      front = l ∷ f.front;
      rest = f.rest;
      is = ap (λ (r : List Lexeme). l ∷ r) f.is;
      spells = (l, f.front, refl, e, f.spells);
      proper = (omega arith, f.proper);
      left = omega arith;
      right = omega arith;
      goes_on = f.goes_on;
      shorter = omega arith;
    }

parens_front : (k opened level : ℕ) (l : Lexeme) (ls : List Lexeme) → Reads_below k → length ls ≤ k
    → level ≤ 8
    → prefix_of l ≡ None → is_sign 40 l ≡ true → shape (Some (BeforeOperand opened)) (l ∷ ls) ≡ true
    → Front opened level (l ∷ ls)
parens_front k opened level l ls below le small p s h =
    let r = below (suc opened) 0 ls le (omega arith) (sym (open_step opened l ls p s) ∙ h) in
    let f = r.found in
    let c = closing_step opened f.rest r.stops f.goes_on in
    let fs : front_strength c.0 ≤ 8 = front_small c.0 in
    let less : length f.rest < length ls = f.shorter in
    let one_more : length f.rest ≡ length (Sign 41 ∷ c.0) = ap length c.1 in
    let all : ls ≡ f.front ++ (Sign 41 ∷ c.0) = f.is ∙ ap (λ (r : List Lexeme). f.front ++ r) c.1 in
    record {
      t = tree.Parens f.t;
      front = Sign 40 ∷ (f.front ++ (Sign 41 ∷ []));
      rest = c.0;
      is = ap (λ (m : Lexeme). m ∷ ls) (is_sign-is 40 l s)
          ∙ ap (λ (r : List Lexeme). Sign 40 ∷ r) (all ∙ sym (append_assoc f.front (Sign 41 ∷ []) c.0));
      spells = (f.front, refl, f.spells);
      proper = f.proper;
      left = omega arith;
      right = omega arith;
      goes_on = c.2;
      shorter = omega arith;
    }

operand_front : (k opened level : ℕ) (ls : List Lexeme) → Reads_below k → length ls ≤ suc k → level ≤ 8
    → shape (Some (BeforeOperand opened)) ls ≡ true → Front opened level ls
unfolding shape
operand_front k opened level [] below le small h = absurd (false≢true h)
operand_front k opened level (l ∷ ls) below le small h = by (prefix_of l) refl
  where
    by : (o : Option Unary) → prefix_of l ≡ o → Front opened level (l ∷ ls)
    by (Some op) e = prefix_front k opened level l ls op below (omega arith) small e h
    by None e = sign_by (is_sign 40 l) refl
      where
        sign_by : (b : Bool) → is_sign 40 l ≡ b → Front opened level (l ∷ ls)
        sign_by true w = parens_front k opened level l ls below (omega arith) small e w h
        sign_by false w = atom_front opened level l ls small e w h

-- ---- operators after it

infix_front : (k opened level : ℕ) (ls rest : List Lexeme) (op : Binary) → Reads_below k
    → (f : Front opened level ls) → length f.rest ≤ k
    → infix_at level f.rest ≡ Some (op, rest)
    → (g : Front opened level ls) × (length g.rest < length f.rest)
infix_front k opened level ls rest op below f le h =
    let x = front_infix level f.rest rest op h in
    let ss : infix_strength op ≤ 7 = strength_small op in
    let one_more : length f.rest ≡ length (x.0 ∷ rest) = ap length x.1 in
    let later : shape (Some (AfterOperand opened)) (x.0 ∷ rest) ≡ true = rw x.1 at f.goes_on in
    let r =
    below opened (infix_strength op + 1) rest (omega arith) (omega arith)
    (sym (shape-infix opened x.0 rest op x.2) ∙ later) in
    let g = r.found in
    let weak : front_strength g.rest ≤ infix_strength op = stop_strength (infix_strength op) g.rest r.stops in
    let stronger : infix_strength op + 1 ≤ weakest_left g.t = g.left in
    let taken : front_strength g.rest ≤ weakest_right g.t = g.right in
    let front_is : front_strength f.rest ≡ infix_strength op = rw (x.1, x.2) refl in
    let held : front_strength f.rest ≤ weakest_right f.t = f.right in
    let least : level ≤ weakest_left f.t = f.left in
    let at_least : level ≤ infix_strength op = x.3 in
    let less : length g.rest < length rest = g.shorter in
    let lessf : length f.rest < length ls = f.shorter in
    let all : ls ≡ f.front ++ (x.0 ∷ (g.front ++ g.rest)) =
    f.is ∙ ap (λ (r : List Lexeme). f.front ++ r) (x.1 ∙ ap (λ (r : List Lexeme). x.0 ∷ r) g.is) in (
      record {
        t = tree.Infix op f.t g.t;
        front = f.front ++ (x.0 ∷ g.front);
        rest = g.rest;
        is = all ∙ sym (append_assoc f.front (x.0 ∷ g.front) g.rest);
        spells = (f.front, x.0, g.front, refl, x.2, f.spells, g.spells);
        proper = (omega arith, omega arith, f.proper, g.proper);
        left = omega arith;
        right = omega arith;
        goes_on = g.goes_on;
        shorter = omega arith;
      },
      omega arith,
    )

extend : (j k opened level : ℕ) (ls : List Lexeme) → Reads_below k → (f : Front opened level ls)
    → length f.rest ≤ j → length f.rest ≤ k
    → Reading opened level ls
extend zero k opened level ls below f lej lek = by (infix_at level f.rest) refl
  where
    by : (o : Option (Binary × List Lexeme)) → infix_at level f.rest ≡ o → Reading opened level ls
    by None e = record { found = f; stops = e }
    by (Some x) e = absurd (no_less _ _ (infix_front k opened level ls x.1 x.0 below f lek e).1 lej)
extend (suc j) k opened level ls below f lej lek =
    by (λ g lj lk. extend j k opened level ls below g lj lk) (infix_at level f.rest) refl
  where
    by : ((g : Front opened level ls) → length g.rest ≤ j → length g.rest ≤ k → Reading opened level ls)
        → (o : Option (Binary × List Lexeme)) → infix_at level f.rest ≡ o → Reading opened level ls
    by next None e = record { found = f; stops = e }
    by next (Some x) e =
        let g = infix_front k opened level ls x.1 x.0 below f lek e in
        let less : length g.0.rest < length f.rest = g.1 in
        next g.0 (omega arith) (omega arith)

reads_below : (k : ℕ) → Reads_below k
unfolding shape
reads_below zero opened level [] le small h = absurd (false≢true h)
reads_below zero opened level (l ∷ ls) le small h = absurd (no_less 0 (length (l ∷ ls)) (omega arith) le)
reads_below (suc k) opened level ls le small h =
    let f = operand_front k opened level ls (reads_below k) le small h in
    let less : length f.rest < length ls = f.shorter in
    extend (length f.rest) k opened level ls (reads_below k) f (omega arith) (omega arith)

-- what has the shape of an expression is one
pub reading_of : (ls : List Lexeme) → shape (Some (BeforeOperand 0)) ls ≡ true
    → (t : Tree) × Spells t ls × IsProper t
reading_of ls h =
    let r = reads_below (length ls) 0 0 ls (omega arith) (omega arith) h in
    let f = r.found in
    let ends : f.rest ≡ [] = ending_step f.rest r.stops f.goes_on in
    let all : ls ≡ f.front = f.is ∙ ap (λ (r : List Lexeme). f.front ++ r) ends ∙ append-nil f.front in
    let P : List Lexeme → Type 0 = λ r. Spells f.t r in
    (f.t, subst P (sym all) f.spells, f.proper)
