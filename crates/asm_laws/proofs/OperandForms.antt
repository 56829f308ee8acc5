-- What is known of operands once an operation has read them.
use Rattle.std.proofs.Common.{◌≡◌, ℕ, ◌<◌, ◌≤◌, ◌⊎◌, inl, inr, List, [], ◌∷◌, Bool, true, false, refl, sym}
use Rattle.std.proofs.Common.{ap, ◌∙◌, Option, Some, None, Result, Ok, Err, arith, subst}
use Rattle.std.specs.Prelude.{nat_le, option_and_then}
use Rattle.std.proofs.lemmas.Bool.Decides.{nat_tests}
use Rattle.std.proofs.lemmas.Bool.{false≢true}
use Rattle.asm_expr.specs.Tree.{Tree, depth_of}
use Rattle.asm_syntax.specs.declared.fault.FaultKind.TheVariants as kind
use Rattle.asm_syntax.specs.declared.keyword.Keyword.TheVariants as keyword
use Rattle.asm_syntax.specs.declared.keyword.RegisterWord.{RegisterWord}
use Rattle.asm_syntax.specs.declared.statement.Operand.{Operand}
use Rattle.asm_syntax.specs.Lexemes.{Lexeme, Piece, Keyword}
use Rattle.asm_syntax.specs.Outcome.{Fault, ◌>>=◌}
use Rattle.asm_lex.specs.Climb.{expression, first_column}
use Rattle.asm_lex.specs.Commas.{register_in, register_of, single, split_commas}
use Rattle.asm_lex.specs.Reading.{IsTreeOf, within_depth}
use Rattle.asm_lex.specs.Shape.{is_expression, shape}
use Rattle.asm_laws.proofs.Meaning.{expression_is, shape_is, no_expression}
use Rattle.asm_lex.proofs.Operands.{operands_step}
use Rattle.asm_text.specs.Faults.{IsDeep}
use Rattle.asm_text.specs.Forms.{fitting, named_by, no_operand, only_expression, only_named}
use Rattle.asm_text.specs.Grammar.{Names, Tells, Only}

-- ---- expressions

-- the expression that an operand is, or why it is none
abbrev pub Judged : ℕ → List Piece → Result Operand Fault → Type 0
Judged column o (Ok e) = Tells e o × (depth_of e.expr ≤ 64) × ((x : Operand) → Tells x o → x ≡ e)
Judged column o (Err f) =
    ((f ≡ (column, kind.Operands)) × ((x : Operand) → Tells x o → ⊥))
    ⊎ ((f ≡ (first_column o, kind.Nesting)) × (t : Tree) × IsTreeOf t o × (64 < depth_of t))

err_ok : {A : Type 0} (f : Fault) (a : A) → Err f ≡ Ok a → ⊥
err_ok f a h = cc

same_operand : (x : Operand) (first : ℕ) (t : Tree) → x.column ≡ first → x.expr ≡ t
    → x ≡ record { column = first; expr = t }
same_operand x first t c e =
    ap (λ (k : ℕ). record x { column = k }) c
    ∙ ap (λ (u : Tree). record { column = first; expr = u }) e

same_tree : (first : ℕ) (t u : Tree) → within_depth first u ≡ Ok (record { column = first; expr = t }) → u ≡ t
same_tree first t u h = by (nat_le (depth_of u) 64) refl
  where
    by : (b : Bool) → nat_le (depth_of u) 64 ≡ b → u ≡ t
    by true e =
        let is : Ok (record { column = first; expr = u }) ≡ Ok (record { column = first; expr = t }) = rw
        e at h in
        let same : record { column = first; expr = u } ≡ record { column = first; expr = t } = cc in
        ap (λ (x : Operand). x.expr) same
    by false e =
        let no_way : Err (first, kind.Nesting) ≡ Ok (record { column = first; expr = t }) = rw e at h in
        absurd (err_ok _ _ no_way)

with_tree : (column : ℕ) (o : List Piece) (t : Tree) → IsTreeOf t o → Judged column o (expression column o)
with_tree column o t r = by (nat_le (depth_of t) 64) refl
  where
    is : expression column o ≡ within_depth (first_column o) t
    is = expression_is column o t r

    by : (b : Bool) → nat_le (depth_of t) 64 ≡ b → Judged column o (expression column o)
    by true e =
        let le : depth_of t ≤ 64 = grind (arith, nat_tests) in
        let read : expression column o ≡ Ok (record { column = first_column o; expr = t }) = rw (is, e)
        refl in
        subst (Judged column o) (sym read) (
          (refl, r),
          le,
          λ x tells.
              same_operand x (first_column o) t tells.0
              (same_tree (first_column o) t x.expr (sym (expression_is column o x.expr tells.1) ∙ read)),
        )
    by false e =
        let lt : 64 < depth_of t = grind (arith, nat_tests) in
        let read : expression column o ≡ Err (first_column o, kind.Nesting) = rw (is, e) refl in
        subst (Judged column o) (sym read) (inr (refl, t, r, lt))

pub judged : (column : ℕ) (o : List Piece) → Judged column o (expression column o)
judged column o = by (is_expression o) refl
  where
    by : (b : Bool) → is_expression o ≡ b → Judged column o (expression column o)
    by true e = let r = (shape_is o).0 e in with_tree column o r.0 r.1
    by false e =
        let none : (t : Tree) → IsTreeOf t o → ⊥ = λ t r. false≢true (sym e ∙ (shape_is o).1 (t, r)) in
        subst (Judged column o) (sym (no_expression column o none))
        (inl (refl, λ x tells. none x.expr tells.1))

-- what was read is no deeper than 64
pub shallow : (column : ℕ) (o : List Piece) (e : Operand) → Judged column o (Ok e)
    → (t : Tree) → IsTreeOf t o → depth_of t ≤ 64
shallow column o e j t r =
    let same : record { column = first_column o; expr = t } ≡ e = j.2 _ (refl, r) in
    let depth : depth_of t ≡ depth_of e.expr = ap (λ (x : Operand). depth_of x.expr) same in
    let le : depth_of e.expr ≤ 64 = j.1 in
    omega (arith, depth, le)

-- ---- words of registers

pub named : {A : Type 0} (meaning : RegisterWord → Option A) (a : A) (o : List Piece) → Names meaning a o
    → option_and_then meaning (register_of o) ≡ Some a
named meaning a o n = rw (n.2) (n.3)

pub none_some : {A : Type 0} (a : A) → None ≡ Some a → ⊥
none_some a h = cc

word_names : {A : Type 0} (meaning : RegisterWord → Option A) (a : A) (column : ℕ) (l : Lexeme)
    → option_and_then meaning (register_in l) ≡ Some a → Names meaning a ((column, l) ∷ [])
word_names meaning a column (Keyword (keyword.Register r)) h = (column, r, refl, h)
word_names meaning a column l h = absurd (none_some a h)

pub names : {A : Type 0} (meaning : RegisterWord → Option A) (a : A) (o : List Piece)
    → option_and_then meaning (register_of o) ≡ Some a → Names meaning a o
names meaning a [] h = absurd (none_some a h)
names meaning a (p ∷ []) h = word_names meaning a p.0 p.1 h
names meaning a (p ∷ q ∷ ps) h = absurd (none_some a h)

register_no_tree : (column : ℕ) (r : RegisterWord) (t : Tree)
    → IsTreeOf t ((column, Keyword (keyword.Register r)) ∷ []) → ⊥
unfolding shape
register_no_tree column r t x =
    let h : is_expression ((column, Keyword (keyword.Register r)) ∷ []) ≡ true =
    (shape_is ((column, Keyword (keyword.Register r)) ∷ [])).1 (t, x) in
    false≢true h

pub no_tree : {A : Type 0} (meaning : RegisterWord → Option A) (a : A) (o : List Piece) → Names meaning a o
    → (t : Tree) → IsTreeOf t o → ⊥
no_tree meaning a o n t r = register_no_tree n.0 n.1 t (subst (IsTreeOf t) n.2 r)

-- ---- operations

-- what is known of an operation in this column: it says what was read and nothing else, and no
-- operand is too deep; or it says nothing; or the first that is too deep was told
abbrev pub Verdict : {A : Type 0} → (A → Type 0) → List (List Piece) → ℕ → Result A Fault → Type 0
Verdict {A} says os column (Ok a) = says a × ((k : ℕ) → IsDeep os k → ⊥) × ((b : A) → says b → b ≡ a)
Verdict {A} says os column (Err f) =
    ((f ≡ (column, kind.Operands)) × ((b : A) → says b → ⊥))
    ⊎ ((f.1 ≡ kind.Nesting) × IsDeep os f.0 × ((k : ℕ) → IsDeep os k → f.0 ≤ k) × (a : A) × says a)

pub not_deep : (o : List Piece) (k : ℕ) → ((t : Tree) → IsTreeOf t o → depth_of t ≤ 64) → IsDeep (o ∷ []) k
    → ⊥
not_deep o k low (inl d) = let le = low d.1 d.2 in let gt = d.3 in absurd (omega (arith, le, gt))
not_deep o k low (inr d) = d

pub same_column : (o : List Piece) (c : ℕ) (k : ℕ) → c ≡ first_column o → IsDeep (o ∷ []) k → c ≤ k
same_column o c k is (inl d) = let at = d.0 in omega (arith, is, at)
same_column o c k is (inr d) = absurd d

-- the only operand is an expression
abbrev SaysOne : {A : Type 0} → (Operand → A) → List (List Piece) → A → Type 0
SaysOne f os said = (e : Operand) × Only (Tells e) os × (said ≡ f e)

one_lifted : {A : Type 0} (f : Operand → A) (column : ℕ) (o : List Piece) (r : Result Operand Fault)
    → Judged column o r → Verdict (SaysOne f (o ∷ [])) (o ∷ []) column (r >>= λ e. Ok (f e))
one_lifted {A} f column o (Ok e) j = (
  (e, j.0, refl),
  λ k d. not_deep o k (shallow column o e j) d,
  λ b s. s.2 ∙ ap f (j.2 s.0 s.1),
)
one_lifted {A} f column o (Err g) (inl x) = inl (x.0, λ b s. x.1 s.0 s.1)
one_lifted {A} f column o (Err g) (inr x) =
    let column_is : g.0 ≡ first_column o = ap (λ (y : Fault). y.0) x.0 in
    let kind_is : g.1 ≡ kind.Nesting = ap (λ (y : Fault). y.1) x.0 in
    let e : Operand = record { column = first_column o; expr = x.1 } in
    inr (
      kind_is,
      inl (column_is, x.1, x.2, x.3),
      λ k d. same_column o g.0 k column_is d,
      f e,
      (e, (refl, x.2), refl),
    )

one_by : {A : Type 0} (f : Operand → A) (column : ℕ) (os : List (List Piece))
    → Verdict (SaysOne f os) os column ((fitting column (single os) >>= expression column) >>= λ e. Ok (f e))
one_by f column [] = inl (refl, λ b s. s.1)
one_by f column (o ∷ []) = one_lifted f column o (expression column o) (judged column o)
one_by f column (o ∷ p ∷ os) = inl (refl, λ b s. s.1)

pub one_expression : {A : Type 0} (f : Operand → A) (column : ℕ) (ps : List Piece)
    → Verdict (λ said. (e : Operand) × Only (Tells e) (split_commas ps) × (said ≡ f e)) (split_commas ps)
    column
    (only_expression column ps >>= λ e. Ok (f e))
one_expression f column ps = one_by f column (split_commas ps)

-- the only operand is a register, a pair or a code
abbrev SaysNamed : {A B : Type 0} → (RegisterWord → Option B) → (B → A) → List (List Piece) → A → Type 0
SaysNamed {A} {B} meaning f os said = (r : B) × Only (Names meaning r) os × (said ≡ f r)

abbrev named_read : {A B : Type 0} → ℕ → (B → A) → Option B → Result A Fault
named_read column f o = fitting column o >>= λ r. Ok (f r)

pub some_same : {A : Type 0} (a b : A) → Some a ≡ Some b → a ≡ b
some_same a b h = cc

named_lifted : {A B : Type 0} (meaning : RegisterWord → Option B) (f : B → A) (column : ℕ) (o : List Piece)
    → (x : Option B) → option_and_then meaning (register_of o) ≡ x
    → Verdict (SaysNamed meaning f (o ∷ [])) (o ∷ []) column (named_read column f x)
named_lifted meaning f column o None is =
    inl (refl, λ b s. none_some s.0 (sym is ∙ named meaning s.0 o s.1))
named_lifted meaning f column o (Some a) is = (
  (a, names meaning a o is, refl),
  λ k d. not_deep o k (λ t r. absurd (no_tree meaning a o (names meaning a o is) t r)) d,
  λ b s. s.2 ∙ ap f (some_same _ _ (sym (named meaning s.0 o s.1) ∙ is)),
)

named_one_by : {A B : Type 0} (meaning : RegisterWord → Option B) (f : B → A) (column : ℕ)
    (os : List (List Piece))
    → Verdict (SaysNamed meaning f os) os column
    ((fitting column (single os) >>= named_by column meaning) >>= λ r. Ok (f r))
named_one_by meaning f column [] = inl (refl, λ b s. s.1)
named_one_by meaning f column (o ∷ []) =
    named_lifted meaning f column o (option_and_then meaning (register_of o)) refl
named_one_by meaning f column (o ∷ p ∷ os) = inl (refl, λ b s. s.1)

pub one_named : {A B : Type 0} (meaning : RegisterWord → Option B) (f : B → A) (column : ℕ) (ps : List Piece)
    → Verdict (λ said. (r : B) × Only (Names meaning r) (split_commas ps) × (said ≡ f r))
    (split_commas ps) column
    (only_named column meaning ps >>= λ r. Ok (f r))
one_named meaning f column ps = named_one_by meaning f column (split_commas ps)

-- no operand
pub no_operands : (p : Piece) (ps : List Piece) → split_commas (p ∷ ps) ≡ [] → ⊥
no_operands p ps h =
    let step = operands_step (p ∷ ps) in
    let no_way = sym h ∙ step in
    cc

pub none : {A : Type 0} (x : A) (column : ℕ) (ps : List Piece)
    → Verdict (λ said. (split_commas ps ≡ []) × (said ≡ x)) (split_commas ps) column (no_operand column x ps)
none x column [] = ((refl, refl), λ k d. d, λ b s. s.1)
none x column (p ∷ ps) = inl (refl, λ b s. no_operands p ps s.0)
