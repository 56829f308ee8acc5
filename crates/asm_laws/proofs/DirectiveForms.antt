-- What is known of a directive once its operands were read.
use Rattle.std.proofs.Common.{◌≡◌, ℕ, ◌+◌, ◌<◌, ◌≤◌, ◌⊎◌, inl, inr, List, [], ◌∷◌, Bool, true, false, refl}
use Rattle.std.proofs.Common.{sym, ap, ◌∙◌, Option, Some, None, Result, Ok, Err, arith, subst}
use Rattle.std.specs.Prelude.{is_some, ◌||◌, ◌&&◌}
use Rattle.std.specs.List.{list_all}
use Rattle.std.proofs.lemmas.Bool.{false≢true}
use Rattle.asm_expr.specs.Tree as tree
use Rattle.asm_expr.specs.Tree.{Tree, depth_of}
use Rattle.asm_syntax.specs.declared.fault.FaultKind.TheVariants as kind
use Rattle.asm_syntax.specs.declared.keyword.Directive.{Directive}
use Rattle.asm_syntax.specs.declared.keyword.Directive.TheVariants as directive
use Rattle.asm_syntax.specs.declared.statement.Action.{Action}
use Rattle.asm_syntax.specs.declared.statement.Action.TheVariants as action
use Rattle.asm_syntax.specs.declared.statement.Data.{Data}
use Rattle.asm_syntax.specs.declared.statement.Data.TheVariants as datum
use Rattle.asm_syntax.specs.declared.statement.Operand.{Operand}
use Rattle.asm_syntax.specs.Lexemes.{Lexeme, Piece, Text}
use Rattle.asm_syntax.specs.Outcome.{Fault, ◌>>=◌}
use Rattle.asm_lex.specs.Climb.{expression, first_column}
use Rattle.asm_lex.specs.Commas.{is_comma, onto_first, operands_of, split_commas, text_in, text_of}
use Rattle.asm_lex.specs.Operators.{number_of}
use Rattle.asm_lex.specs.Reading.{IsTreeOf}
use Rattle.asm_lex.specs.Shape.{is_expression, shape}
use Rattle.asm_laws.proofs.Meaning.{expression_is, shape_is}
use Rattle.asm_text.specs.Faults.{IsDeep}
use Rattle.asm_text.specs.Forms.{is_data, data_by, data_at, each_of, some_operands, end_of}
use Rattle.asm_text.specs.Forms.{only_expression, directive_of}
use Rattle.asm_text.specs.Grammar.{Tells, TellsData, IsText, Only, Each, DirectiveSays}
use Rattle.asm_laws.proofs.OperandForms.{Judged, judged, shallow, some_same, none_some, Verdict}
use Rattle.asm_laws.proofs.OperandForms.{one_expression, none, no_operands}

-- ---- columns rise

-- pieces stand from this column on, one after the other
abbrev pub Rises : ℕ → List Piece → Type 0
Rises column [] = Unit {0}
Rises column (p ∷ ps) = (column ≤ p.0) × Rises (p.0 + 1) ps

-- operands stand one after the other
abbrev pub InOrder : List (List Piece) → Type 0
InOrder [] = Unit {0}
InOrder (o ∷ os) = ((k : ℕ) → IsDeep os k → first_column o ≤ k) × InOrder os

nothing_read : (t : Tree) → IsTreeOf t [] → ⊥
unfolding shape
nothing_read t r =
    let h : is_expression [] ≡ true = (shape_is []).1 (t, r) in
    false≢true h

abbrev OrderFrom : ℕ → List (List Piece) → Type 0
OrderFrom column os = InOrder os × ((k : ℕ) → IsDeep os k → column ≤ k)

with_nothing : (column below : ℕ) (os : List (List Piece)) → column ≤ below → OrderFrom below os
    → OrderFrom column ([] ∷ os)
with_nothing column below os le h = ((λ k d. omega arith, h.0), bound)
  where
    bound : (k : ℕ) → IsDeep ([] ∷ os) k → column ≤ k
    bound k (inl d) = absurd (nothing_read d.1 d.2)
    bound k (inr d) = let b = h.1 k d in omega (arith, le, b)

with_piece : (column : ℕ) (p : Piece) (os : List (List Piece)) → column ≤ p.0 → OrderFrom (p.0 + 1) os
    → OrderFrom column (onto_first p os)
with_piece column p [] le h = ((λ k d. absurd d, tt), bound)
  where
    bound : (k : ℕ) → IsDeep ((p ∷ []) ∷ []) k → column ≤ k
    bound k (inl d) = let at = d.0 in omega (arith, le, at)
    bound k (inr d) = absurd d
with_piece column p (o ∷ os) le h =
    ((λ k d. let b = h.1 k (inr d) in omega (arith, b), h.0.1), bound)
  where
    bound : (k : ℕ) → IsDeep ((p ∷ o) ∷ os) k → column ≤ k
    bound k (inl d) = let at = d.0 in omega (arith, le, at)
    bound k (inr d) = let b = h.1 k (inr d) in omega (arith, le, b)

order_from : (ps : List Piece) (column : ℕ) → Rises column ps → OrderFrom column (operands_of ps)
unfolding operands_of
order_from [] column r = ((λ k d. absurd d, tt), bound)
  where
    bound : (k : ℕ) → IsDeep ([] ∷ []) k → column ≤ k
    bound k (inl d) = absurd (nothing_read d.1 d.2)
    bound k (inr d) = absurd d
order_from (p ∷ ps) column r = by (order_from ps (p.0 + 1) r.1) (is_comma p.1) refl
  where
    by : OrderFrom (p.0 + 1) (operands_of ps) → (b : Bool) → is_comma p.1 ≡ b
        → OrderFrom column (operands_of (p ∷ ps))
    by next true e = let le = r.0 in rw e (with_nothing column (p.0 + 1) (operands_of ps)
        (omega (arith, le)) next)
    by next false e = rw e (with_piece column p (operands_of ps) r.0 next)

pub in_order : (ps : List Piece) (column : ℕ) → Rises column ps → InOrder (split_commas ps)
in_order [] column r = tt
in_order (p ∷ ps) column r = (order_from (p ∷ ps) column r).0

-- ---- lists of operands

-- what is known of one of them that has its form
abbrev OneJudged : {A : Type 0} → (A → List Piece → Type 0) → List Piece → Result A Fault → Type 0
OneJudged {A} says o (Ok a) =
    says a o × ((t : Tree) → IsTreeOf t o → depth_of t ≤ 64) × ((b : A) → says b o → b ≡ a)
OneJudged {A} says o (Err g) =
    (g ≡ (first_column o, kind.Nesting)) × (t : Tree) × IsTreeOf t o × (64 < depth_of t) × (a : A) × says a o

abbrev EachJudged : {A : Type 0} → (A → List Piece → Type 0) → List (List Piece) → Result (List A) Fault
    → Type 0
EachJudged {A} says os (Ok xs) =
    Each says xs os × ((k : ℕ) → IsDeep os k → ⊥) × ((bs : List A) → Each says bs os → bs ≡ xs)
EachJudged {A} says os (Err g) =
    (g.1 ≡ kind.Nesting) × IsDeep os g.0 × ((k : ℕ) → IsDeep os k → g.0 ≤ k) × (bs : List A) × Each says bs os

there_are : {A : Type 0} (says : A → List Piece → Type 0) (os : List (List Piece)) (r : Result (List A) Fault)
    → EachJudged says os r → (bs : List A) × Each says bs os
there_are says os (Ok xs) j = (xs, j.0)
there_are says os (Err g) j = (j.3, j.4)

each_none : {A : Type 0} (says : A → List Piece → Type 0) (bs : List A) → Each says bs [] → bs ≡ []
each_none says [] e = refl
each_none says (b ∷ bs) e = absurd e

each_more : {A : Type 0} (says : A → List Piece → Type 0) (o : List Piece) (os : List (List Piece)) (a : A)
    (xs : List A) → ((b : A) → says b o → b ≡ a) → ((bs : List A) → Each says bs os → bs ≡ xs)
    → (bs : List A) → Each says bs (o ∷ os) → bs ≡ a ∷ xs
each_more says o os a xs one more [] e = absurd e
each_more {A} says o os a xs one more (b ∷ bs) e =
    ap (λ (x : A). x ∷ bs) (one b e.0) ∙ ap (λ (xs : List A). a ∷ xs) (more bs e.1)

deep_later : (o : List Piece) (os : List (List Piece)) (k : ℕ) → ((t : Tree) → IsTreeOf t o → depth_of t ≤ 64)
    → IsDeep (o ∷ os) k → IsDeep os k
deep_later o os k low (inl d) = let le = low d.1 d.2 in let gt = d.3 in absurd (omega (arith, le, gt))
deep_later o os k low (inr d) = d

deep_from : (o : List Piece) (os : List (List Piece)) (k c : ℕ) → c ≡ first_column o
    → ((j : ℕ) → IsDeep os j → first_column o ≤ j) → IsDeep (o ∷ os) k → c ≤ k
deep_from o os k c is order (inl d) = let at = d.0 in omega (arith, is, at)
deep_from o os k c is order (inr d) = let le = order k d in omega (arith, is, le)

both_true : (a b : Bool) → (a && b) ≡ true → (a ≡ true) × (b ≡ true)
both_true true b h = (refl, h)
both_true false b h = absurd (false≢true h)

each_one : {A : Type 0} (says : A → List Piece → Type 0) (o : List Piece) (os : List (List Piece))
    → ((k : ℕ) → IsDeep os k → first_column o ≤ k)
    → (r : Result A Fault) → OneJudged says o r → (more : Result (List A) Fault) → EachJudged says os more
    → EachJudged says (o ∷ os) (r >>= λ x. more >>= λ xs. Ok (x ∷ xs))
each_one says o os order (Ok a) j (Ok xs) m = (
  (j.0, m.0),
  λ k d. m.1 k (deep_later o os k j.1 d),
  λ bs e. each_more says o os a xs j.2 m.2 bs e,
)
each_one says o os order (Ok a) j (Err g) m =
    (m.0, inr m.1, λ k d. m.2 k (deep_later o os k j.1 d), a ∷ m.3, (j.0, m.4))
each_one says o os order (Err g) j more m =
    let column_is : g.0 ≡ first_column o = ap (λ (y : Fault). y.0) j.0 in
    let kind_is : g.1 ≡ kind.Nesting = ap (λ (y : Fault). y.1) j.0 in
    let rest = there_are says os more m in (
      kind_is,
      inl (column_is, j.1, j.2, j.3),
      λ k d. deep_from o os k g.0 column_is order d,
      j.4 ∷ rest.0,
      (j.5, rest.1),
    )

each_judged : {A : Type 0} (says : A → List Piece → Type 0) (fits : List Piece → Bool)
    (f : List Piece → Result A Fault) → ((o : List Piece) → fits o ≡ true → OneJudged says o (f o))
    → (os : List (List Piece)) → list_all fits os ≡ true → InOrder os → EachJudged says os (each_of f os)
unfolding each_of
each_judged says fits f one [] all order = (tt, λ k d. d, λ bs e. each_none says bs e)
each_judged says fits f one (o ∷ os) all order =
    let h = both_true (fits o) (list_all fits os) all in
    each_one says o os order.0 (f o) (one o h.0) (each_of f os)
    (each_judged says fits f one os h.1 order.1)

and_true : (a b : Bool) → a ≡ true → b ≡ true → (a && b) ≡ true
and_true true true h i = refl
and_true true false h i = i
and_true false b h i = h

each_fits : {A : Type 0} (says : A → List Piece → Type 0) (fits : List Piece → Bool)
    → ((a : A) (o : List Piece) → says a o → fits o ≡ true)
    → (xs : List A) (os : List (List Piece)) → Each says xs os → list_all fits os ≡ true
each_fits says fits one [] [] e = refl
each_fits says fits one (a ∷ xs) [] e = absurd e
each_fits says fits one [] (o ∷ os) e = absurd e
each_fits says fits one (a ∷ xs) (o ∷ os) e =
    and_true (fits o) (list_all fits os) (one a o e.0) (each_fits says fits one xs os e.1)

abbrev SaysSome : {A B : Type 0} → (B → List Piece → Type 0) → (List B → A) → List (List Piece) → A → Type 0
SaysSome {A} {B} says g os said = (bs : List B) × Each says bs os × (os ≡ [] → ⊥) × (said ≡ g bs)

some_lifted : {A B : Type 0} (says : B → List Piece → Type 0) (g : List B → A) (os : List (List Piece))
    (column : ℕ)
    → (os ≡ [] → ⊥) → (r : Result (List B) Fault) → EachJudged says os r
    → Verdict (SaysSome says g os) os column (r >>= λ bs. Ok (g bs))
some_lifted says g os column some (Ok bs) j =
    ((bs, j.0, some, refl), j.1, λ b s. s.3 ∙ ap g (j.2 s.0 s.1))
some_lifted says g os column some (Err f) j = inr (j.0, j.1, j.2, g j.3, (j.3, j.4, some, refl))

some_operands_are : {A B : Type 0} (says : B → List Piece → Type 0) (g : List B → A) (fits : List Piece
    → Bool)
    (f : List Piece → Result B Fault) → ((o : List Piece) → fits o ≡ true → OneJudged says o (f o))
    → ((b : B) (o : List Piece) → says b o → fits o ≡ true)
    → (column : ℕ) (ps : List Piece) → InOrder (split_commas ps)
    → Verdict (SaysSome says g (split_commas ps)) (split_commas ps) column
    (some_operands column fits f ps >>= λ bs. Ok (g bs))
some_operands_are says g fits f one back column [] order = inl (refl, λ b s. s.2 refl)
some_operands_are {A} {B} says g fits f one back column (p ∷ ps) order =
    by (list_all fits (operands_of (p ∷ ps))) refl
  where
    by : (b : Bool) → list_all fits (operands_of (p ∷ ps)) ≡ b
        → Verdict (SaysSome says g (operands_of (p ∷ ps))) (operands_of (p ∷ ps)) column
        (some_operands column fits f (p ∷ ps) >>= λ bs. Ok (g bs))
    by true e =
        rw e (some_lifted says g (operands_of (p ∷ ps)) column (no_operands p ps)
        (each_of f (operands_of (p ∷ ps))) (each_judged says fits f one (operands_of (p ∷ ps)) e order))
    by false e =
        rw e (inl (refl, λ b s. false≢true (sym e ∙ each_fits says fits back s.0 (operands_of (p ∷ ps)) s.1)))

-- ---- DW

words_judged : (column : ℕ) (o : List Piece) → is_expression o ≡ true
    → OneJudged Tells o (expression column o)
words_judged column o fits = by (expression column o) (judged column o)
  where
    by : (r : Result Operand Fault) → Judged column o r → OneJudged Tells o r
    by (Ok e) j = (j.0, shallow column o e j, j.2)
    by (Err g) (inl x) =
        let r = (shape_is o).0 fits in
        absurd (x.1 (record { column = first_column o; expr = r.0 }) (refl, r.1))
    by (Err g) (inr x) =
        (x.0, x.1, x.2, x.3, record { column = first_column o; expr = x.1 }, (refl, x.2))

words_fit : (e : Operand) (o : List Piece) → Tells e o → is_expression o ≡ true
words_fit e o tells = (shape_is o).1 (e.expr, tells.1)

-- ---- DB

text_is : (t : List ℕ) (o : List Piece) → IsText t o → text_of o ≡ Some t
text_is t o x = rw x.1 refl

word_text : (t : List ℕ) (column : ℕ) (l : Lexeme) → text_in l ≡ Some t → IsText t ((column, l) ∷ [])
word_text t column (Text u) h = (column, ap (λ (v : List ℕ). (column, Text v) ∷ []) (some_same _ _ h))
word_text t column l h = absurd (none_some t h)

is_text : (t : List ℕ) (o : List Piece) → text_of o ≡ Some t → IsText t o
is_text t [] h = absurd (none_some t h)
is_text t (p ∷ []) h = word_text t p.0 p.1 h
is_text t (p ∷ q ∷ ps) h = absurd (none_some t h)

number_shallow : (column : ℕ) (t : List ℕ) (n : ℕ) → number_of t ≡ Some n
    → (u : Tree) → IsTreeOf u ((column, Text t) ∷ []) → depth_of u ≤ 64
number_shallow column t n is u r =
    let reads : IsTreeOf (tree.Number n) ((column, Text t) ∷ []) = (rw is refl, tt) in
    let read : expression 0 ((column, Text t) ∷ []) ≡ Ok (record { column = column; expr = tree.Number n }) =
    expression_is 0 ((column, Text t) ∷ []) (tree.Number n) reads in
    shallow 0 ((column, Text t) ∷ []) (record { column = column; expr = tree.Number n })
    (subst (Judged 0 ((column, Text t) ∷ [])) read (judged 0 ((column, Text t) ∷ []))) u r

long_text : (column : ℕ) (t : List ℕ) → number_of t ≡ None → (u : Tree) → IsTreeOf u ((column, Text t) ∷ [])
    → ⊥
unfolding shape
long_text column t is u r =
    let h : is_expression ((column, Text t) ∷ []) ≡ true = (shape_is ((column, Text t) ∷ [])).1 (u, r) in
    false≢true (rw is at h)

text_shallow : (t : List ℕ) (o : List Piece) → IsText t o → (u : Tree) → IsTreeOf u o → depth_of u ≤ 64
text_shallow t o x u r = by (number_of t) refl
  where
    reads : IsTreeOf u ((x.0, Text t) ∷ [])
    reads = subst (IsTreeOf u) x.1 r

    by : (n : Option ℕ) → number_of t ≡ n → depth_of u ≤ 64
    by None e = absurd (long_text x.0 t e u reads)
    by (Some n) e = number_shallow x.0 t n e u reads

data_same : (t : List ℕ) (o : List Piece) → text_of o ≡ Some t → (b : Data) → TellsData b o → b ≡ datum.Text t
data_same t o is (datum.Text u) x =
    ap (λ (v : List ℕ). datum.Text v) (some_same _ _ (sym (text_is u o x) ∙ is))
data_same t o is (datum.Byte e) x = absurd (x.1 t (is_text t o is))

byte_same : (e : Operand) (o : List Piece) → text_of o ≡ None → ((x : Operand) → Tells x o → x ≡ e)
    → (b : Data) → TellsData b o → b ≡ datum.Byte e
byte_same e o is only (datum.Text u) x = absurd (none_some u (sym is ∙ text_is u o x))
byte_same e o is only (datum.Byte y) x = ap (λ (z : Operand). datum.Byte z) (only y x.0)

byte_judged : (o : List Piece) → text_of o ≡ None → (r : Result Operand Fault) → OneJudged Tells o r
    → OneJudged TellsData o (r >>= λ e. Ok (datum.Byte e))
byte_judged o is (Ok e) j = (
  (j.0, λ t x. none_some t (sym is ∙ text_is t o x)),
  j.1,
  λ b x. byte_same e o is j.2 b x,
)
byte_judged o is (Err g) j =
    (j.0, j.1, j.2, j.3, datum.Byte j.4, (j.5, λ t x. none_some t (sym is ∙ text_is t o x)))

data_judged : (column : ℕ) (o : List Piece) → is_data o ≡ true → OneJudged TellsData o (data_at column o)
data_judged column o fits = by (text_of o) refl
  where
    by : (t : Option (List ℕ)) → text_of o ≡ t → OneJudged TellsData o (data_by column o t)
    by (Some t) e = (
      is_text t o e,
      λ u r. text_shallow t o (is_text t o e) u r,
      λ b x. data_same t o e b x,
    )
    by None e =
        let is : is_expression o ≡ true = rw e at fits in
        byte_judged o e (expression column o) (words_judged column o is)

or_right : (a b : Bool) → b ≡ true → (a || b) ≡ true
or_right true b h = refl
or_right false b h = h

data_fit : (d : Data) (o : List Piece) → TellsData d o → is_data o ≡ true
data_fit (datum.Text t) o x = rw (text_is t o x) refl
data_fit (datum.Byte e) o x = or_right (is_some (text_of o)) (is_expression o) (words_fit e o x.0)

-- ---- END

carried : {A : Type 0} (says tells : A → Type 0) (os : List (List Piece)) (column : ℕ) (r : Result A Fault)
    → ((a : A) → says a → tells a) → ((a : A) → tells a → says a) → Verdict says os column r
    → Verdict tells os column r
carried says tells os column (Ok a) to from v = (to a v.0, v.1, λ b s. v.2 b (from b s))
carried says tells os column (Err f) to from (inl x) = inl (x.0, λ b s. x.1 b (from b s))
carried says tells os column (Err f) to from (inr x) = inr (x.0, x.1, x.2, x.3, to x.3 x.4)

regroup : {A B C : Type 0} (r : Result A Fault) (f : A → B) (g : B → C)
    → ((r >>= λ a. Ok (f a)) >>= λ b. Ok (g b)) ≡ (r >>= λ a. Ok (g (f a)))
regroup (Ok a) f g = refl
regroup (Err e) f g = refl

abbrev SaysEnd : List (List Piece) → Action → Type 0
SaysEnd os said =
    ((os ≡ []) × (said ≡ action.End None))
    ⊎ ((e : Operand) × Only (Tells e) os × (said ≡ action.End (Some e)))

ended_with : (p : Piece) (ps : List Piece) (a : Action) → SaysEnd (split_commas (p ∷ ps)) a
    → (e : Operand) × Only (Tells e) (split_commas (p ∷ ps)) × (a ≡ action.End (Some e))
ended_with p ps a (inl x) = absurd (no_operands p ps x.0)
ended_with p ps a (inr x) = x

end_alone : (a : Action) → SaysEnd [] a → a ≡ action.End None
end_alone a (inl x) = x.1
end_alone a (inr x) = absurd x.1

end_is : (column : ℕ) (ps : List Piece)
    → Verdict (SaysEnd (split_commas ps)) (split_commas ps) column
    (end_of column ps >>= λ e. Ok (action.End e))
end_is column [] = (inl (refl, refl), λ k d. d, λ b s. end_alone b s)
end_is column (p ∷ ps) =
    carried (λ a. (e : Operand) × Only (Tells e) (split_commas (p ∷ ps)) × (a ≡ action.End (Some e)))
    (SaysEnd (split_commas (p ∷ ps))) (split_commas (p ∷ ps)) column _ (λ a x. inr x)
    (λ a x. ended_with p ps a x)
    (subst (Verdict (λ a. (e : Operand) × Only (Tells e) (split_commas (p ∷ ps)) × (a ≡ action.End (Some e)))
    (split_commas (p ∷ ps)) column)
    (sym (regroup (only_expression column (p ∷ ps)) (λ e. Some e) (λ e. action.End e)))
    (one_expression (λ e. action.End (Some e)) column (p ∷ ps)))

-- ---- directives

pub directed : (column : ℕ) (d : Directive) (ps : List Piece) → InOrder (split_commas ps)
    → Verdict (DirectiveSays d (split_commas ps)) (split_commas ps) column (directive_of column d ps)
unfolding directive_of
directed column directive.Origin ps order = one_expression (λ e. action.Origin e) column ps
directed column directive.Bytes ps order =
    some_operands_are TellsData (λ ds. action.Bytes ds) is_data (data_at column) (data_judged column) data_fit
    column ps order
directed column directive.Words ps order =
    some_operands_are Tells (λ es. action.Words es) is_expression (expression column) (words_judged column)
    words_fit column ps order
directed column directive.Space ps order = one_expression (λ e. action.Space e) column ps
directed column directive.Equate ps order = inl (refl, λ b s. s)
directed column directive.Set ps order = inl (refl, λ b s. s)
directed column directive.If ps order = one_expression (λ e. action.If e) column ps
directed column directive.Else ps order = none action.Else column ps
directed column directive.EndIf ps order = none action.EndIf column ps
directed column directive.End ps order = end_is column ps
