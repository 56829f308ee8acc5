-- What is known of a line once it was read: what it says, or which fault comes first.
use Rattle.std.proofs.Common.{◌≡◌, ℕ, ◌+◌, ◌<◌, ◌≤◌, ◌⊎◌, inl, inr, List, [], ◌∷◌, Bool, true, false, refl}
use Rattle.std.proofs.Common.{sym, ap, ◌∙◌, Option, Some, None, Result, Ok, Err, arith, subst, length}
use Rattle.std.specs.Prelude.{is_some, if◌then◌else◌}
use Rattle.std.proofs.lemmas.Bool.{false≢true}
use Rattle.asm_syntax.specs.declared.fault.FaultKind.{FaultKind}
use Rattle.asm_syntax.specs.declared.fault.FaultKind.TheVariants as kind
use Rattle.asm_syntax.specs.declared.statement.Label.{Label}
use Rattle.asm_syntax.specs.declared.statement.Operation.{Operation}
use Rattle.asm_syntax.specs.declared.statement.Statement.{Statement}
use Rattle.asm_syntax.specs.Ascii.{colon}
use Rattle.asm_syntax.specs.Lexemes.{Lexeme, Piece, Name, Keyword, Overlong, Number, Text, Sign}
use Rattle.asm_syntax.specs.Outcome.{Fault, ◌>>=◌}
use Rattle.asm_syntax.proofs.FirstFaults.{fault_is}
use Rattle.asm_lex.specs.Spelling.{SpellsUpTo, IsToken, Begins}
use Rattle.asm_lex.specs.Tokens.{tokens_of}
use Rattle.asm_laws.proofs.Readings.{tokens_spelled, fault_broken}
use Rattle.asm_lex.specs.Operators.{is_sign}
use Rattle.asm_text.specs.declared.lines.Definition.{Definition}
use Rattle.asm_text.specs.Fields.{Field, Empty, Defines, Does, field_by, field_of, label_field}
use Rattle.asm_text.specs.Faults.{IsNoName, StandsAfter, StandsIn, StandsOn, rank, IsFirst, WrongLabel}
use Rattle.asm_text.specs.Grammar.{OperationSays, LabelSays, Says, LineSays}
use Rattle.asm_text.specs.Lines.{name_at, after_label, label_at, definition_in, operation_at}
use Rattle.asm_text.specs.Lines.{action_of, line_of}
use Rattle.asm_laws.proofs.DirectiveForms.{Rises}
use Rattle.asm_laws.proofs.LineFaults.{AfterVerdict, operated, Follows, by_column, kind_is}
use Rattle.asm_laws.proofs.LineFaults.{no_name_rank, same_kind, label_same}
use Rattle.asm_laws.proofs.WordFaults.{misplaced_from_on}

-- ---- faults after a label

abbrev FieldFrom : ℕ → Field → Type 0
FieldFrom k Empty = Unit {0}
FieldFrom k (Defines p column d rest) = (k ≤ p.0) × Rises k rest
FieldFrom k (Does p rest) = (k ≤ p.0) × Rises k rest

rises_from : (ps : List Piece) (j k : ℕ) → j ≤ k → Rises k ps → Rises j ps
rises_from [] j k le r = tt
rises_from (p ∷ ps) j k le r = let from = r.0 in (omega (arith, le, from), r.1)

field_from : (qs : List Piece) (k : ℕ) → Rises k qs → FieldFrom k (field_of qs)
field_from [] k r = tt
field_from (p ∷ []) k r = (r.0, tt)
field_from (p ∷ q ∷ rest) k r = by (definition_in q.1)
  where
    by : (x : Option Definition) → FieldFrom k (field_by p q rest x)
    by None = let le = r.0 in (r.0, rises_from (q ∷ rest) k (p.0 + 1) (omega (arith, le)) r.1)
    by (Some d) =
        let le = r.0 in
        let more = r.1.0 in
        (r.0, rises_from rest k (q.0 + 1) (omega (arith, le, more)) r.1.1)

abbrev Later : ℕ → Fault → Type 0
Later k g = (1 < rank g.1) ⊎ ((rank g.1 ≡ 1) × (k ≤ g.0))

after_rank : (g : Fault) (k n : ℕ) → rank g.1 ≡ n → 1 < n → Later k g
after_rank g k n is lt = inl (omega (arith, is, lt))

stands_later : (labelled : Bool) (field : Field) (k : ℕ) → FieldFrom k field → (g : Fault)
    → StandsAfter labelled field g → Later k g
stands_later labelled Empty k from g (inl h) = absurd h
stands_later labelled Empty k from g (inr (inl w)) =
    inr (ap rank w.0, misplaced_from_on [] k g.0 tt w.1)
stands_later labelled Empty k from g (inr (inr (inl o))) = absurd o
stands_later labelled Empty k from g (inr (inr (inr d))) = after_rank g k 3 (ap rank d.0) (omega arith)
stands_later labelled (Defines p column d rest) k from g (inl h) =
    let le = from.0 in
    let at = h.0 in
    inr (no_name_rank p.1 g.1 h.1, omega (arith, le, at))
stands_later labelled (Defines p column d rest) k from g (inr (inl w)) =
    inr (ap rank w.0, misplaced_from_on rest k g.0 from.1 w.1)
stands_later labelled (Defines p column d rest) k from g (inr (inr (inl o))) =
    after_rank g k 2 (ap rank (kind_is (column, kind.Operands) g o.0)) (omega arith)
stands_later labelled (Defines p column d rest) k from g (inr (inr (inr e))) =
    after_rank g k 3 (ap rank e.0) (omega arith)
stands_later labelled (Does p rest) k from g (inl h) =
    let le = from.0 in
    let at : g.0 ≡ p.0 = ap (λ (x : Fault). x.0) h.0 in
    inr (ap rank (kind_is (p.0, kind.Mnemonic) g h.0), omega (arith, le, at))
stands_later labelled (Does p rest) k from g (inr (inl w)) =
    inr (ap rank w.0, misplaced_from_on rest k g.0 from.1 w.1)
stands_later labelled (Does p rest) k from g (inr (inr (inl o))) =
    after_rank g k 2 (ap rank (kind_is (p.0, kind.Operands) g o.0)) (omega arith)
stands_later labelled (Does p rest) k from g (inr (inr (inr e))) =
    after_rank g k 3 (ap rank e.0) (omega arith)

-- ---- labels

abbrev Parts : Type 0
Parts = Option Piece × List Piece

abbrev Spoken : Parts → Statement → Type 0
Spoken x s = LabelSays x.0 s.label × OperationSays (is_some x.0) (field_of x.1) s.operation

abbrev Standing : Parts → Fault → Type 0
Standing x f = WrongLabel x.0 f ⊎ StandsAfter (is_some x.0) (field_of x.1) f

abbrev LineVerdict : Parts → Result Statement Fault → Type 0
LineVerdict x (Ok s) =
    Spoken x s × ((f : Fault) → Standing x f → ⊥) × ((t : Statement) → Spoken x t → t ≡ s)
LineVerdict x (Err f) = IsFirst (Standing x) f

abbrev with_operation : Option Label → Result (Option Operation) Fault → Result Statement Fault
with_operation x r = r >>= λ o. Ok (record { label = x; operation = o })

with_label : (l : Option Piece) (x : Option Label) (qs : List Piece) → LabelSays l x
    → ((y : Option Label) → LabelSays l y → y ≡ x) → ((f : Fault) → WrongLabel l f → ⊥)
    → (r : Result (Option Operation) Fault) → AfterVerdict (is_some l) (field_of qs) r
    → LineVerdict (l, qs) (with_operation x r)
with_label l x qs says only well (Ok o) v = ((says, v.0), none, same)
  where
    none : (f : Fault) → Standing (l, qs) f → ⊥
    none f (inl h) = well f h
    none f (inr h) = v.1 f h

    same : (t : Statement) → Spoken (l, qs) t → t ≡ record { label = x; operation = o }
    same t s =
        ap (λ (y : Option Label). record t { label = y }) (only t.label s.0)
        ∙ ap (λ (p : Option Operation). record { label = x; operation = p }) (v.2 t.operation s.1)
with_label l x qs says only well (Err f) v = (inr v.0, first)
  where
    first : (g : Fault) → Standing (l, qs) g → Follows f g
    first g (inl h) = absurd (well g h)
    first g (inr h) = v.1 g h

wrong_label : (p : Piece) (qs : List Piece) (k : FaultKind) → Rises (p.0 + 1) qs → IsNoName p.1 k
    → IsFirst (Standing (Some p, qs)) (p.0, k)
wrong_label p qs k r bad = (inl (refl, bad), first)
  where
    one : rank k ≡ 1
    one = no_name_rank p.1 k bad

    later : (g : Fault) → Later (p.0 + 1) g → Follows (p.0, k) g
    later g (inl h) = inr (inl (omega (arith, one, h)))
    later g (inr h) = let le = h.1 in by_column (p.0, k) g 1 one h.0 (omega (arith, le))

    first : (g : Fault) → Standing (Some p, qs) g → Follows (p.0, k) g
    first g (inl h) = inl (fault_is (p.0, k) g h.0 (same_kind p.1 g.1 k h.1 bad))
    first g (inr h) = later g (stands_later true (field_of qs) (p.0 + 1) (field_from qs (p.0 + 1) r) g h)

unlabelled : (qs : List Piece) (column : ℕ) → Rises column qs
    → LineVerdict (None, qs) (with_operation None (operation_at false qs))
unlabelled qs column r =
    with_label None None qs refl (λ y h. h) (λ f h. h) (operation_at false qs) (operated false qs column r)

label_only : (c : ℕ) (n : List ℕ) (y : Option Label) → LabelSays (Some (c, Name n)) y
    → y ≡ Some (record { column = c; name = n })
label_only c n y h =
    h.2 ∙ ap (λ (z : Label). Some z) (label_same (record { column = c; name = n }) h.0 h.1)

colon_defines_nothing : (l : Lexeme) → is_sign colon l ≡ true → definition_in l ≡ None
colon_defines_nothing (Sign s) h = refl
colon_defines_nothing l h = absurd (false≢true h)

abbrev labelled_by : List Piece → List Piece → Result (Option Label) Fault → Result Statement Fault
labelled_by all rest x =
    (x >>= λ l. Ok (after_label all rest l)) >>= λ l. with_operation l.0 (operation_at (is_some l.0) l.1)

labelled : (p q : Piece) (rest : List Piece) → Rises (p.0 + 1) rest → definition_in q.1 ≡ None
    → LineVerdict (Some p, rest) (labelled_by (p ∷ q ∷ rest) rest (name_at p.0 p.1))
unfolding operation_at action_of
labelled (c, Name x) q rest r none =
    with_label (Some (c, Name x)) (Some (record { column = c; name = x })) rest
    (record { column = c; name = x }, refl, refl) (label_only c x) (λ f h. h.1) (operation_at true rest)
    (operated true rest (c + 1) r)
labelled (c, Keyword w) q rest r none = wrong_label (c, Keyword w) rest kind.Name r refl
labelled (c, Overlong) q rest r none = wrong_label (c, Overlong) rest kind.Name r refl
labelled (c, Number n) q rest r none =
    rw none (wrong_label (c, Number n) rest kind.Mnemonic r refl)
labelled (c, Text t) q rest r none =
    rw none (wrong_label (c, Text t) rest kind.Mnemonic r refl)
labelled (c, Sign s) q rest r none =
    rw none (wrong_label (c, Sign s) rest kind.Mnemonic r refl)

abbrev said : List Piece → Result Statement Fault
said ps = label_at ps >>= λ l. with_operation l.0 (operation_at (is_some l.0) l.1)

lined : (ps : List Piece) (column : ℕ) → Rises column ps → LineVerdict (label_field ps) (said ps)
unfolding label_at
lined [] column r = unlabelled [] column r
lined (p ∷ []) column r = unlabelled (p ∷ []) column r
lined (p ∷ q ∷ rest) column r = by (is_sign colon q.1) refl
  where
    by : (b : Bool) → is_sign colon q.1 ≡ b
        → LineVerdict (if b then (Some p, rest) else (None, p ∷ q ∷ rest))
        ((if b then (name_at p.0 p.1 >>= λ l. Ok (after_label (p ∷ q ∷ rest) rest l)) else Ok
        (None, p ∷ q ∷ rest))
        >>= λ l. with_operation l.0 (operation_at (is_some l.0) l.1))
    by true e =
        let le = r.1.0 in
        labelled p q rest (rises_from rest (p.0 + 1) (q.0 + 1) (omega (arith, le)) r.1.1)
        (colon_defines_nothing q.1 e)
    by false e = unlabelled (p ∷ q ∷ rest) column r

-- ---- columns

some_begins : (test : ℕ → Bool) (text : List ℕ) → Begins test text → 1 ≤ length text
some_begins test [] h = absurd h
some_begins test (b ∷ text) h = omega arith

some_text : (l : Lexeme) (text rest : List ℕ) → IsToken l text rest → 1 ≤ length text
some_text (Name n) text rest t = some_begins _ text t.begins
some_text (Keyword k) text rest t = some_begins _ text t.begins
some_text Overlong text rest t = some_begins _ text t.begins
some_text (Number n) text rest t = some_begins _ text t.0.begins
some_text (Text cs) text rest t = let is = ap length t.quoted in omega (arith, is)
some_text (Sign s) text rest t = let is = ap length t.0 in omega (arith, is)

rises : (ps : List Piece) (column : ℕ) (line : List ℕ) (last : ℕ) (rest : List ℕ)
    → SpellsUpTo column ps line last rest → Rises column ps
rises [] column line last rest s = tt
rises (p ∷ ps) column line last rest s =
    let at = s.5 in
    let some = some_text p.1 s.1 s.2 s.6 in (
      omega (arith, at),
      rises_from ps (p.0 + 1) (p.0 + length s.1) (omega (arith, some))
          (rises ps (p.0 + length s.1) s.2 last rest s.7),
    )

-- ---- the line

abbrev pub OnLine : List ℕ → Result Statement Fault → Type 0
OnLine line (Ok s) =
    LineSays line s × ((f : Fault) → StandsOn line f → ⊥) × ((t : Statement) → LineSays line t → t ≡ s)
OnLine line (Err f) = IsFirst (StandsOn line) f

ok_err : {A : Type 0} (a : A) (f : Fault) → Ok a ≡ Err f → ⊥
ok_err a f h = cc

err_same : {A : Type 0} (f g : Fault) → (r : Result A Fault) → r ≡ Err f → r ≡ Err g → g ≡ f
err_same f g r h i = cc

ok_same : {A : Type 0} (a b : A) → (r : Result A Fault) → r ≡ Ok a → r ≡ Ok b → b ≡ a
ok_same a b r h i = cc

on_line : (line : List ℕ) (ps : List Piece) → tokens_of line ≡ Ok ps → (r : Result Statement Fault)
    → LineVerdict (label_field ps) r → OnLine line r
on_line line ps is (Ok s) v = ((ps, (tokens_spelled line ps).0 is, v.0), none, same)
  where
    none : (f : Fault) → StandsOn line f → ⊥
    none f (inl b) = ok_err ps f (sym is ∙ (fault_broken line f).1 b)
    none f (inr x) =
        let same : x.0 ≡ ps = ok_same ps x.0 (tokens_of line) is ((tokens_spelled line x.0).1 x.1) in
        v.1 f (subst (λ (qs : List Piece). StandsIn qs f) same x.2)

    same : (t : Statement) → LineSays line t → t ≡ s
    same t x =
        let same : x.0 ≡ ps = ok_same ps x.0 (tokens_of line) is ((tokens_spelled line x.0).1 x.1) in
        v.2 t (subst (λ (qs : List Piece). Says qs t) same x.2)
on_line line ps is (Err f) v = (inr (ps, (tokens_spelled line ps).0 is, v.0), first)
  where
    first : (g : Fault) → StandsOn line g → Follows f g
    first g (inl b) = absurd (ok_err ps g (sym is ∙ (fault_broken line g).1 b))
    first g (inr x) =
        let same : x.0 ≡ ps = ok_same ps x.0 (tokens_of line) is ((tokens_spelled line x.0).1 x.1) in
        v.1 g (subst (λ (qs : List Piece). StandsIn qs g) same x.2)

broken : (line : List ℕ) (f : Fault) → tokens_of line ≡ Err f → OnLine line (Err f)
broken line f is = (inl ((fault_broken line f).0 is), first)
  where
    first : (g : Fault) → StandsOn line g → Follows f g
    first g (inl b) = inl (err_same f g (tokens_of line) is ((fault_broken line g).1 b))
    first g (inr x) = absurd (ok_err x.0 f (sym ((tokens_spelled line x.0).1 x.1) ∙ is))

pub line_judged : (line : List ℕ) → OnLine line (line_of line)
unfolding line_of
line_judged line = by (tokens_of line) refl
  where
    by : (r : Result (List Piece) Fault) → tokens_of line ≡ r → OnLine line (r >>= said)
    by (Ok ps) is =
        let s = (tokens_spelled line ps).0 is in
        on_line line ps is (said ps) (lined ps 1 (rises ps 1 line s.0 s.1 s.2))
    by (Err f) is = broken line f is
