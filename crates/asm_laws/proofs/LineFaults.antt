-- What is known of a line's pieces once they were read: what they say, or which fault comes first.
use Rattle.std.proofs.Common.{◌≡◌, ℕ, ◌+◌, ◌<◌, ◌≤◌, ◌⊎◌, inl, inr, List, [], ◌∷◌, Bool, true, false, refl}
use Rattle.std.proofs.Common.{sym, ap, ◌∙◌, Option, Some, None, Result, Ok, Err, arith}
use Rattle.std.specs.Prelude.{nat_lt}
use Rattle.std.proofs.lemmas.Bool.Decides.{nat_tests}
use Rattle.asm_syntax.specs.declared.fault.FaultKind.{FaultKind}
use Rattle.asm_syntax.specs.declared.fault.FaultKind.TheVariants as kind
use Rattle.asm_syntax.specs.declared.keyword.Keyword.TheVariants as keyword
use Rattle.asm_syntax.specs.declared.statement.Action.{Action}
use Rattle.asm_syntax.specs.declared.statement.Action.TheVariants as action
use Rattle.asm_syntax.specs.declared.statement.Label.{Label}
use Rattle.asm_syntax.specs.declared.statement.Operand.{Operand}
use Rattle.asm_syntax.specs.declared.statement.Operation.{Operation}
use Rattle.asm_syntax.specs.Lexemes.{Lexeme, Piece, Name, Keyword, Overlong}
use Rattle.asm_syntax.specs.Outcome.{Fault, ComesBefore, ◌>>=◌}
use Rattle.asm_syntax.proofs.FirstFaults.{fault_is}
use Rattle.asm_lex.specs.Commas.{split_commas}
use Rattle.asm_lex.specs.Words.{misplaced_from, misplaced_word}
use Rattle.asm_text.specs.declared.lines.Definition.{Definition}
use Rattle.asm_text.specs.Fields.{Field, Empty, Defines, Does, field_by, field_of}
use Rattle.asm_text.specs.Faults.{IsNoName, IsNoOperation, IsMisplaced, StandsAfter, rank}
use Rattle.asm_text.specs.Faults.{IsFirst, order_in_line}
use Rattle.asm_text.specs.Forms.{instruction_of, directive_of}
use Rattle.asm_text.specs.Grammar.{ActionSays, OperationSays, NameSays, Only, Tells}
use Rattle.asm_text.specs.Lines.{unless_misplaced, definition_in, defined_by, only_operand, definition_at}
use Rattle.asm_text.specs.Lines.{action_of, plain_at, operation_by, operation_at}
use Rattle.asm_laws.proofs.OperandForms.{Verdict, one_expression}
use Rattle.asm_laws.proofs.InstructionForms.{instructed}
use Rattle.asm_laws.proofs.DirectiveForms.{Rises, in_order, directed}
use Rattle.asm_laws.proofs.WordFaults.{WordVerdict, words_judged, misplaced_from_on}

-- ---- which comes first

pub no_name_rank : (l : Lexeme) (k : FaultKind) → IsNoName l k → rank k ≡ 1
no_name_rank (Name x) k h = absurd h
no_name_rank (Keyword w) k h = ap rank h
no_name_rank Overlong k h = ap rank h
no_name_rank l k h = ap rank h

pub same_kind : (l : Lexeme) (j k : FaultKind) → IsNoName l j → IsNoName l k → j ≡ k
same_kind (Name x) j k g h = absurd h
same_kind (Keyword w) j k g h = g ∙ sym h
same_kind Overlong j k g h = g ∙ sym h
same_kind l j k g h = g ∙ sym h

lt_or_same : (k c : ℕ) → k ≤ c → (k < c) ⊎ (c ≡ k)
lt_or_same k c le = by (nat_lt k c) refl
  where
    by : (b : Bool) → nat_lt k c ≡ b → (k < c) ⊎ (c ≡ k)
    by true e = let lt : k < c = grind (arith, nat_tests) in inl lt
    by false e =
        let ge : c ≤ k = grind (arith, nat_tests) in
        inr (omega arith)

-- a fault of this rank
abbrev pub Follows : Fault → Fault → Type 0
Follows f g = (g ≡ f) ⊎ ComesBefore (order_in_line f) (order_in_line g)

pub by_rank : (f g : Fault) (m n : ℕ) → rank f.1 ≡ m → rank g.1 ≡ n → m < n → Follows f g
by_rank f g m n fm gn lt = inr (inl (omega arith))

pub by_column : (f g : Fault) (m : ℕ) → rank f.1 ≡ m → rank g.1 ≡ m → f.0 < g.0 → Follows f g
by_column f g m fm gm lt = inr (inr (fm ∙ sym gm, inl lt))

by_place : (f g : Fault) → g.1 ≡ f.1 → f.0 ≤ g.0 → Follows f g
by_place f g same le = by (lt_or_same f.0 g.0 le)
  where
    by : (f.0 < g.0) ⊎ (g.0 ≡ f.0) → Follows f g
    by (inl lt) = inr (inr (ap rank (sym same), inl lt))
    by (inr e) = inl (fault_is f g e same)

pub kind_is : (f g : Fault) → g ≡ f → g.1 ≡ f.1
kind_is f g h = ap (λ (x : Fault). x.1) h

-- ---- an operation

abbrev pub AfterVerdict : Bool → Field → Result (Option Operation) Fault → Type 0
AfterVerdict labelled field (Ok o) =
    OperationSays labelled field o × ((f : Fault) → StandsAfter labelled field f → ⊥)
    × ((x : Option Operation) → OperationSays labelled field x → x ≡ o)
AfterVerdict labelled field (Err f) = IsFirst (StandsAfter labelled field) f

abbrev made : Piece → Action → Operation
made p a = record { column = p.0; action = a }

abbrev done_by : Piece → Result Action Fault → Result (Option Operation) Fault
done_by p r = (r >>= λ a. Ok (made p a)) >>= λ o. Ok (Some o)

done_well : (labelled : Bool) (p : Piece) (rest : List Piece) → (IsNoOperation p.1 → ⊥)
    → ((c : ℕ) → IsMisplaced rest c → ⊥) → (r : Result Action Fault)
    → Verdict (ActionSays p.1 (split_commas rest)) (split_commas rest) p.0 r
    → AfterVerdict labelled (Does p rest) (done_by p r)
done_well labelled p rest good placed (Ok a) v = ((a, v.0, refl), none, same)
  where
    none : (f : Fault) → StandsAfter labelled (Does p rest) f → ⊥
    none f (inl h) = good h.1
    none f (inr (inl w)) = placed f.0 w.1
    none f (inr (inr (inl o))) = o.2 a v.0
    none f (inr (inr (inr d))) = v.1 f.0 d.1

    same : (x : Option Operation) → OperationSays labelled (Does p rest) x → x ≡ Some (made p a)
    same x s = s.2 ∙ ap (λ (b : Action). Some (made p b)) (v.2 s.0 s.1)
done_well labelled p rest good placed (Err f) (inl x) = (inr (inr (inl (x.0, good, x.1))), first)
  where
    is : f.1 ≡ kind.Operands
    is = kind_is (p.0, kind.Operands) f x.0

    first : (g : Fault) → StandsAfter labelled (Does p rest) g → Follows f g
    first g (inl h) = absurd (good h.1)
    first g (inr (inl w)) = absurd (placed g.0 w.1)
    first g (inr (inr (inl o))) = inl (o.0 ∙ sym x.0)
    first g (inr (inr (inr d))) = by_rank f g 2 3 (ap rank is) (ap rank d.0) (omega arith)
done_well labelled p rest good placed (Err f) (inr x) = (inr (inr (inr (x.0, x.1))), first)
  where
    first : (g : Fault) → StandsAfter labelled (Does p rest) g → Follows f g
    first g (inl h) = absurd (good h.1)
    first g (inr (inl w)) = absurd (placed g.0 w.1)
    first g (inr (inr (inl o))) = absurd (o.2 x.3 x.4)
    first g (inr (inr (inr d))) = by_place f g (d.0 ∙ sym x.0) (x.2 g.0 d.1)

acted_by : (labelled : Bool) (p : Piece) (rest : List Piece) → (IsNoOperation p.1 → ⊥)
    → (act : List Piece → Result Action Fault)
    → Verdict (ActionSays p.1 (split_commas rest)) (split_commas rest) p.0 (act rest)
    → (x : Option ℕ) → WordVerdict rest x
    → AfterVerdict labelled (Does p rest) (done_by p (unless_misplaced rest x >>= act))
acted_by labelled p rest good act v None w = done_well labelled p rest good w (act rest) v
acted_by labelled p rest good act v (Some k) w = (inr (inl (refl, w.0)), first)
  where
    first : (g : Fault) → StandsAfter labelled (Does p rest) g → Follows (k, kind.Name) g
    first g (inl h) = absurd (good h.1)
    first g (inr (inl m)) = by_place (k, kind.Name) g m.0 (w.1 g.0 m.1)
    first g (inr (inr (inl o))) =
        by_rank (k, kind.Name) g 1 2 refl (ap rank (kind_is (p.0, kind.Operands) g o.0)) (omega arith)
    first g (inr (inr (inr d))) = by_rank (k, kind.Name) g 1 3 refl (ap rank d.0) (omega arith)

no_operation : (labelled : Bool) (p : Piece) (rest : List Piece) → Rises (p.0 + 1) rest → IsNoOperation p.1
    → IsFirst (StandsAfter labelled (Does p rest)) (p.0, kind.Mnemonic)
no_operation labelled p rest r bad = (inl (refl, bad), first)
  where
    first : (g : Fault) → StandsAfter labelled (Does p rest) g → Follows (p.0, kind.Mnemonic) g
    first g (inl h) = inl h.0
    first g (inr (inl m)) =
        let from = misplaced_from_on rest (p.0 + 1) g.0 r m.1 in
        by_column (p.0, kind.Mnemonic) g 1 refl (ap rank m.0) (omega (arith, from))
    first g (inr (inr (inl o))) = absurd (o.1 bad)
    first g (inr (inr (inr d))) = by_rank (p.0, kind.Mnemonic) g 1 3 refl (ap rank d.0) (omega arith)

lifted : {A B : Type 0} (g : A → B) (says : A → Type 0) (os : List (List Piece)) (column : ℕ)
    (r : Result A Fault)
    → Verdict says os column r
    → Verdict (λ b. (a : A) × says a × (b ≡ g a)) os column (r >>= λ a. Ok (g a))
lifted g says os column (Ok a) v = ((a, v.0, refl), v.1, λ b s. s.2 ∙ ap g (v.2 s.0 s.1))
lifted g says os column (Err f) (inl x) = inl (x.0, λ b s. x.1 s.0 s.1)
lifted g says os column (Err f) (inr x) = inr (x.0, x.1, x.2, g x.3, (x.3, x.4, refl))

plain : (labelled : Bool) (p : Piece) (rest : List Piece) → Rises (p.0 + 1) rest
    → AfterVerdict labelled (Does p rest) (plain_at p rest >>= λ o. Ok (Some o))
unfolding action_of
plain labelled (c, Keyword (keyword.Mnemonic m)) rest r =
    acted_by labelled (c, Keyword (keyword.Mnemonic m)) rest (λ b. b)
    (λ ps. instruction_of c m ps >>= λ i. Ok (action.Instruction i))
    (lifted (λ i. action.Instruction i) _ _ c (instruction_of c m rest) (instructed c m rest))
    (misplaced_word rest) (words_judged rest (c + 1) r)
plain labelled (c, Keyword (keyword.Directive d)) rest r =
    acted_by labelled (c, Keyword (keyword.Directive d)) rest (λ b. b) (directive_of c d)
    (directed c d rest (in_order rest (c + 1) r)) (misplaced_word rest) (words_judged rest (c + 1) r)
plain labelled (c, l) rest r = no_operation labelled (c, l) rest r tt

-- ---- EQU and SET

no_name : (labelled : Bool) (p : Piece) (column : ℕ) (d : Definition) (rest : List Piece) (from : ℕ)
    (k : FaultKind)
    → p.0 < from → Rises from rest → IsNoName p.1 k
    → IsFirst (StandsAfter labelled (Defines p column d rest)) (p.0, k)
no_name labelled p column d rest from k lt r bad = (inl (refl, bad), first)
  where
    one : rank k ≡ 1
    one = no_name_rank p.1 k bad

    first : (g : Fault) → StandsAfter labelled (Defines p column d rest) g → Follows (p.0, k) g
    first g (inl h) = inl (fault_is (p.0, k) g h.0 (same_kind p.1 g.1 k h.1 bad))
    first g (inr (inl m)) =
        let there = misplaced_from_on rest from g.0 r m.1 in
        by_column (p.0, k) g 1 one (ap rank m.0) (omega (arith, there, lt))
    first g (inr (inr (inl o))) =
        by_rank (p.0, k) g 1 2 one (ap rank (kind_is (column, kind.Operands) g o.0)) (omega arith)
    first g (inr (inr (inr e))) = by_rank (p.0, k) g 1 3 one (ap rank e.0) (omega arith)

abbrev setting : ℕ → Definition → Label → Operand → Operation
setting column d x e = record { column = column; action = defined_by d x e }

pub label_same : (x y : Label) → NameSays y (x.column, Name x.name) → y ≡ x
label_same x y h =
    let columns : x.column ≡ y.column = ap (λ (p : Piece). p.0) h in
    let words : Name x.name ≡ Name y.name = ap (λ (p : Piece). p.1) h in
    let names : x.name ≡ y.name = cc in
    ap (λ (c : ℕ). record y { column = c }) (sym columns)
    ∙ ap (λ (n : List ℕ). record { column = x.column; name = n }) (sym names)

set_well : (x : Label) (column : ℕ) (d : Definition) (rest : List Piece) → ((c : ℕ) → IsMisplaced rest c → ⊥)
    → (r : Result Operation Fault)
    → Verdict (λ said. (e : Operand) × Only (Tells e) (split_commas rest) × (said ≡ setting column d x e))
    (split_commas rest) column r
    → AfterVerdict false (Defines (x.column, Name x.name) column d rest) (r >>= λ o. Ok (Some o))
set_well x column d rest placed (Ok o) v =
    ((x, v.0.0, refl, refl, v.0.1, ap (λ (y : Operation). Some y) v.0.2), none, same)
  where
    field : Field
    field = Defines (x.column, Name x.name) column d rest

    none : (f : Fault) → StandsAfter false (Defines (x.column, Name x.name) column d rest) f → ⊥
    none f (inl h) = h.1
    none f (inr (inl w)) = placed f.0 w.1
    none f (inr (inr (inl (is, inl other)))) = cc
    none f (inr (inr (inl (is, inr other)))) = other v.0.0 v.0.1
    none f (inr (inr (inr e))) = v.1 f.0 e.1

    same : (y : Option Operation) → OperationSays false (Defines (x.column, Name x.name) column d rest) y
        → y ≡ Some o
    same y s =
        s.5 ∙ ap (λ (z : Label). Some (setting column d z s.1)) (label_same x s.0 s.2)
        ∙ ap (λ (z : Operation). Some z) (v.2 (setting column d x s.1) (s.1, s.4, refl))
set_well x column d rest placed (Err f) (inl v) =
    (inr (inr (inl (v.0, inr (λ e o. v.1 (setting column d x e) (e, o, refl))))), first)
  where
    is : f.1 ≡ kind.Operands
    is = kind_is (column, kind.Operands) f v.0

    first : (g : Fault) → StandsAfter false (Defines (x.column, Name x.name) column d rest) g → Follows f g
    first g (inl h) = absurd h.1
    first g (inr (inl w)) = absurd (placed g.0 w.1)
    first g (inr (inr (inl o))) = inl (o.0 ∙ sym v.0)
    first g (inr (inr (inr e))) = by_rank f g 2 3 (ap rank is) (ap rank e.0) (omega arith)
set_well x column d rest placed (Err f) (inr v) = (inr (inr (inr (v.0, v.1))), first)
  where
    first : (g : Fault) → StandsAfter false (Defines (x.column, Name x.name) column d rest) g → Follows f g
    first g (inl h) = absurd h.1
    first g (inr (inl w)) = absurd (placed g.0 w.1)
    first g (inr (inr (inl (is, inl other)))) = cc
    first g (inr (inr (inl (is, inr other)))) = absurd (other v.4.0 v.4.1)
    first g (inr (inr (inr e))) = by_place f g (e.0 ∙ sym v.0) (v.2 g.0 e.1)

set_labelled : (x : Label) (column : ℕ) (d : Definition) (rest : List Piece)
    → ((c : ℕ) → IsMisplaced rest c → ⊥)
    → IsFirst (StandsAfter true (Defines (x.column, Name x.name) column d rest)) (column, kind.Operands)
set_labelled x column d rest placed = (inr (inr (inl (refl, inl refl))), first)
  where
    first : (g : Fault) → StandsAfter true (Defines (x.column, Name x.name) column d rest) g
        → Follows (column, kind.Operands) g
    first g (inl h) = absurd h.1
    first g (inr (inl w)) = absurd (placed g.0 w.1)
    first g (inr (inr (inl o))) = inl o.0
    first g (inr (inr (inr e))) = by_rank (column, kind.Operands) g 2 3 refl (ap rank e.0) (omega arith)

abbrev set_by : Bool → Label → ℕ → Definition → Result (List Piece) Fault → Result (Option Operation) Fault
set_by labelled x column d r =
    (r >>= λ ps. only_operand labelled column ps >>= λ e. Ok (setting column d x e)) >>= λ o. Ok (Some o)

named_by : (labelled : Bool) (x : Label) (column : ℕ) (d : Definition) (rest : List Piece) (k : Option ℕ)
    → WordVerdict rest k
    → AfterVerdict labelled (Defines (x.column, Name x.name) column d rest)
    (set_by labelled x column d (unless_misplaced rest k))
named_by true x column d rest None w = set_labelled x column d rest w
named_by false x column d rest None w =
    set_well x column d rest w _ (one_expression (λ e. setting column d x e) column rest)
named_by labelled x column d rest (Some k) w = (inr (inl (refl, w.0)), first)
  where
    first : (g : Fault) → StandsAfter labelled (Defines (x.column, Name x.name) column d rest) g
        → Follows (k, kind.Name) g
    first g (inl h) = absurd h.1
    first g (inr (inl m)) = by_place (k, kind.Name) g m.0 (w.1 g.0 m.1)
    first g (inr (inr (inl o))) =
        by_rank (k, kind.Name) g 1 2 refl (ap rank (kind_is (column, kind.Operands) g o.0)) (omega arith)
    first g (inr (inr (inr e))) = by_rank (k, kind.Name) g 1 3 refl (ap rank e.0) (omega arith)

defined : (labelled : Bool) (p : Piece) (column : ℕ) (d : Definition) (rest : List Piece) (from : ℕ)
    → p.0 < from → Rises from rest
    → AfterVerdict labelled (Defines p column d rest) (definition_at labelled p column d rest >>= λ o. Ok
    (Some o))
unfolding definition_at
defined labelled (c, Name x) column d rest from lt r =
    named_by labelled (record { column = c; name = x }) column d rest (misplaced_word rest)
    (words_judged rest from r)
defined labelled (c, Keyword w) column d rest from lt r =
    no_name labelled (c, Keyword w) column d rest from kind.Name lt r refl
defined labelled (c, Overlong) column d rest from lt r =
    no_name labelled (c, Overlong) column d rest from kind.Name lt r refl
defined labelled (c, l) column d rest from lt r =
    no_name labelled (c, l) column d rest from kind.Mnemonic lt r refl

-- ---- what stands after a label

nothing_stands : (labelled : Bool) (f : Fault) → StandsAfter labelled Empty f → ⊥
unfolding misplaced_from
nothing_stands labelled f (inl h) = h
nothing_stands labelled f (inr (inl w)) = words_judged [] 0 tt f.0 w.1
nothing_stands labelled f (inr (inr (inl o))) = o
nothing_stands labelled f (inr (inr (inr d))) = d.1

pub operated : (labelled : Bool) (qs : List Piece) (column : ℕ) → Rises column qs
    → AfterVerdict labelled (field_of qs) (operation_at labelled qs)
unfolding operation_at
operated labelled [] column r = (refl, nothing_stands labelled, λ x s. s)
operated labelled (p ∷ []) column r = plain labelled p [] r.1
operated labelled (p ∷ q ∷ rest) column r = by (definition_in q.1)
  where
    by : (x : Option Definition) → AfterVerdict labelled (field_by p q rest x)
        (operation_by labelled p q rest x >>= λ o. Ok (Some o))
    by None = plain labelled p (q ∷ rest) r.1
    by (Some d) = let le = r.1.0 in defined labelled p q.0 d rest (q.0 + 1) (omega (arith, le)) r.1.1
