-- What is known of lines once they were read: what they say, or which fault comes first.
use Rattle.std.proofs.Common.{◌≡◌, ℕ, ◌+◌, ◌<◌, ◌≤◌, ◌⊎◌, inl, inr, List, [], ◌∷◌, Bool, true, false, refl}
use Rattle.std.proofs.Common.{sym, ap, ◌∙◌, Option, Some, None, Result, Ok, Err, arith, subst, length}
use Rattle.std.specs.Prelude.{if◌then◌else◌, nat_lt, ◌||◌, MatchBool}
use Rattle.std.proofs.lemmas.Bool.Decides.{nat_tests}
use Rattle.std.specs.Str.Lines.{lines}
use Rattle.std.proofs.lemmas.Bool.{false≢true}
use Rattle.asm_syntax.specs.declared.fault.FaultKind.{FaultKind}
use Rattle.asm_syntax.specs.declared.fault.FaultKind.TheVariants as kind
use Rattle.asm_syntax.specs.declared.statement.Action.{Action}
use Rattle.asm_syntax.specs.declared.statement.Action.TheVariants as action
use Rattle.asm_syntax.specs.declared.statement.Operation.{Operation}
use Rattle.asm_syntax.specs.declared.statement.Statement.{Statement}
use Rattle.asm_syntax.specs.Lexemes.{Lexeme, Piece, Name, Keyword, Overlong}
use Rattle.asm_syntax.specs.Outcome.{Fault, CellFault, ComesBefore, ◌>>=◌, at_line}
use Rattle.asm_lex.specs.Spelling.{IsWrong}
use Rattle.asm_text.specs.declared.open_if.OpenIf.{OpenIf}
use Rattle.asm_text.specs.Cells.{LinesSay, EndsText, LineFault, left_open, Unmatched, Unclosed, IfFault}
use Rattle.asm_text.specs.Cells.{IsTooLong, StandsInText, stage, order, IsFaultOf}
use Rattle.asm_text.specs.Conditionals.{with_else, at_if, at_else, open_after_action, open_after, all_closed}
use Rattle.asm_text.specs.Faults.{IsNoName, StandsAfter, StandsIn, StandsOn, WrongLabel, rank}
use Rattle.asm_text.specs.Fields.{Field, Empty, Defines, Does, label_of, operation_of}
use Rattle.asm_text.specs.Lines.{line_of}
use Rattle.asm_text.specs.Statements.{is_end_action, with_open, step_of, then_lines, statements_from}
use Rattle.asm_text.specs.Statements.{statements_of}
use Rattle.asm_laws.proofs.LineFaults.{Follows}
use Rattle.asm_laws.proofs.StatementFaults.{OnLine, line_judged}

-- ---- which comes first

abbrev Next : CellFault → CellFault → Type 0
Next g h = (h ≡ g) ⊎ ComesBefore (order g) (order h)

by_stage : (g h : CellFault) (m n : ℕ) → stage g.2 ≡ m → stage h.2 ≡ n → m < n → Next g h
by_stage g h m n gm hn lt = inr (inl (omega arith))

by_line : (g h : CellFault) → stage g.2 ≡ 1 → stage h.2 ≡ 1 → g.0 < h.0 → Next g h
by_line g h gs hs lt = inr (inr (gs ∙ sym hs, inl lt))

cell_fault_is : (g h : CellFault) → h.0 ≡ g.0 → h.1 ≡ g.1 → h.2 ≡ g.2 → h ≡ g
cell_fault_is g h l c k =
    ap (λ (x : ℕ). (x, h.1, h.2)) l ∙ ap (λ (x : ℕ). (g.0, x, h.2)) c
    ∙ ap (λ (x : FaultKind). (g.0, g.1, x)) k

on_one_line : (g h : CellFault) → stage g.2 ≡ 1 → stage h.2 ≡ 1 → g.0 ≡ h.0
    → Follows (g.1, g.2) (h.1, h.2) → Next g h
on_one_line g h gs hs at (inl e) =
    let columns : h.1 ≡ g.1 = ap (λ (x : Fault). x.0) e in
    let kinds : h.2 ≡ g.2 = ap (λ (x : Fault). x.1) e in
    inl (cell_fault_is g h (sym at) columns kinds)
on_one_line g h gs hs at (inr x) = inr (inr (gs ∙ sym hs, inr (at, x)))

-- ---- kinds of a line's faults

abbrev IsOnLine : FaultKind → Type 0
IsOnLine k = (rank k ≤ 3) × (stage k ≡ 1)

is_kind : (j k : FaultKind) → k ≡ j → IsOnLine j → IsOnLine k
is_kind j k is h = subst IsOnLine (sym is) h

name_kind : IsOnLine kind.Name
name_kind = (omega arith, refl)

mnemonic_kind : IsOnLine kind.Mnemonic
mnemonic_kind = (omega arith, refl)

operands_kind : IsOnLine kind.Operands
operands_kind = (omega arith, refl)

nesting_kind : IsOnLine kind.Nesting
nesting_kind = (omega arith, refl)

wrong_kind : (k : FaultKind) (line : List ℕ) → IsWrong k line → IsOnLine k
wrong_kind kind.Character line w = (omega arith, refl)
wrong_kind kind.Number line w = (omega arith, refl)
wrong_kind kind.Text line w = (omega arith, refl)
wrong_kind k line w = absurd w

no_name_kind : (l : Lexeme) (k : FaultKind) → IsNoName l k → IsOnLine k
no_name_kind (Name x) k h = absurd h
no_name_kind (Keyword w) k h = is_kind kind.Name k h name_kind
no_name_kind Overlong k h = is_kind kind.Name k h name_kind
no_name_kind l k h = is_kind kind.Mnemonic k h mnemonic_kind

second : (f g : Fault) → f ≡ g → f.1 ≡ g.1
second f g h = ap (λ (x : Fault). x.1) h

after_kind : (labelled : Bool) (field : Field) (f : Fault) → StandsAfter labelled field f → IsOnLine f.1
after_kind labelled Empty f (inl h) = absurd h
after_kind labelled (Defines p column d rest) f (inl h) = no_name_kind p.1 f.1 h.1
after_kind labelled (Does p rest) f (inl h) = is_kind _ f.1 (second f (p.0, kind.Mnemonic) h.0) mnemonic_kind
after_kind labelled field f (inr (inl w)) = is_kind _ f.1 w.0 name_kind
after_kind labelled Empty f (inr (inr (inl o))) = absurd o
after_kind labelled (Defines p column d rest) f (inr (inr (inl o))) =
    is_kind _ f.1 (second f (column, kind.Operands) o.0) operands_kind
after_kind labelled (Does p rest) f (inr (inr (inl o))) =
    is_kind _ f.1 (second f (p.0, kind.Operands) o.0) operands_kind
after_kind labelled field f (inr (inr (inr d))) = is_kind _ f.1 d.0 nesting_kind

label_kind : (l : Option Piece) (f : Fault) → WrongLabel l f → IsOnLine f.1
label_kind None f h = absurd h
label_kind (Some p) f h = no_name_kind p.1 f.1 h.1

in_kind : (ps : List Piece) (f : Fault) → StandsIn ps f → IsOnLine f.1
in_kind ps f (inl h) = label_kind (label_of ps) f h
in_kind ps f (inr h) = after_kind _ (operation_of ps) f h

on_kind : (line : List ℕ) (f : Fault) → StandsOn line f → IsOnLine f.1
on_kind line f (inl b) = wrong_kind f.1 b.1 b.3
on_kind line f (inr x) = in_kind x.0 f x.2

line_from : (ls : List (List ℕ)) (n : ℕ) (g : CellFault) → LineFault n ls g → (n ≤ g.0) × (stage g.2 ≡ 1)
line_from [] n g h = absurd h
line_from (l ∷ ls) n g (inl h) = let at = h.0 in (omega (arith, at), (on_kind l (g.1, g.2) h.1).1)
line_from (l ∷ ls) n g (inr h) =
    let more = line_from ls (n + 1) g h.1 in
    let le = more.0 in
    (omega (arith, le), more.1)

-- ---- IFs

abbrev Third : CellFault → ℕ → Type 0
Third g n = (stage g.2 ≡ 2) ⊎ ((stage g.2 ≡ 1) × (n ≤ g.0))

unclosed_stage : (os : List OpenIf) (g : CellFault) → Unclosed os g → stage g.2 ≡ 2
unclosed_stage [] g h = absurd h
unclosed_stage (o ∷ os) g h = ap (λ (x : CellFault). stage x.2) h

unmatched_kind : (os : List OpenIf) (o : Option Operation) (f : Fault) → Unmatched os o f
    → (rank f.1 ≡ 4) × (stage f.1 ≡ 1)
unmatched_kind os None f h = absurd h
unmatched_kind os (Some o) f h =
    (ap (λ (x : Fault). rank x.1) h.0, ap (λ (x : Fault). stage x.1) h.0)

-- on the line of this statement or after it
abbrev Here : ℕ → List OpenIf → List (List ℕ) → CellFault → Statement → Type 0
Here n os ls g s =
    ((g.0 ≡ n) × Unmatched os s.operation (g.1, g.2))
    ⊎ MatchBool (is_end_action s.operation) (Unclosed (left_open n s.operation os) g)
    (IfFault (n + 1) (left_open n s.operation os) ls g)

one_less : (g : CellFault) (n : ℕ) → Third g (n + 1) → Third g n
one_less g n (inl s) = inl s
one_less g n (inr x) = let le = x.1 in inr (x.0, omega (arith, le))

if_from : (ls : List (List ℕ)) (n : ℕ) (os : List OpenIf) (g : CellFault) → IfFault n os ls g → Third g n
if_from [] n os g h = inl (unclosed_stage os g h)
if_from (l ∷ ls) n os g h =
    by (λ ps x. if_from ls (n + 1) ps g x) h.2
  where
    rest : ((ps : List OpenIf) → IfFault (n + 1) ps ls g → Third g (n + 1)) → (b : Bool)
        → MatchBool b (Unclosed (left_open n h.0.operation os) g)
        (IfFault (n + 1) (left_open n h.0.operation os) ls g)
        → Third g n
    rest more true m = inl (unclosed_stage (left_open n h.0.operation os) g m)
    rest more false m = one_less g n (more (left_open n h.0.operation os) m)

    by : ((ps : List OpenIf) → IfFault (n + 1) ps ls g → Third g (n + 1)) → Here n os ls g h.0 → Third g n
    by more (inl x) =
        let at = x.0 in
        inr ((unmatched_kind os h.0.operation (g.1, g.2) x.1).1, omega (arith, at))
    by more (inr m) = rest more (is_end_action h.0.operation) m

-- what is open after a statement, or what is wrong with it
abbrev OpenVerdict : ℕ → Option Operation → List OpenIf → Result (List OpenIf) Fault → Type 0
OpenVerdict n o os (Ok ps) = (left_open n o os ≡ ps) × ((f : Fault) → Unmatched os o f → ⊥)
OpenVerdict n o os (Err f) = Unmatched os o f × ((g : Fault) → Unmatched os o g → g ≡ f)

acted : (n c : ℕ) (a : Action) (os : List OpenIf)
    → OpenVerdict n (Some (record { column = c; action = a })) os (open_after_action n c a os)
acted n c (action.If e) os = by (nat_lt (length os) 16) refl
  where
    by : (b : Bool) → nat_lt (length os) 16 ≡ b
        → OpenVerdict n (Some (record { column = c; action = action.If e })) os (at_if n c os)
    by true is =
        let lt : length os < 16 = grind (arith, nat_tests) in
        rw is (refl, λ f h. let ge = h.1 in absurd (omega (arith, lt, ge)))
    by false is =
        let ge : 16 ≤ length os = grind (arith, nat_tests) in
        rw is ((refl, ge), λ g h. h.0)
acted n c action.Else [] = ((refl, tt), λ g h. h.0)
acted n c action.Else (o ∷ os) = by o.has_else refl
  where
    by : (b : Bool) → o.has_else ≡ b
        → OpenVerdict n (Some (record { column = c; action = action.Else })) (o ∷ os) (at_else c (o ∷ os))
    by true is =
        let read : at_else c (o ∷ os) ≡ Err (c, kind.Conditional false) = rw is refl in
        subst (OpenVerdict n (Some (record { column = c; action = action.Else })) (o ∷ os)) (sym read)
        ((refl, is), λ g h. h.0)
    by false is =
        let read : at_else c (o ∷ os) ≡ Ok (with_else o ∷ os) = rw is refl in
        subst (OpenVerdict n (Some (record { column = c; action = action.Else })) (o ∷ os)) (sym read)
        (refl, λ f h. false≢true (sym is ∙ h.1))
acted n c action.EndIf [] = ((refl, tt), λ g h. h.0)
acted n c action.EndIf (o ∷ os) = (refl, λ f h. h.1)
acted n c a os = (refl, λ f h. h.1)

opened : (n : ℕ) (o : Option Operation) (os : List OpenIf) → OpenVerdict n o os (open_after n o os)
opened n None os = (refl, λ f h. h)
opened n (Some o) os = acted n o.column o.action os

-- ---- lines

abbrev LinesFault : ℕ → List OpenIf → List (List ℕ) → CellFault → Type 0
LinesFault n os ls g = LineFault n ls g ⊎ IfFault n os ls g

abbrev Verdict : ℕ → List OpenIf → List (List ℕ) → Result (List Statement) CellFault → Type 0
Verdict n os ls (Ok ss) =
    LinesSay ls ss × ((g : CellFault) → LinesFault n os ls g → ⊥)
    × ((ts : List Statement) → LinesSay ls ts → ts ≡ ss)
Verdict n os ls (Err g) = LinesFault n os ls g × ((h : CellFault) → LinesFault n os ls h → Next g h)

ended : (n : ℕ) (os : List OpenIf) → Verdict n os [] (all_closed [] os)
ended n [] = (tt, none, same)
  where
    none : (g : CellFault) → LinesFault n [] [] g → ⊥
    none g (inl h) = h
    none g (inr h) = h

    same : (ts : List Statement) → LinesSay [] ts → ts ≡ []
    same [] h = refl
    same (t ∷ ts) h = absurd h
ended n (o ∷ os) = (inr refl, first)
  where
    first : (h : CellFault) → LinesFault n (o ∷ os) [] h → Next (o.line, o.column, kind.Conditional true) h
    first h (inl x) = absurd x
    first h (inr x) = inl x

-- a line's own fault
broken : (n : ℕ) (os : List OpenIf) (l : List ℕ) (ls : List (List ℕ)) (f : Fault) → OnLine l (Err f)
    → Verdict n os (l ∷ ls) (Err (n, f.0, f.1))
broken n os l ls f v = (inl (inl (refl, v.0)), first)
  where
    g : CellFault
    g = (n, f.0, f.1)

    one : stage f.1 ≡ 1
    one = (on_kind l f v.0).1

    low : rank f.1 ≤ 3
    low = (on_kind l f v.0).0

    after : (h : CellFault) → Third h (n + 1) → Next (n, f.0, f.1) h
    after h (inl s) = by_stage (n, f.0, f.1) h 1 2 one s (omega arith)
    after h (inr x) = let le = x.1 in by_line (n, f.0, f.1) h one x.0 (omega (arith, le))

    ended_if : (h : CellFault) (s : Statement) → (b : Bool)
        → MatchBool b (Unclosed (left_open n s.operation os) h)
        (IfFault (n + 1) (left_open n s.operation os) ls h)
        → Next (n, f.0, f.1) h
    ended_if h s true m = after h (inl (unclosed_stage (left_open n s.operation os) h m))
    ended_if h s false m = after h (if_from ls (n + 1) (left_open n s.operation os) h m)

    here : (h : CellFault) (s : Statement) → Here n os ls h s → Next (n, f.0, f.1) h
    here h s (inl x) =
        let k = unmatched_kind os s.operation (h.1, h.2) x.1 in
        let four = k.0 in
        on_one_line (n, f.0, f.1) h one k.1 (sym x.0) (inr (inl (omega (arith, low, four))))
    here h s (inr m) = ended_if h s (is_end_action s.operation) m

    first : (h : CellFault) → LinesFault n os (l ∷ ls) h → Next (n, f.0, f.1) h
    first h (inl (inl x)) =
        on_one_line (n, f.0, f.1) h one (on_kind l (h.1, h.2) x.1).1 (sym x.0) (v.1 (h.1, h.2) x.1)
    first h (inl (inr x)) =
        let k = line_from ls (n + 1) h x.1 in
        after h (inr (k.1, k.0))
    first h (inr x) = here h x.0 x.2

-- ---- a line that says a statement

-- what else is wrong, given what the line says
abbrev Rest : ℕ → List OpenIf → List ℕ → List (List ℕ) → Statement → CellFault → Type 0
Rest n os l ls s h = ((EndsText l → ⊥) × LineFault (n + 1) ls h) ⊎ Here n os ls h s

rest_of : (n : ℕ) (os : List OpenIf) (l : List ℕ) (ls : List (List ℕ)) (s : Statement) → OnLine l (Ok s)
    → (h : CellFault) → LinesFault n os (l ∷ ls) h → Rest n os l ls s h
rest_of n os l ls s v h (inl (inl x)) = absurd (v.1 (h.1, h.2) x.1)
rest_of n os l ls s v h (inl (inr x)) = inl x
rest_of n os l ls s v h (inr x) = inr (subst (Here n os ls h) (v.2 x.0 x.1) x.2)

fault_of : (n : ℕ) (os : List OpenIf) (l : List ℕ) (ls : List (List ℕ)) (s : Statement) → OnLine l (Ok s)
    → (h : CellFault) → Rest n os l ls s h → LinesFault n os (l ∷ ls) h
fault_of n os l ls s v h (inl x) = inl (inr x)
fault_of n os l ls s v h (inr x) = inr (s, v.0, x)

unmatched : (n : ℕ) (os : List OpenIf) (l : List ℕ) (ls : List (List ℕ)) (s : Statement) (f : Fault)
    → OnLine l (Ok s) → OpenVerdict n s.operation os (Err f) → Verdict n os (l ∷ ls) (Err (n, f.0, f.1))
unmatched n os l ls s f v w = (fault_of n os l ls s v (n, f.0, f.1) (inr (inl (refl, w.0))), first)
  where
    one : stage f.1 ≡ 1
    one = (unmatched_kind os s.operation f w.0).1

    after : (h : CellFault) → Third h (n + 1) → Next (n, f.0, f.1) h
    after h (inl k) = by_stage (n, f.0, f.1) h 1 2 one k (omega arith)
    after h (inr x) = let le = x.1 in by_line (n, f.0, f.1) h one x.0 (omega (arith, le))

    ended_if : (h : CellFault) → (b : Bool)
        → MatchBool b (Unclosed (left_open n s.operation os) h)
        (IfFault (n + 1) (left_open n s.operation os) ls h)
        → Next (n, f.0, f.1) h
    ended_if h true m = after h (inl (unclosed_stage (left_open n s.operation os) h m))
    ended_if h false m = after h (if_from ls (n + 1) (left_open n s.operation os) h m)

    by : (h : CellFault) → Rest n os l ls s h → Next (n, f.0, f.1) h
    by h (inl x) = let k = line_from ls (n + 1) h x.1 in after h (inr (k.1, k.0))
    by h (inr (inl x)) =
        on_one_line (n, f.0, f.1) h one (unmatched_kind os s.operation (h.1, h.2) x.1).1 (sym x.0)
        (inl (w.1 (h.1, h.2) x.1))
    by h (inr (inr m)) = ended_if h (is_end_action s.operation) m

    first : (h : CellFault) → LinesFault n os (l ∷ ls) h → Next (n, f.0, f.1) h
    first h x = by h (rest_of n os l ls s v h x)

-- what follows a statement, which is END or not
abbrev More : List (List ℕ) → List Statement → Bool → Type 0
More ls ss b = MatchBool b (ss ≡ []) (LinesSay ls ss)

abbrev After : ℕ → List OpenIf → List (List ℕ) → Statement → CellFault → Bool → Type 0
After n os ls s g b =
    MatchBool b (Unclosed (left_open n s.operation os) g)
    (IfFault (n + 1) (left_open n s.operation os) ls g)

last_says : (l : List ℕ) (ls : List (List ℕ)) (s : Statement) → OnLine l (Ok s)
    → is_end_action s.operation ≡ true → LinesSay (l ∷ ls) (s ∷ [])
last_says l ls s v e = (v.0, subst (More ls []) (sym e) refl)

last_only : (l : List ℕ) (ls : List (List ℕ)) (s : Statement) → OnLine l (Ok s)
    → is_end_action s.operation ≡ true → (ts : List Statement) → LinesSay (l ∷ ls) ts → ts ≡ s ∷ []
last_only l ls s v e [] h = absurd h
last_only l ls s v e (t ∷ ts) h =
    let same : t ≡ s = v.2 t h.0 in
    let is : is_end_action t.operation ≡ true = ap (λ (x : Statement). is_end_action x.operation) same ∙ e in
    let no_more : ts ≡ [] = subst (More ls ts) is h.1 in
    ap (λ (x : Statement). x ∷ ts) same ∙ ap (λ (x : List Statement). s ∷ x) no_more

last : (n : ℕ) (os ps : List OpenIf) (l : List ℕ) (ls : List (List ℕ)) (s : Statement) → OnLine l (Ok s)
    → OpenVerdict n s.operation os (Ok ps) → is_end_action s.operation ≡ true
    → Verdict n os (l ∷ ls) (all_closed (s ∷ []) ps)
last n os [] l ls s v w e = (last_says l ls s v e, none, last_only l ls s v e)
  where
    by : (g : CellFault) → Rest n os l ls s g → ⊥
    by g (inl x) = x.0 (s, v.0, e)
    by g (inr (inl x)) = w.1 (g.1, g.2) x.1
    by g (inr (inr m)) =
        subst (λ (ps : List OpenIf). Unclosed ps g) w.0 (subst (After n os ls s g) e m)

    none : (g : CellFault) → LinesFault n os (l ∷ ls) g → ⊥
    none g x = by g (rest_of n os l ls s v g x)
last n os (o ∷ ps) l ls s v w e = (
  fault_of n os l ls s v (o.line, o.column, kind.Conditional true)
      represents,
  first,
)
  where
    represents : Rest n os l ls s (o.line, o.column, kind.Conditional true)
    represents =
        inr (inr (subst (After n os ls s (o.line, o.column, kind.Conditional true)) (sym e)
        (subst (λ (ps : List OpenIf). Unclosed ps (o.line, o.column, kind.Conditional true)) (sym w.0) refl)))

    by : (h : CellFault) → Rest n os l ls s h → Next (o.line, o.column, kind.Conditional true) h
    by h (inl x) = absurd (x.0 (s, v.0, e))
    by h (inr (inl x)) = absurd (w.1 (h.1, h.2) x.1)
    by h (inr (inr m)) =
        inl (subst (λ (ps : List OpenIf). Unclosed ps h) w.0 (subst (After n os ls s h) e m))

    first : (h : CellFault) → LinesFault n os (l ∷ ls) h → Next (o.line, o.column, kind.Conditional true) h
    first h x = by h (rest_of n os l ls s v h x)

-- what stands before other lines
goes_on : (n : ℕ) (os ps : List OpenIf) (l : List ℕ) (ls : List (List ℕ)) (s : Statement) → OnLine l (Ok s)
    → OpenVerdict n s.operation os (Ok ps) → is_end_action s.operation ≡ false
    → (r : Result (List Statement) CellFault) → Verdict (n + 1) ps ls r
    → Verdict n os (l ∷ ls) (r >>= λ ss. Ok (s ∷ ss))
goes_on n os ps l ls s v w e (Ok ss) m =
    ((v.0, subst (More ls ss) (sym e) m.0), none, same)
  where
    by : (g : CellFault) → Rest n os l ls s g → ⊥
    by g (inl x) = m.1 g (inl x.1)
    by g (inr (inl x)) = w.1 (g.1, g.2) x.1
    by g (inr (inr x)) =
        m.1 g (inr (subst (λ (qs : List OpenIf). IfFault (n + 1) qs ls g) w.0
        (subst (After n os ls s g) e x)))

    none : (g : CellFault) → LinesFault n os (l ∷ ls) g → ⊥
    none g x = by g (rest_of n os l ls s v g x)

    same : (ts : List Statement) → LinesSay (l ∷ ls) ts → ts ≡ s ∷ ss
    same [] h = absurd h
    same (t ∷ ts) h =
        let is : t ≡ s = v.2 t h.0 in
        let on : is_end_action t.operation ≡ false = ap (λ (x : Statement). is_end_action x.operation) is
        ∙ e in
        let more : ts ≡ ss = m.2 ts (subst (More ls ts) on h.1) in
        ap (λ (x : Statement). x ∷ ts) is ∙ ap (λ (x : List Statement). s ∷ x) more
goes_on n os ps l ls s v w e (Err g) m = (fault_of n os l ls s v g (represents m.0), first)
  where
    no_end : EndsText l → ⊥
    no_end x =
        let is : is_end_action x.0.operation ≡ is_end_action s.operation =
        ap (λ (t : Statement). is_end_action t.operation) (v.2 x.0 x.1) in
        false≢true (sym e ∙ sym is ∙ x.2)

    represents : LinesFault (n + 1) ps ls g → Rest n os l ls s g
    represents (inl x) = inl (no_end, x)
    represents (inr x) =
        inr (inr (subst (After n os ls s g) (sym e)
        (subst (λ (qs : List OpenIf). IfFault (n + 1) qs ls g) (sym w.0) x)))

    by : (h : CellFault) → Rest n os l ls s h → Next g h
    by h (inl x) = m.1 h (inl x.1)
    by h (inr (inl x)) = absurd (w.1 (h.1, h.2) x.1)
    by h (inr (inr x)) =
        m.1 h (inr (subst (λ (qs : List OpenIf). IfFault (n + 1) qs ls h) w.0
        (subst (After n os ls s h) e x)))

    first : (h : CellFault) → LinesFault n os (l ∷ ls) h → Next g h
    first h x = by h (rest_of n os l ls s v h x)

stepped : (n : ℕ) (os : List OpenIf) (l : List ℕ) (ls : List (List ℕ)) (s : Statement)
    → ((ps : List OpenIf) → Verdict (n + 1) ps ls (statements_from (n + 1) ps ls)) → OnLine l (Ok s)
    → step_of n os l ≡ at_line n (with_open n os s)
    → Verdict n os (l ∷ ls) (statements_from n os (l ∷ ls))
unfolding statements_from
stepped n os l ls s more v is = rw is (by (open_after n s.operation os) (opened n s.operation os))
  where
    on : (ps : List OpenIf) → OpenVerdict n s.operation os (Ok ps) → (b : Bool)
        → is_end_action s.operation ≡ b
        → Verdict n os (l ∷ ls) (if b then all_closed (s ∷ []) ps
        else (statements_from (n + 1) ps ls >>= λ ss. Ok (s ∷ ss)))
    on ps w true e = last n os ps l ls s v w e
    on ps w false e = goes_on n os ps l ls s v w e (statements_from (n + 1) ps ls) (more ps)

    by : (r : Result (List OpenIf) Fault) → OpenVerdict n s.operation os r
        → Verdict n os (l ∷ ls) (at_line n (r >>= λ ps. Ok (s, ps)) >>= λ x. then_lines x
        (statements_from (n + 1) x.1 ls))
    by (Ok ps) w = on ps w (is_end_action s.operation) refl
    by (Err f) w = unmatched n os l ls s f v w

lines_judged : (ls : List (List ℕ)) (n : ℕ) (os : List OpenIf) → Verdict n os ls (statements_from n os ls)
unfolding statements_from step_of
lines_judged [] n os = ended n os
lines_judged (l ∷ ls) n os =
    by (λ ps. lines_judged ls (n + 1) ps) (line_of l) refl (line_judged l)
  where
    by : ((ps : List OpenIf) → Verdict (n + 1) ps ls (statements_from (n + 1) ps ls))
        → (r : Result Statement Fault) → line_of l ≡ r → OnLine l r
        → Verdict n os (l ∷ ls) (statements_from n os (l ∷ ls))
    by more (Ok s) is v = stepped n os l ls s more v (rw is refl)
    by more (Err f) is v = rw is (broken n os l ls f v)

-- ---- texts

abbrev pub OfText : List ℕ → Result (List Statement) CellFault → Type 0
OfText text (Ok ss) =
    LinesSay (lines text) ss × ((g : CellFault) → StandsInText text g → ⊥)
    × ((ts : List Statement) → LinesSay (lines text) ts → ts ≡ ss)
OfText text (Err g) = IsFaultOf text g

third_after : (g h : CellFault) → stage g.2 ≡ 0 → 1 ≤ stage h.2 → Next g h
third_after g h zero some = inr (inl (omega (arith, zero, some)))

too_long : (text : List ℕ) → IsTooLong text → IsFaultOf text (1, 1, kind.TooLong)
too_long text long = (inl (long, refl), first)
  where
    after : (h : CellFault) → Third h 1 → Next (1, 1, kind.TooLong) h
    after h (inl s) = third_after (1, 1, kind.TooLong) h refl (omega (arith, s))
    after h (inr x) = let s = x.0 in third_after (1, 1, kind.TooLong) h refl (omega (arith, s))

    first : (h : CellFault) → StandsInText text h → Next (1, 1, kind.TooLong) h
    first h (inl x) = inl x.1
    first h (inr (inl x)) = let k = line_from (lines text) 1 h x in after h (inr (k.1, k.0))
    first h (inr (inr x)) = after h (if_from (lines text) 1 [] h x)

short : (text : List ℕ) → (IsTooLong text → ⊥) → (r : Result (List Statement) CellFault)
    → Verdict 1 [] (lines text) r → OfText text r
short text fits (Ok ss) v = (v.0, none, v.2)
  where
    none : (g : CellFault) → StandsInText text g → ⊥
    none g (inl x) = fits x.0
    none g (inr x) = v.1 g x
short text fits (Err g) v = (inr v.0, first)
  where
    first : (h : CellFault) → StandsInText text h → Next g h
    first h (inl x) = absurd (fits x.0)
    first h (inr x) = v.1 h x

long_if : (m n : ℕ) (text : List ℕ) → length text ≡ m → length (lines text) ≡ n
    → (nat_lt 1048576 m || nat_lt 65537 n) ≡ true → IsTooLong text
long_if m n text em en h = by (nat_lt 1048576 m) refl
  where
    by : (b : Bool) → nat_lt 1048576 m ≡ b → IsTooLong text
    by true e = let lt : 1048576 < m = grind (arith, nat_tests) in inl (omega (arith, lt, em))
    by false e =
        let f : nat_lt 65537 n ≡ true = rw e at h in
        let lt : 65537 < n = grind (arith, nat_tests) in
        inr (omega (arith, lt, en))

fits_if : (m n : ℕ) (text : List ℕ) → length text ≡ m → length (lines text) ≡ n
    → (nat_lt 1048576 m || nat_lt 65537 n) ≡ false → IsTooLong text → ⊥
fits_if m n text em en h (inl x) =
    let lt : 1048576 < m = omega (arith, x, em) in
    let e : nat_lt 1048576 m ≡ true = grind (arith, nat_tests) in
    false≢true (sym (rw e at h))
fits_if m n text em en h (inr x) = by (nat_lt 1048576 m) refl
  where
    by : (b : Bool) → nat_lt 1048576 m ≡ b → ⊥
    by true e = false≢true (sym (rw e at h))
    by false e =
        let lt : 65537 < n = omega (arith, x, en) in
        let f : nat_lt 65537 n ≡ true = grind (arith, nat_tests) in
        let i : nat_lt 65537 n ≡ false = rw e at h in
        false≢true (sym i ∙ f)

pub text_judged : (text : List ℕ) → OfText text (statements_of text)
unfolding statements_of
text_judged text = by (nat_lt 1048576 (length text) || nat_lt 65537 (length (lines text))) refl
  where
    by : (b : Bool) → (nat_lt 1048576 (length text) || nat_lt 65537 (length (lines text))) ≡ b
        → OfText text (if b then Err (1, 1, kind.TooLong) else statements_from 1 [] (lines text))
    by true e = too_long text (long_if (length text) (length (lines text)) text refl refl e)
    by false e =
        short text (fits_if (length text) (length (lines text)) text refl refl e)
        (statements_from 1 [] (lines text)) (lines_judged (lines text) 1 [])
