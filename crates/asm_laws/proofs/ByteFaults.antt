-- What is known of a line once its bytes were put: which addresses have one, or which fault comes first.
use Rattle.std.proofs.Common.{◌≡◌, ℕ, zero, suc, ◌+◌, ◌%◌, ◌<◌, ◌⊎◌, inl, inr, List, [], ◌∷◌, ◌++◌, Bool}
use Rattle.std.proofs.Common.{true, false, ◌||◌, length, refl, sym, ap, ◌∙◌, subst, arith, Option, Some, None}
use Rattle.std.proofs.Common.{Result, Ok, Err, Any, get_or, ◌==◌}
use Rattle.std.specs.Prelude.{if◌then◌else◌}
use Rattle.std.specs.Bool.{Decides}
use Rattle.std.specs.List.{list_any}
use Rattle.std.proofs.Math.Nat.{mod-add-mod}
use Rattle.std.proofs.lemmas.Bool.Decides.{Decides-eqb}
use Rattle.std.proofs.lemmas.List.Folds.{list_any-append}
use Rattle.std.proofs.lemmas.Bool.{false≢true}
use Rattle.asm_syntax.specs.declared.fault.FaultKind.TheVariants as fault
use Rattle.asm_syntax.specs.declared.statement.Operation.{Operation}
use Rattle.asm_syntax.specs.declared.statement.Statement.{Statement}
use Rattle.asm_syntax.specs.Outcome.{Fault, ◌>>=◌}
use Rattle.asm_encode.specs.Bytes.{bytes_of, start_of}
use Rattle.asm_build.specs.declared.laid.Laid.{Laid}
use Rattle.asm_build.specs.Images.{has}
use Rattle.asm_build.specs.Statements.{late_in}
use Rattle.asm_build.specs.Reading.{Entries, Lines, late_value}
use Rattle.asm_build.specs.Meaning.{Output, at_address, overlaps, with_bytes, put_bytes}
use Rattle.asm_build.specs.Meaning.{with_operation, with_line}
use Rattle.asm_build.specs.Refusals.{Part, TheDefinition, TheOperand, TheOperation, bytes_given, GivesByte}
use Rattle.asm_build.specs.Refusals.{WrongInValues, StandsOn}
use Rattle.asm_laws.proofs.DefinitionFaults.{none_some, some_is, Follows, one_true, first_true, second_true}
use Rattle.asm_laws.proofs.OperandFaults.{FirstWrong, NoneWrong, Given, ActionVerdict, given_by}
use Rattle.asm_laws.proofs.OperandFaults.{action_judged}

-- ---- addresses

-- an address from this place on, for as many bytes, passes a test
abbrev Passes : (ℕ → Bool) → ℕ → ℕ → Type 0
Passes test n place = (i : ℕ) × (i < n) × (test ((place + i) % 65536) ≡ true)

abbrev tested : (ℕ → Bool) → ℕ → List ℕ → Bool
tested test place bs = list_any (λ p. test p.0) (at_address (place % 65536) bs)

passes_later : (test : ℕ → Bool) (n place : ℕ) → Passes test n (place + 1) → Passes test (n + 1) place
passes_later test n place x =
    let lt = x.1 in
    let e : place + 1 + x.0 ≡ place + (x.0 + 1) = omega arith in
    (x.0 + 1, omega (arith, lt), ap (λ (k : ℕ). test (k % 65536)) (sym e) ∙ x.2)

tested_next : (test : ℕ → Bool) (place : ℕ) (bs : List ℕ)
    → list_any (λ p. test p.0) (at_address ((place % 65536 + 1) % 65536) bs) ≡ tested test (place + 1) bs
tested_next test place bs =
    ap (λ (k : ℕ). list_any (λ p. test p.0) (at_address k bs)) (mod-add-mod place 65536 1)

passes_by : (test : ℕ → Bool) (bs : List ℕ) (place : ℕ)
    → (tested test (place + 1) bs ≡ true → Passes test (length bs) (place + 1))
    → (test (place % 65536) ≡ true)
    ⊎ (list_any (λ p. test p.0) (at_address ((place % 65536 + 1) % 65536) bs) ≡ true)
    → Passes test (length bs + 1) place
passes_by test bs place more (inl x) =
    let e : place ≡ place + 0 = omega arith in
    (0, omega arith, ap (λ (k : ℕ). test (k % 65536)) (sym e) ∙ x)
passes_by test bs place more (inr x) =
    passes_later test (length bs) place (more (sym (tested_next test place bs) ∙ x))

passes_if : (test : ℕ → Bool) (bs : List ℕ) (place : ℕ) → tested test place bs ≡ true
    → Passes test (length bs) place
passes_if test [] place h = absurd (false≢true h)
passes_if test (b ∷ bs) place h =
    let m = passes_by test bs place (passes_if test bs (place + 1))
    (one_true (test (place % 65536))
    (list_any (λ p. test p.0) (at_address ((place % 65536 + 1) % 65536) bs)) h)
    in
    let lt = m.1 in
    (m.0, omega (arith, lt), m.2)

if_passes : (test : ℕ → Bool) (bs : List ℕ) (place i : ℕ) → i < length bs
    → test ((place + i) % 65536) ≡ true → tested test place bs ≡ true
if_passes test [] place i lt h = absurd (omega (arith, lt))
if_passes test (b ∷ bs) place zero lt h =
    first_true (test (place % 65536)) _
    (let e : place ≡ place + 0 = omega arith in ap (λ (k : ℕ). test (k % 65536)) e ∙ h)
if_passes test (b ∷ bs) place (suc i) lt h =
    second_true (test (place % 65536)) _
    (tested_next test place bs
    ∙ if_passes test bs (place + 1) i (omega (arith, lt))
    (let e : place + 1 + i ≡ place + suc i = omega arith in ap (λ (k : ℕ). test (k % 65536)) e ∙ h))

-- ---- lines

-- one of these lines gives a byte at an address
unfoldable pub GivenBy : Lines → ℕ → Type 0
GivenBy [] a = ⊥
GivenBy (p ∷ ps) a = GivesByte p a ⊎ GivenBy ps a

any_later : (p : Statement × Laid) (ps : Lines) (a : ℕ) → Any (λ q. GivesByte q a) ps
    → Any (λ q. GivesByte q a) (p ∷ ps)
any_later p ps a x = let lt = x.2 in (suc x.0, x.1, omega (arith, lt), x.3, x.4)

any_given : (ps : Lines) (a : ℕ) → GivenBy ps a → Any (λ q. GivesByte q a) ps
unfolding GivenBy
any_given [] a h = absurd h
any_given (p ∷ ps) a (inl x) = (0, p, omega arith, refl, x)
any_given (p ∷ ps) a (inr x) = any_later p ps a (any_given ps a x)

given_at : (ps : Lines) (a k : ℕ) (q : Statement × Laid) → k < length ps → get_or ps k q ≡ q → GivesByte q a
    → GivenBy ps a
unfolding GivenBy
given_at [] a k q lt is x = absurd (omega (arith, lt))
given_at (p ∷ ps) a zero q lt is x = inl (subst (λ (r : Statement × Laid). GivesByte r a) (sym is) x)
given_at (p ∷ ps) a (suc k) q lt is x = inr (given_at ps a k q (omega (arith, lt)) is x)

given_any : (ps : Lines) (a : ℕ) → Any (λ q. GivesByte q a) ps → GivenBy ps a
given_any ps a x = given_at ps a x.0 x.1 x.2 x.3 x.4

-- exactly these lines' addresses have a byte
abbrev pub IsImageOf : List (ℕ × ℕ) → Lines → Type 0
IsImageOf image ps = (a : ℕ) → Decides (has image a) (GivenBy ps a)

abbrev pub LineVerdict : Entries → Lines → Lines → Statement × Laid → Result Output Fault → Type 0
LineVerdict kept all ps p (Ok out) =
    IsImageOf out.image (p ∷ ps) × ((part : Part) (g : Fault) → StandsOn kept all ps p part g → ⊥)
LineVerdict kept all ps p (Err f) =
    (part : Part) × StandsOn kept all ps p part f
    × ((other : Part) (g : Fault) → StandsOn kept all ps p other g → Follows part f other g)

-- a line that gives nothing
gives_nothing : (kept : Entries) (all ps : Lines) (p : Statement × Laid) (out : Output)
    → ((a : ℕ) → GivesByte p a → ⊥) → ((part : Part) (g : Fault) → StandsOn kept all ps p part g → ⊥)
    → IsImageOf out.image ps → LineVerdict kept all ps p (Ok out)
unfolding GivenBy
gives_nothing kept all ps p out nothing none was =
    (λ a. (λ h. inr ((was a).0 h), λ x. back a x), none)
  where
    back : (a : ℕ) → GivesByte p a ⊎ GivenBy ps a → has out.image a ≡ true
    back a (inl x) = absurd (nothing a x)
    back a (inr x) = (was a).1 x

module _ (kept : Entries) (all ps : Lines) (p : Statement × Laid) (o : Operation)
    (is : p.0.operation ≡ Some o) (on : p.1.is_assembled ≡ true) where
  abbrev names : List ℕ → Option ℕ
  names = late_value kept all ps

  abbrev here : ℕ
  here = p.1.place % 65536

  of_this : (part : Part) (g : Fault) → StandsOn kept all ps p part g → WrongInValues kept all ps p part o g
  of_this part g h =
      subst (λ (q : Operation). WrongInValues kept all ps p part q g) (some_is h.1 o p.0.operation h.2 is) h.3

  given_here : (a : ℕ) → GivesByte p a
      → (i : ℕ) × (i < bytes_given o.action) × (a ≡ (p.1.place + i) % 65536)
  given_here a x =
      subst (λ (q : Operation). (i : ℕ) × (i < bytes_given q.action) × (a ≡ (p.1.place + i) % 65536))
      (some_is x.0 o p.0.operation x.1 is) (x.3, x.4, x.5)

  operand_wrong : (f : Fault) → FirstWrong names here o.action (late_in o.action) f
      → LineVerdict kept all ps p (Err f)
  operand_wrong f w = (TheOperand w.0, (on, o, is, w.1), after)
    where
      later : (j : ℕ) (g : Fault) → (g ≡ f) ⊎ (w.0 < j) → Follows (TheOperand w.0) f (TheOperand j) g
      later j g (inl e) = inl e
      later j g (inr lt) = inr (inr (refl, inl lt))

      after : (other : Part) (g : Fault) → StandsOn kept all ps p other g
          → Follows (TheOperand w.0) f other g
      after TheDefinition g h = absurd h.3
      after (TheOperand j) g h = later j g (w.2 j g (of_this (TheOperand j) g h))
      after TheOperation g h = inr (inl (omega arith))

  -- the bytes of the line, and whether one overlaps
  module _ (bs : List ℕ) (start : Option ℕ) (long : length bs ≡ bytes_given o.action)
      (fine : NoneWrong names here o.action (late_in o.action)) (out : Output) (line : ℕ)
      (was : IsImageOf out.image ps) where
    gives_at : (i : ℕ) → i < length bs → GivesByte p ((p.1.place + i) % 65536)
    gives_at i lt = (o, is, on, i, omega (arith, lt, long), refl)

    overlap : overlaps out.image (at_address here bs) ≡ true
        → LineVerdict kept all ps p (Err (o.column, fault.Overlap))
    overlap h = (TheOperation, (on, o, is, found), after)
      where
        at : Passes (has out.image) (length bs) p.1.place
        at = passes_if (has out.image) bs p.1.place h

        address : ℕ
        address = (p.1.place + at.0) % 65536

        found : WrongInValues kept all ps p TheOperation o (o.column, fault.Overlap)
        found = (refl, address, gives_at at.0 at.1, any_given ps address ((was address).0 at.2))

        after : (other : Part) (g : Fault) → StandsOn kept all ps p other g
            → Follows TheOperation (o.column, fault.Overlap) other g
        after TheDefinition g x = absurd x.3
        after (TheOperand j) g x = absurd (fine j g (of_this (TheOperand j) g x))
        after TheOperation g x = inl (of_this TheOperation g x).0

    new_image : IsImageOf (out.image ++ at_address here bs) (p ∷ ps)
    unfolding GivenBy
    new_image a = (to, from)
      where
        split : has (out.image ++ at_address here bs) a
            ≡ (has out.image a || tested (λ n. n == a) p.1.place bs)
        split = list_any-append (λ q. q.0 == a) out.image (at_address here bs)

        by : (has out.image a ≡ true) ⊎ (tested (λ n. n == a) p.1.place bs ≡ true)
            → GivesByte p a ⊎ GivenBy ps a
        by (inl x) = inr ((was a).0 x)
        by (inr x) =
            let m = passes_if (λ n. n == a) bs p.1.place x in
            inl (subst (λ (n : ℕ). GivesByte p n) ((Decides-eqb ((p.1.place + m.0) % 65536) a).0 m.2)
            (gives_at m.0 m.1))

        to : has (out.image ++ at_address here bs) a ≡ true → GivesByte p a ⊎ GivenBy ps a
        to h = by (one_true (has out.image a) (tested (λ n. n == a) p.1.place bs) (sym split ∙ h))

        back : GivesByte p a ⊎ GivenBy ps a
            → (has out.image a || tested (λ n. n == a) p.1.place bs) ≡ true
        back (inr x) = first_true (has out.image a) (tested (λ n. n == a) p.1.place bs) ((was a).1 x)
        back (inl x) =
            let m = given_here a x in
            let lt = m.1 in
            second_true (has out.image a) (tested (λ n. n == a) p.1.place bs)
            (if_passes (λ n. n == a) bs p.1.place m.0 (omega (arith, lt, long))
            ((Decides-eqb ((p.1.place + m.0) % 65536) a).1 (sym m.2)))

        from : GivesByte p a ⊎ GivenBy ps a → has (out.image ++ at_address here bs) a ≡ true
        from x = split ∙ back x

    apart : overlaps out.image (at_address here bs) ≡ false
        → LineVerdict kept all ps p (Ok (with_bytes out line here bs start))
    apart h = (new_image, none)
      where
        none : (part : Part) (g : Fault) → StandsOn kept all ps p part g → ⊥
        none TheDefinition g x = x.3
        none (TheOperand j) g x = fine j g (of_this (TheOperand j) g x)
        none TheOperation g x =
            let m = of_this TheOperation g x in
            let i = given_here m.1 m.2 in
            let lt = i.1 in
            let there = (was m.1).1 (given_any ps m.1 m.3) in
            false≢true (sym h
            ∙ if_passes (has out.image) bs p.1.place i.0 (omega (arith, lt, long))
            (ap (has out.image) (sym i.2) ∙ there))

    put_judged : LineVerdict kept all ps p (put_bytes o.column out line here bs start)
    put_judged = by (overlaps out.image (at_address here bs)) refl
      where
        by : (b : Bool) → overlaps out.image (at_address here bs) ≡ b
            → LineVerdict kept all ps p
            (if b then Err (o.column, fault.Overlap) else Ok (with_bytes out line here bs start))
        by true h = overlap h
        by false h = apart h

  given_judged : (out : Output) (line : ℕ) → IsImageOf out.image ps → (r : Result Given Fault)
      → ActionVerdict names here o.action r
      → LineVerdict kept all ps p (r >>= λ x. put_bytes o.column out line here x.0 x.1)
  given_judged out line was (Ok x) v = put_judged x.0 x.1 v.0 v.1 out line was
  given_judged out line was (Err f) v = operand_wrong f v

abbrev both : {A B : Type 0} → A → B → Result (A × B) Fault
both x y = Ok (x, y)

regroup : {A B C : Type 0} (r : Result A Fault) (s : Result B Fault) (f : A → B → Result C Fault)
    → ((r >>= λ x. s >>= λ y. both x y) >>= λ z. f z.0 z.1) ≡ (r >>= λ x. s >>= λ y. f x y)
regroup (Ok x) (Ok y) f = refl
regroup (Ok x) (Err e) f = refl
regroup (Err e) s f = refl

operation_judged : (kept : Entries) (all ps : Lines) (p : Statement × Laid) (o : Option Operation)
    → p.0.operation ≡ o → p.1.is_assembled ≡ true → (out : Output) (line : ℕ) → IsImageOf out.image ps
    → LineVerdict kept all ps p
    (with_operation (late_value kept all ps) out line (p.1.place % 65536) o)
operation_judged kept all ps p None is on out line was =
    gives_nothing kept all ps p out (λ a x. none_some x.0 p.0.operation is x.1)
    (λ part g h. none_some h.1 p.0.operation is h.2) was
operation_judged kept all ps p (Some o) is on out line was =
    let names = late_value kept all ps in
    let here = p.1.place % 65536 in
    subst (LineVerdict kept all ps p)
    (regroup (bytes_of names here o.action) (start_of names here out.start o.action)
    (λ bs start. put_bytes o.column out line here bs start))
    (given_judged kept all ps p o is on out line was (given_by names here out.start o.action)
    (action_judged names here out.start o.action))

pub line_judged : (kept : Entries) (all ps : Lines) (p : Statement × Laid) (out : Output) (line : ℕ)
    → IsImageOf out.image ps
    → LineVerdict kept all ps p (with_line (late_value kept all ps) out line p)
line_judged kept all ps p out line was = by p.1.is_assembled refl
  where
    by : (b : Bool) → p.1.is_assembled ≡ b
        → LineVerdict kept all ps p
        (if b then with_operation (late_value kept all ps) out line (p.1.place % 65536) p.0.operation
        else Ok out)
    by true on = operation_judged kept all ps p p.0.operation refl on out line was
    by false off =
        gives_nothing kept all ps p out (λ a x. false≢true (sym off ∙ x.2))
        (λ part g h. false≢true (sym off ∙ h.0)) was
