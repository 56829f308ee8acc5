-- What is known of a definition once it was checked: that nothing is wrong with it, or its first fault.
use Rattle.std.proofs.Common.{◌≡◌, ℕ, ◌⊎◌, inl, inr, List, [], ◌∷◌, Bool, true, false}
use Rattle.std.proofs.Common.{refl, sym, ap, ◌∙◌, subst, arith, Option, Some, None, Result, Ok, Err}
use Rattle.std.proofs.Common.{Contains, ◌&&◌, ◌||◌, is_some, get_or}
use Rattle.std.specs.Prelude.{if◌then◌else◌}
use Rattle.std.specs.List.{list_any}
use Rattle.std.specs.Str.{bytes_eq}
use Rattle.std.proofs.lemmas.List.Folds.{Any-from_list_any, list_any-from_Any, list_any_at}
use Rattle.std.proofs.lemmas.Slice.Eq.{bytes_eq-Decides}
use Rattle.std.proofs.lemmas.Bool.{false≢true}
use Rattle.std.proofs.lemmas.Map.Views.{Contains-from_any}
use Rattle.asm_syntax.specs.declared.fault.FaultKind.{FaultKind}
use Rattle.asm_syntax.specs.declared.fault.FaultKind.TheVariants as fault
use Rattle.asm_syntax.specs.declared.statement.Label.{Label}
use Rattle.asm_syntax.specs.declared.statement.Statement.{Statement}
use Rattle.asm_syntax.specs.Outcome.{Fault, ComesBefore}
use Rattle.asm_syntax.proofs.FirstFaults.{fault_is}
use Rattle.asm_build.specs.declared.symbols.SymbolKind.{SymbolKind}
use Rattle.asm_build.specs.declared.symbols.SymbolKind.TheVariants as kind
use Rattle.asm_build.specs.declared.symbols.Symbol.{Symbol}
use Rattle.asm_build.specs.Statements.{on_action, definition_of, is_set, early_in}
use Rattle.asm_build.specs.Reading.{Entries, Lines, symbol_at, last_definition, last_set, or_else, only_set}
use Rattle.asm_build.specs.Reading.{defined_on}
use Rattle.asm_build.specs.Layout.{past, is_among, is_late, check_defined, check_definition}
use Rattle.asm_build.specs.Refusals.{Part, TheDefinition, IsTwice, early_names, late_names, IsNamed}
use Rattle.asm_build.specs.Refusals.{WrongDefinition, WrongInLayout, rank}

pub no_more : {A : Type 0} (x : A) → None ≡ Some x → ⊥
no_more x h = cc

pub some_is : {A : Type 0} (x y : A) → (o : Option A) → o ≡ Some x → o ≡ Some y → x ≡ y
some_is x y o h k = cc

pub none_some : {A : Type 0} (x : A) → (o : Option A) → o ≡ None → o ≡ Some x → ⊥
none_some x o h k = cc

pub ok_err : {A B : Type 0} (x : A) (y : B) (r : Result A B) → r ≡ Ok x → r ≡ Err y → ⊥
ok_err x y r h k = cc

both_true : (a b : Bool) → (a && b) ≡ true → (a ≡ true) × (b ≡ true)
both_true true b h = (refl, h)
both_true false b h = absurd (false≢true h)

pub one_true : (a b : Bool) → (a || b) ≡ true → (a ≡ true) ⊎ (b ≡ true)
one_true true b h = inl refl
one_true false b h = inr h

pub first_true : (a b : Bool) → a ≡ true → (a || b) ≡ true
first_true a b h = ap (λ c. c || b) h

pub second_true : (a b : Bool) → b ≡ true → (a || b) ≡ true
second_true true b h = refl
second_true false b h = h

are_true : (a b : Bool) → a ≡ true → b ≡ true → (a && b) ≡ true
are_true a b h k = ap (λ c. c && b) h ∙ k

-- ---- names

among : (x : List ℕ) (names : List (List ℕ)) → is_among x names ≡ true → Contains names x
among x names h = Contains-from_any {eq = bytes_eq} (λ m n. (bytes_eq-Decides m n).0) x names h

is_there : (x : List ℕ) (names : List (List ℕ)) → Contains names x → is_among x names ≡ true
is_there x names c =
    list_any_at (bytes_eq x) names c.0 x c.1 ((bytes_eq-Decides x (get_or names c.0 x)).1 (sym c.2))

abbrev named_test : (Statement → List (List ℕ)) → Lines → List ℕ → Bool
named_test names ps x = list_any (λ p. p.1.is_assembled && is_among x (names p.0)) ps

named_by : (names : Statement → List (List ℕ)) (ps : Lines) (x : List ℕ)
    → named_test names ps x ≡ true → IsNamed names ps x
named_by names ps x h =
    let a = Any-from_list_any (λ p. p.1.is_assembled && is_among x (names p.0)) ps h in
    let b = both_true a.1.1.is_assembled (is_among x (names a.1.0)) a.4 in
    (a.0, a.1, a.2, a.3, (b.0, among x (names a.1.0) b.1))

by_named : (names : Statement → List (List ℕ)) (ps : Lines) (x : List ℕ) → IsNamed names ps x
    → named_test names ps x ≡ true
by_named names ps x a =
    list_any-from_Any (λ p. p.1.is_assembled && is_among x (names p.0)) ps (
      a.0,
      a.1,
      a.2,
      a.3,
      are_true a.1.1.is_assembled (is_among x (names a.1.0)) a.4.0 (is_there x (names a.1.0) a.4.1),
    )

-- ---- SETs

set_is : (k : SymbolKind) → is_set k ≡ true → k ≡ kind.Set
set_is kind.Set h = refl
set_is kind.Label h = absurd (false≢true h)
set_is kind.Equ h = absurd (false≢true h)

no_set : (ps : Lines) (x : List ℕ) → last_definition ps x ≡ None → last_set ps x ≡ None
no_set [] x h = refl
no_set (p ∷ ps) x h = by (no_set ps x) (defined_on p x) h
  where
    by : (last_definition ps x ≡ None → last_set ps x ≡ None) → (w : Option Symbol)
        → or_else w (last_definition ps x) ≡ None
        → or_else (only_set w) (last_set ps x) ≡ None
    by more None e = more e
    by more (Some w) e = absurd cc

a_set : (ps : Lines) (x : List ℕ) (was : Symbol) → last_definition ps x ≡ Some was
    → is_set was.kind ≡ true → last_set ps x ≡ Some was
a_set [] x was h is = absurd (no_more was h)
a_set (p ∷ ps) x was h is = by (a_set ps x was) (defined_on p x) h
  where
    by : (last_definition ps x ≡ Some was → is_set was.kind ≡ true → last_set ps x ≡ Some was)
        → (w : Option Symbol) → or_else w (last_definition ps x) ≡ Some was
        → or_else (only_set w) (last_set ps x) ≡ Some was
    by more None e = more e is
    by more (Some w) e =
        let same : w ≡ was = cc in
        ap (λ (v : Symbol). or_else (only_set (Some v)) (last_set ps x)) same
        ∙ ap (λ b. or_else (if b then Some was else None) (last_set ps x)) is

-- ---- definitions that come too late

module _ (kept : Entries) (earlier : Lines) (s : Statement) (d : Label × SymbolKind) where
  abbrev Soon : Type 0
  Soon = IsNamed early_names earlier d.0.name ⊎ Contains (early_names s) d.0.name

  abbrev Before : Type 0
  Before = IsNamed early_names earlier d.0.name ⊎ IsNamed late_names earlier d.0.name

  abbrev Late : Type 0
  Late = WrongDefinition kept earlier s d fault.Early

  abbrev late_test : Bool
  late_test = is_late (past kept earlier) d.0.name d.1 (is_among d.0.name (early_names s))

  abbrev kept_test : Bool
  kept_test = is_some (symbol_at kept d.0.name)

  abbrev needed_test : Bool
  needed_test = named_test early_names earlier d.0.name

  abbrev itself_test : Bool
  itself_test = is_among d.0.name (early_names s)

  abbrev used_test : Bool
  used_test = named_test late_names earlier d.0.name

  soon_if : (needed_test ≡ true) ⊎ (itself_test ≡ true) → Soon
  soon_if (inl a) = inl (named_by early_names earlier d.0.name a)
  soon_if (inr a) = inr (among d.0.name (early_names s) a)

  before_if : (needed_test ≡ true) ⊎ (used_test ≡ true) → Before
  before_if (inl a) = inl (named_by early_names earlier d.0.name a)
  before_if (inr a) = inr (named_by late_names earlier d.0.name a)

  if_soon : Soon → (needed_test || itself_test) ≡ true
  if_soon (inl b) = first_true needed_test itself_test (by_named early_names earlier d.0.name b)
  if_soon (inr b) = second_true needed_test itself_test (is_there d.0.name (early_names s) b)

  if_before : Before → (needed_test || used_test) ≡ true
  if_before (inl b) = first_true needed_test used_test (by_named early_names earlier d.0.name b)
  if_before (inr b) = second_true needed_test used_test (by_named late_names earlier d.0.name b)

  abbrev kept_part : Bool
  kept_part = kept_test && (needed_test || itself_test)

  abbrev set_part : Bool
  set_part = is_set d.1 && (needed_test || used_test)

  late_by : last_definition earlier d.0.name ≡ None → (kept_part ≡ true) ⊎ (set_part ≡ true) → Late
  late_by new (inl a) =
      let b = both_true kept_test (needed_test || itself_test) a in
      inl (new, b.0, soon_if (one_true needed_test itself_test b.1))
  late_by new (inr a) =
      let b = both_true (is_set d.1) (needed_test || used_test) a in
      inr (
        set_is d.1 b.0,
        (no_set earlier d.0.name new, before_if (one_true needed_test used_test b.1)),
      )

  late_if : last_definition earlier d.0.name ≡ None → late_test ≡ true → Late
  late_if new h = late_by new (one_true kept_part set_part h)

  if_late : Late → late_test ≡ true
  if_late (inl a) =
      first_true kept_part set_part (are_true kept_test (needed_test || itself_test) a.1 (if_soon a.2))
  if_late (inr a) =
      second_true kept_part set_part
      (are_true (is_set d.1) (needed_test || used_test) (ap is_set a.0) (if_before a.1.1))

-- ---- the definition

-- what follows a fault of a part
abbrev pub Follows : Part → Fault → Part → Fault → Type 0
Follows part f other g = (g ≡ f) ⊎ ComesBefore (rank part f.1) (rank other g.1)

abbrev pub DefinitionVerdict : Entries → Lines → Statement → Result (Unit {0}) Fault → Type 0
DefinitionVerdict kept earlier s (Ok x) = (g : Fault) → WrongInLayout kept earlier s TheDefinition g → ⊥
DefinitionVerdict kept earlier s (Err f) =
    WrongInLayout kept earlier s TheDefinition f
    × ((g : Fault) → WrongInLayout kept earlier s TheDefinition g → Follows TheDefinition f TheDefinition g)

of_this : (kept : Entries) (earlier : Lines) (s : Statement) (d : Label × SymbolKind)
    → definition_of s ≡ Some d → (g : Fault) → WrongInLayout kept earlier s TheDefinition g
    → (g.0 ≡ d.0.column) × WrongDefinition kept earlier s d g.1
of_this kept earlier s d is g m =
    subst (λ (e : Label × SymbolKind). (g.0 ≡ e.0.column) × WrongDefinition kept earlier s e g.1)
    (some_is m.0 d (definition_of s) m.1 is) (m.2, m.3)

right : (kept : Entries) (earlier : Lines) (s : Statement) (d : Label × SymbolKind)
    → definition_of s ≡ Some d → (IsTwice earlier d → ⊥)
    → (WrongDefinition kept earlier s d fault.Early → ⊥) → DefinitionVerdict kept earlier s (Ok tt)
right kept earlier s d is once soon = λ g m. none g.1 (of_this kept earlier s d is g m).1
  where
    none : (k : FaultKind) → WrongDefinition kept earlier s d k → ⊥
    none fault.Twice w = once w
    none fault.Early w = soon w
    none k w = w

late : (kept : Entries) (earlier : Lines) (s : Statement) (d : Label × SymbolKind)
    → definition_of s ≡ Some d → (IsTwice earlier d → ⊥) → WrongDefinition kept earlier s d fault.Early
    → DefinitionVerdict kept earlier s (Err (d.0.column, fault.Early))
late kept earlier s d is once w = ((d, is, refl, w), λ g m. after g (of_this kept earlier s d is g m))
  where
    kind_is : (k : FaultKind) → WrongDefinition kept earlier s d k → k ≡ fault.Early
    kind_is fault.Twice v = absurd (once v)
    kind_is fault.Early v = refl
    kind_is k v = absurd v

    after : (g : Fault) → (g.0 ≡ d.0.column) × WrongDefinition kept earlier s d g.1
        → Follows TheDefinition (d.0.column, fault.Early) TheDefinition g
    after g m = inl (fault_is (d.0.column, fault.Early) g m.0 (kind_is g.1 m.1))

twice : (kept : Entries) (earlier : Lines) (s : Statement) (d : Label × SymbolKind)
    → definition_of s ≡ Some d → IsTwice earlier d
    → DefinitionVerdict kept earlier s (Err (d.0.column, fault.Twice))
twice kept earlier s d is w = ((d, is, refl, w), λ g m. after g (of_this kept earlier s d is g m))
  where
    by : (column : ℕ) (k : FaultKind) → column ≡ d.0.column → WrongDefinition kept earlier s d k
        → Follows TheDefinition (d.0.column, fault.Twice) TheDefinition (column, k)
    by column fault.Twice at v = inl (ap (λ (n : ℕ). (n, fault.Twice)) at)
    by column fault.Early at v = inr (inr (refl, inl (omega arith)))
    by column k at v = absurd v

    after : (g : Fault) → (g.0 ≡ d.0.column) × WrongDefinition kept earlier s d g.1
        → Follows TheDefinition (d.0.column, fault.Twice) TheDefinition g
    after g m = by g.0 g.1 m.0 m.1

first_judged : (kept : Entries) (earlier : Lines) (s : Statement) (d : Label × SymbolKind)
    → definition_of s ≡ Some d → last_definition earlier d.0.name ≡ None → (b : Bool)
    → late_test kept earlier s d ≡ b
    → DefinitionVerdict kept earlier s (if b then Err (d.0.column, fault.Early) else Ok tt)
first_judged kept earlier s d is new true h =
    late kept earlier s d is (λ t. none_some t.0 (last_definition earlier d.0.name) new t.1)
    (late_if kept earlier s d new h)
first_judged kept earlier s d is new false h =
    right kept earlier s d is (λ t. none_some t.0 (last_definition earlier d.0.name) new t.1)
    (λ l. false≢true (sym h ∙ if_late kept earlier s d l))

again_judged : (kept : Entries) (earlier : Lines) (s : Statement) (d : Label × SymbolKind) (was : Symbol)
    → definition_of s ≡ Some d → last_definition earlier d.0.name ≡ Some was → (b : Bool)
    → (is_set was.kind && is_set d.1) ≡ b
    → DefinitionVerdict kept earlier s (if b then Ok tt else Err (d.0.column, fault.Twice))
again_judged kept earlier s d was is old true h = right kept earlier s d is once soon
  where
    once : IsTwice earlier d → ⊥
    once t =
        let same : t.0 ≡ was = some_is t.0 was (last_definition earlier d.0.name) t.1 old in
        let sets = both_true (is_set was.kind) (is_set d.1) h in
        t.2 (ap (λ (w : Symbol). w.kind) same ∙ set_is was.kind sets.0, set_is d.1 sets.1)

    soon : WrongDefinition kept earlier s d fault.Early → ⊥
    soon (inl l) = none_some was (last_definition earlier d.0.name) l.0 old
    soon (inr l) =
        none_some was (last_set earlier d.0.name) l.1.0
        (a_set earlier d.0.name was old (both_true (is_set was.kind) (is_set d.1) h).0)
again_judged kept earlier s d was is old false h = twice kept earlier s d is (was, old, once)
  where
    once : (was.kind ≡ kind.Set) × (d.1 ≡ kind.Set) → ⊥
    once b =
        false≢true (sym h ∙ are_true (is_set was.kind) (is_set d.1) (ap is_set b.0) (ap is_set b.1))

defined_judged : (kept : Entries) (earlier : Lines) (s : Statement) (d : Label × SymbolKind)
    → definition_of s ≡ Some d → (w : Option Symbol) → last_definition earlier d.0.name ≡ w
    → DefinitionVerdict kept earlier s
    (check_defined (past kept earlier) (on_action early_in None s) d w)
defined_judged kept earlier s d is None e =
    first_judged kept earlier s d is e (late_test kept earlier s d) refl
defined_judged kept earlier s d is (Some was) e =
    again_judged kept earlier s d was is e (is_set was.kind && is_set d.1) refl

pub definition_judged : (kept : Entries) (earlier : Lines) (s : Statement) (o : Option (Label × SymbolKind))
    → definition_of s ≡ o
    → DefinitionVerdict kept earlier s
    (check_definition (past kept earlier) (on_action early_in None s) o)
definition_judged kept earlier s None is = λ g m. none_some m.0 (definition_of s) is m.1
definition_judged kept earlier s (Some d) is =
    defined_judged kept earlier s d is (last_definition earlier d.0.name) refl
