-- The value of an expression that is a place.
use Rattle.std.proofs.Common.{◌≡◌, ◌≤◌, ◌<◌, ℕ, ◌+◌, List, [], ◌∷◌, ◌++◌, length, take, Bool, true, false}
use Rattle.std.proofs.Common.{Option, Some, None, Result, Ok, Err, refl, sym, ap, subst, ◌∙◌, arith}
use Rattle.std.specs.Prelude.{slice_get, slice_set, nat_lt, replicate, option_map, option_and_then, ◌==◌}
use Rattle.std.specs.Prelude.{if◌then◌else◌}
use Rattle.std.proofs.lemmas.List.{length-set, length-take, get_or-set_same, take_more, take_all}
use Rattle.std.proofs.lemmas.Option.{slice_get_past, slice_get-get_or, get_or_from_slice_get}
use Rattle.std.proofs.lemmas.Bool.Decides.{nat_tests}
use Rattle.i80_base.specs.declared.instruction.Reg.TheVariants as reg
use Rattle.i80_exec.specs.State.{get}
use Rattle.asm_expr.specs.Tree as tree
use Rattle.asm_expr.specs.Tree.{Tree}
use Rattle.asm_expr.specs.declared.evaluation.ExprFault.{ExprFault}
use Rattle.asm_syntax.specs.Outcome.{◌>>=◌}
use Rattle.asm_build.specs.Reading.{or_else}
use Rattle.lab_core.specs.Board.{Board}
use Rattle.dap_expr.specs.declared.brackets.Read.{Read}
use Rattle.dap_expr.specs.declared.brackets.Width.{Width}
use Rattle.dap_expr.specs.declared.brackets.Width.TheVariants as width
use Rattle.dap_expr.specs.declared.clause.Clause.{Clause}
use Rattle.dap_expr.specs.declared.clause.Sense.{Sense}
use Rattle.dap_expr.specs.declared.clause.Sense.TheVariants as sense
use Rattle.dap_expr.specs.declared.expression.Expression.{Expression}
use Rattle.dap_expr.specs.declared.part.Part.{Part}
use Rattle.dap_expr.specs.declared.term.Term.{Term}
use Rattle.dap_expr.specs.Parts.{part_owning, part_named, part_value}
use Rattle.dap_expr.specs.Names.{read_named}
use Rattle.dap_expr.specs.Values.{values_from, with_value, read_value, read_values, read_at, named_on}
use Rattle.dap_expr.specs.Values.{tree_value, term_value, in_sense, clauses_value, value_on, symbol_value}
use Rattle.dap_values.specs.declared.target.Target.{Target}
use Rattle.dap_values.specs.declared.target.Target.TheVariants as target
use Rattle.dap_values.specs.Targets.{at_address, address_after, read_target, last_read, read_number}
use Rattle.dap_values.specs.Targets.{part_unless, part_on, part_target, numbered_or_part, named_target}
use Rattle.dap_values.specs.Targets.{name_alone, target_in, clauses_target, target_on, value_at}

-- ---- values of reads

kept_length : (values : List ℕ) (number value : ℕ) → length values ≡ 16
    → length (with_value values number value) ≡ 16
kept_length values number value h = by (nat_lt number 16)
  where
    by : (b : Bool) → length (if b then slice_set values number value else values) ≡ 16
    by true = length-set values number value ∙ h
    by false = h

values_length : (b : Board) (number : ℕ) (values : List ℕ) (rs : List Read) (found : List ℕ)
    → length values ≡ 16 → values_from b number values rs ≡ Ok found → length found ≡ 16
unfolding values_from
values_length b number values [] found h is =
    let same : values ≡ found = cc in subst (λ (vs : List ℕ). length vs ≡ 16) same h
values_length b number values (r ∷ rs) found h is =
    by (read_value b values r)
    (λ v. let kept = kept_length values number v h in
    values_length b (number + 1) (with_value values number v) rs found kept)
    is
  where
    After : ℕ → Result (List ℕ) ExprFault
    After value = values_from b (number + 1) (with_value values number value) rs

    by : (v : Result ℕ ExprFault) → ((value : ℕ) → After value ≡ Ok found → length found ≡ 16)
        → (v >>= After) ≡ Ok found → length found ≡ 16
    by (Ok v) later e = later v e
    by (Err f) later e = absurd cc

-- the values after one more read
abbrev more : Board → ℕ → Read → List ℕ → Result (List ℕ) ExprFault
more b number r values = read_value b values r >>= λ value. Ok (with_value values number value)

values-append : (b : Board) (number : ℕ) (values : List ℕ) (rs : List Read) (r : Read)
    → values_from b number values (rs ++ r ∷ [])
    ≡ (values_from b number values rs >>= more b (number + length rs) r)
unfolding values_from
values-append b number values [] r =
    let same : number ≡ number + 0 = omega arith in ap (λ k. more b k r values) same
values-append b number values (q ∷ rs) r =
    by (read_value b values q) (λ v. values-append b (number + 1) (with_value values number v) rs r)
  where
    by : (v : Result ℕ ExprFault)
        → ((value : ℕ) → values_from b (number + 1) (with_value values number value) (rs ++ r ∷ [])
        ≡ (values_from b (number + 1) (with_value values number value) rs
        >>= more b (number + 1 + length rs) r))
        → (v >>= λ value. values_from b (number + 1) (with_value values number value) (rs ++ r ∷ []))
        ≡ ((v >>= λ value. values_from b (number + 1) (with_value values number value) rs)
        >>= more b (number + length (q ∷ rs)) r)
    by (Ok v) later =
        let same : number + 1 + length rs ≡ number + length (q ∷ rs) = omega arith in
        later v ∙ ap (λ k. values_from b (number + 1) (with_value values number v) rs >>= more b k r) same
    by (Err f) later = refl

set_there : (values : List ℕ) (k v : ℕ) → length values ≡ 16 → nat_lt k 16 ≡ true
    → slice_get (with_value values k v) k ≡ Some v
set_there values k v len small =
    let within : k < 16 = grind (arith, nat_tests) in
    let before : k < length values = omega (arith, len, within) in
    let after : k < length (slice_set values k v) = omega (arith, before, length-set values k v) in
    rw small
    (slice_get-get_or (slice_set values k v) k 0 after
    ∙ ap (λ x. Some x) (get_or-set_same values k v 0 before))

-- ---- names

-- the value of a name alone
named_value : (b : Board) (values x : List ℕ) (v : ℕ) → named_on b values x ≡ Some v
    → tree_value b values (tree.Named x) ≡ Ok v
named_value b values x v h = rw h refl

no_read : (x : List ℕ) → read_number x ≡ None → read_named (replicate 16 0) x ≡ None
no_read [] h = refl
no_read (n ∷ []) h = by (nat_lt n 16) refl
  where
    by : (small : Bool) → nat_lt n 16 ≡ small → read_named (replicate 16 0) (n ∷ []) ≡ None
    by true e = let h' = rw e at h in absurd cc
    by false e = let past : 16 ≤ n = grind (arith, nat_tests) in slice_get_past (replicate 16 0) n past
no_read (c ∷ d ∷ cs) h = refl

part_found : (f : Part → ℕ) (owning : Option Part) (symbol : Option ℕ) (x : List ℕ) (p : Part)
    → or_else owning (part_unless symbol x) ≡ Some p
    → or_else (option_map f owning) (or_else symbol (option_map f (part_named x))) ≡ Some (f p)
part_found f (Some q) symbol x p h = ap (option_map f) h
part_found f None (Some v) x p h = absurd cc
part_found f None None x p h = ap (option_map f) h

part_named_value : (b : Board) (x : List ℕ) (p : Part) → read_number x ≡ None → part_on b x ≡ Some p
    → named_on b (replicate 16 0) x ≡ Some (part_value b.machine.regs (get b.machine reg.M) p)
part_named_value b x p none is =
    rw (no_read x none)
    (part_found (part_value b.machine.regs (get b.machine reg.M)) (part_owning x) (symbol_value b x) x p is)

-- ---- the last read

abbrev after_reads : Board → List ℕ → Result (List ℕ) ExprFault → Result ℕ ExprFault
after_reads b x values = values >>= λ vs. tree_value b vs (tree.Named x)

read_value_there : (b : Board) (vs : List ℕ) (w : Width) (k a : ℕ) (t : Target) → length vs ≡ 16
    → nat_lt k 16 ≡ true → at_address w (Ok a) ≡ Some t
    → tree_value b (with_value vs k (read_at b.machine w a)) (tree.Named (k ∷ [])) ≡ Ok (value_at b.machine t)
read_value_there b vs width.Byte k a t len small is =
    let there = set_there vs k (read_at b.machine width.Byte a) len small in
    let value = read_at b.machine width.Byte a in
    let same : target.Byte a ≡ t = cc in
    named_value b (with_value vs k value) (k ∷ []) value (rw there refl)
    ∙ ap (λ (s : Target). Ok (value_at b.machine s)) same
read_value_there b vs width.Word k a t len small is =
    let there = set_there vs k (read_at b.machine width.Word a) len small in
    let value = read_at b.machine width.Word a in
    let same : target.Word a ≡ t = cc in
    named_value b (with_value vs k value) (k ∷ []) value (rw there refl)
    ∙ ap (λ (s : Target). Ok (value_at b.machine s)) same

no_address : (w : Width) (f : ExprFault) (t : Target) → at_address w (Err f) ≡ Some t → ⊥
no_address width.Byte f t h = cc
no_address width.Word f t h = cc

last_value : (b : Board) (before : List Read) (r : Read) (k : ℕ) (t : Target) → length before ≡ k
    → nat_lt k 16 ≡ true → at_address r.width (address_after b before r) ≡ Some t
    → after_reads b (k ∷ []) (read_values b (before ++ r ∷ [])) ≡ Ok (value_at b.machine t)
last_value b before r k t len small is =
    let at : 0 + length before ≡ k = omega (arith, len) in
    ap (after_reads b (k ∷ []))
    (values-append b 0 (replicate 16 0) before r ∙ ap (λ n. read_values b before >>= more b n r) at)
    ∙ by (read_values b before) refl is
  where
    with_address : (vs : List ℕ) → length vs ≡ 16 → (a : Result ℕ ExprFault) → at_address r.width a ≡ Some t
        → after_reads b (k ∷ []) ((a >>= λ address. Ok (read_at b.machine r.width address))
        >>= λ value. Ok (with_value vs k value))
        ≡ Ok (value_at b.machine t)
    with_address vs full (Ok a) e = read_value_there b vs r.width k a t full small e
    with_address vs full (Err f) e = absurd (no_address r.width f t e)

    by : (vs : Result (List ℕ) ExprFault) → read_values b before ≡ vs
        → at_address r.width (vs >>= λ values. tree_value b values r.address) ≡ Some t
        → after_reads b (k ∷ []) (vs >>= more b k r) ≡ Ok (value_at b.machine t)
    by (Ok vs) found e =
        let full = values_length b 0 (replicate 16 0) before vs refl found in
        with_address vs full (tree_value b vs r.address) e
    by (Err f) found e = absurd (no_address r.width f t e)

last_split : (rs : List Read) (k : ℕ) (r : Read) → k + 1 ≡ length rs → slice_get rs k ≡ Some r
    → take k rs ++ r ∷ [] ≡ rs
last_split rs k r len is =
    let within : k < length rs = omega (arith, len) in
    ap (λ x. take k rs ++ x ∷ []) (sym (get_or_from_slice_get rs k r r is)) ∙ sym (take_more rs k r within)
    ∙ take_all (k + 1) rs (omega (arith, len))

last_read_value : (b : Board) (rs : List Read) (k : ℕ) (t : Target) → nat_lt k 16 ≡ true
    → last_read b rs k ≡ Some t → after_reads b (k ∷ []) (read_values b rs) ≡ Ok (value_at b.machine t)
last_read_value b rs k t small is = by (k + 1 == length rs) refl is
  where
    with_read : (read : Option Read) → slice_get rs k ≡ read → k + 1 ≡ length rs
        → read_target b (take k rs) read ≡ Some t
        → after_reads b (k ∷ []) (read_values b rs) ≡ Ok (value_at b.machine t)
    with_read (Some r) found len e =
        let front : length (take k rs) ≡ k = omega (arith, length-take k rs, len) in
        subst (λ (all : List Read). after_reads b (k ∷ []) (read_values b all) ≡ Ok (value_at b.machine t))
        (last_split rs k r len found) (last_value b (take k rs) r k t front small e)
    with_read None found len e = absurd cc

    by : (last : Bool) → (k + 1 == length rs) ≡ last
        → (if last then read_target b (take k rs) (slice_get rs k) else None) ≡ Some t
        → after_reads b (k ∷ []) (read_values b rs) ≡ Ok (value_at b.machine t)
    by true e h = with_read (slice_get rs k) refl (grind (arith, nat_tests)) h
    by false e h = absurd cc

-- ---- expressions

part_is : (b : Board) (rs : List Read) (x : List ℕ) (t : Target) → read_number x ≡ None
    → part_target b rs x ≡ Some t → after_reads b x (read_values b rs) ≡ Ok (value_at b.machine t)
unfolding values_from
part_is b [] x t none is = by (part_on b x) refl is
  where
    by : (p : Option Part) → part_on b x ≡ p → option_map (λ q. target.Part q) p ≡ Some t
        → tree_value b (replicate 16 0) (tree.Named x) ≡ Ok (value_at b.machine t)
    by (Some p) e h =
        let same : target.Part p ≡ t = cc in
        named_value b (replicate 16 0) x (part_value b.machine.regs (get b.machine reg.M) p)
        (part_named_value b x p none e)
        ∙ ap (λ (s : Target). Ok (value_at b.machine s)) same
    by None e h = absurd cc
part_is b (r ∷ rs) x t none is = absurd cc

name_is : (b : Board) (rs : List Read) (x : List ℕ) (t : Target) → named_target b rs x ≡ Some t
    → after_reads b x (read_values b rs) ≡ Ok (value_at b.machine t)
name_is b rs [] t is = part_is b rs [] t refl is
name_is b rs (k ∷ []) t is = by (nat_lt k 16) refl is
  where
    by : (small : Bool) → nat_lt k 16 ≡ small
        → numbered_or_part b rs (k ∷ []) (if small then Some k else None) ≡ Some t
        → after_reads b (k ∷ []) (read_values b rs) ≡ Ok (value_at b.machine t)
    by true e h = last_read_value b rs k t e h
    by false e h = part_is b rs (k ∷ []) t (rw e refl) h
name_is b rs (c ∷ d ∷ cs) t is = part_is b rs (c ∷ d ∷ cs) t refl is

tree_is : (b : Board) (rs : List Read) (e : Tree) (t : Target)
    → option_and_then (named_target b rs) (name_alone e) ≡ Some t
    → (read_values b rs >>= λ values. tree_value b values e) ≡ Ok (value_at b.machine t)
tree_is b rs (tree.Number n) t is = absurd cc
tree_is b rs tree.Here t is = absurd cc
tree_is b rs (tree.Named x) t is = name_is b rs x t is
tree_is b rs (tree.Prefix op a) t is = absurd cc
tree_is b rs (tree.Infix op a c) t is = absurd cc
tree_is b rs (tree.Parens a) t is = absurd cc

clause_is : (b : Board) (s : Sense) (e : Term) (t : Target) → target_in b s e ≡ Some t
    → (term_value b e >>= λ value. Ok (in_sense s value)) ≡ Ok (value_at b.machine t)
clause_is b sense.Plain e t is = rw (tree_is b e.reads e.tree t is) refl
clause_is b sense.Truth e t is = absurd cc
clause_is b sense.Not e t is = absurd cc

clauses_are : (b : Board) (cs : List Clause) (t : Target) → clauses_target b cs ≡ Some t
    → clauses_value b cs ≡ Ok (value_at b.machine t)
clauses_are b [] t is = absurd cc
clauses_are b (c ∷ []) t is = clause_is b c.sense c.term t is
clauses_are b (c ∷ d ∷ cs) t is = absurd cc

pub target_has_value : (b : Board) (e : Expression) (t : Target) → target_on b e ≡ Some t
    → value_on b e ≡ Ok (value_at b.machine t)
target_has_value b e t is = clauses_are b e.clauses t is
