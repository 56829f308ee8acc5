use Rattle.std.proofs.Common.{◌≡◌, ℕ, ◌+◌, ◌≤◌, Bool, true, false, Option, Some, None, List}
use Rattle.std.proofs.Common.{[], ◌∷◌, ◌++◌, length, take, drop, refl, arith, sym, ◌∙◌, ap, subst}
use Rattle.std.proofs.Common.{length-append, nat_le, if◌then◌else◌, codes}
use Rattle.std.proofs.lemmas.Bool.{le-leb}
use Rattle.std.proofs.lemmas.List.{take-append-drop, length-take-le}
use Rattle.zmtp_wire.specs.declared.fault.StreamFault.{StreamFault}
use Rattle.zmtp_wire.specs.declared.head.Stage.{Stage}
use Rattle.zmtp_wire.specs.declared.head.Stage.TheVariants.{Greeting, Handshake, Traffic}
use Rattle.zmtp_wire.specs.declared.head.Head.TheVariants.{Wants, Greets}
use Rattle.zmtp_wire.specs.declared.role.Role.{Role}
use Rattle.zmtp_wire.specs.Greeting.{broken_by, first_broken, or_else, IsGreeting}
use Rattle.zmtp_wire.specs.Commands.{Property, IsProperties, NoProperty, NextProperty, IsReady, IsAccepted}
use Rattle.zmtp_wire.specs.Commands.{IsSkipped}
use Rattle.zmtp_wire.specs.Commands.{IsRefused, NoReady, Unfit, NotSkipped, value_of}
use Rattle.zmtp_wire.specs.Head.{head_of, greeting_head}
use Rattle.zmtp_wire.proofs.CommandLemmas.{same_property, same_named}
use Rattle.zmtp_wire.proofs.FramingLemmas.{no_greeting}
use Rattle.zmtp_wire.proofs.HeadLemmas.{first_broken-past}

-- GREETINGS

-- what is found after a byte rests on the bytes after it
or_else_same : (o x y r : Option StreamFault) → (x ≡ r → y ≡ r) → or_else o x ≡ r → or_else o y ≡ r
or_else_same None x y r f e = f e
or_else_same (Some c) x y r f e = e

first_broken-good : (place : ℕ) (a b : List ℕ) → first_broken place a ≡ None → 32 ≤ place + length a
    → first_broken place (a ++ b) ≡ None
first_broken-good place [] b e h = first_broken-past place b (omega arith)
first_broken-good place (x ∷ a) b e h =
    or_else_same (broken_by place x) _ _ None (λ n. first_broken-good (place + 1) a b n (omega arith)) e

first_broken-front : (place : ℕ) (a b : List ℕ) → first_broken place (a ++ b) ≡ None
    → first_broken place a ≡ None
first_broken-front place [] b e = refl
first_broken-front place (x ∷ a) b e =
    or_else_same (broken_by place x) _ _ None (first_broken-front (place + 1) a b) e

pub first_broken-more : (place : ℕ) (a b : List ℕ) (c : StreamFault) → first_broken place a ≡ Some c
    → first_broken place (a ++ b) ≡ Some c
first_broken-more place [] b c e = absurd (cc)
first_broken-more place (x ∷ a) b c e =
    or_else_same (broken_by place x) _ _ (Some c) (first_broken-more (place + 1) a b c) e

-- a number of bytes that is 64, kept as a variable
greets_at : (count n : ℕ) (bytes : List ℕ) → first_broken 0 bytes ≡ None → n ≡ 64 → n ≤ length bytes
    → head_of Greeting count bytes ≡ Greets
greets_at count n bytes e is h = rw (e, le-leb 64 (length bytes) (omega arith)) refl

pub greeting_says : (count : ℕ) (bytes raw others : List ℕ) → IsGreeting raw → bytes ≡ raw ++ others
    → head_of Greeting count bytes ≡ Greets
greeting_says count bytes raw others g e =
    let good : first_broken 0 bytes ≡ None =
    rw e (first_broken-good 0 raw others g.good (omega (arith, g.whole))) in
    let whole : 64 ≤ length bytes = rw e (omega (arith, length-append raw others, g.whole)) in
    greets_at count 64 bytes good refl whole

record Welcome (o : Option StreamFault) (bytes : List ℕ) : Type 0 where
  pub good : o ≡ None
  pub whole : 64 ≤ length bytes

welcome : (o : Option StreamFault) (bytes : List ℕ) → greeting_head o bytes ≡ Greets → Welcome o bytes
welcome (Some c) bytes e = absurd (cc)
welcome None bytes e = record { good = refl; whole = at_64 (nat_le 64 (length bytes)) refl e }
  where
    at_64 : (b : Bool) → nat_le 64 (length bytes) ≡ b → (if b then Greets else Wants) ≡ Greets
        → 64 ≤ length bytes
    at_64 true is e = grind (arith, is)
    at_64 false is e = absurd (cc)

-- the greeting at the front, where the head says that there is one
pub record Opened (stage : Stage) (bytes : List ℕ) (n : ℕ) : Type 0 where
  pub stage_is : stage ≡ Greeting
  pub whole : n ≤ length bytes
  pub greeting : IsGreeting (take n bytes)

pub opened : (stage : Stage) (count n : ℕ) (bytes : List ℕ) → n ≡ 64 → head_of stage count bytes ≡ Greets
    → Opened stage bytes n
opened Greeting count n bytes is e =
    let w = welcome (first_broken 0 bytes) bytes e in
    let whole : n ≤ length bytes = omega (arith, w.whole) in
    let P : List ℕ → Type 0 = λ l. first_broken 0 l ≡ None in
    record {
      stage_is = refl;
      whole = whole;
      greeting = record {
        whole = length-take-le n bytes whole ∙ is;
        good = first_broken-front 0 (take n bytes) (drop n bytes)
            (subst P (sym (take-append-drop n bytes)) w.good);
      };
    }
opened Handshake count n bytes is e = absurd (no_greeting Handshake count bytes e)
opened Traffic count n bytes is e = absurd (no_greeting Traffic count bytes e)

-- COMMANDS

same_properties : (bytes : List ℕ) (p q : List Property) → IsProperties bytes p → IsProperties bytes q → p ≡ q
same_properties _ _ _ (NoProperty bytes e) (NoProperty _ f) = refl
same_properties _ _ _ (NoProperty bytes e) (NextProperty _ name value others properties p are) =
    absurd (let k = sym e ∙ p.named.spelled in cc)
same_properties _ _ _ (NextProperty bytes name value others properties p are) (NoProperty _ e) =
    absurd (let k = sym e ∙ p.named.spelled in cc)
same_properties _ _ _ (NextProperty bytes name value others properties p are)
    (NextProperty _ name' value' others' properties' p' are') =
    let s = same_property bytes name name' value value' others others' p p' in
    let k = same_properties others properties properties' are (rw s.others_are are') in
    let a = s.name_is in
    let b = s.value_is in
    cc

same_ready : (body : List ℕ) (p q : List Property) → IsReady body p → IsReady body q → p ≡ q
same_ready body p q r s =
    let n = same_named body (codes "READY") (codes "READY") r.others s.others r.named s.named in
    same_properties r.others p q r.properties_are (rw n.others_are s.properties_are)

pub same_identity : (role : Role) (body : List ℕ) (i j : Option (List ℕ)) → IsAccepted role body i
    → IsAccepted role body j → i ≡ j
same_identity role body i j a b =
    a.identity_is
    ∙ (ap (value_of (codes "Identity")) (same_ready body a.properties b.properties a.ready b.ready)
    ∙ sym b.identity_is)

pub accepted_never : (role : Role) (stage : Stage) (body : List ℕ) (identity : Option (List ℕ))
    (c : StreamFault) → stage ≡ Handshake → IsAccepted role body identity → IsRefused role stage body c → ⊥
accepted_never role stage body identity c first a (NoReady s e none) = none a.properties a.ready
accepted_never role stage body identity c first a (Unfit s e u) =
    u.unfit (rw (same_ready body a.properties u.properties a.ready u.ready) at a.fits)
accepted_never role stage body identity c first a (NotSkipped s e k) = let x = sym first ∙ s in cc

pub skipped_never : (role : Role) (stage : Stage) (body : List ℕ) (c : StreamFault) → stage ≡ Traffic
    → IsSkipped body → IsRefused role stage body c → ⊥
skipped_never role stage body c later k (NoReady s e none) = let x = sym later ∙ s in cc
skipped_never role stage body c later k (Unfit s e u) = let x = sym later ∙ s in cc
skipped_never role stage body c later k (NotSkipped s e never) = never k

-- a command is refused for one reason
pub same_refusal : (role : Role) (stage : Stage) (body : List ℕ) (c d : StreamFault)
    → IsRefused role stage body c → IsRefused role stage body d → c ≡ d
same_refusal role stage body c d (NoReady s e none) (NoReady t f never) = e ∙ sym f
same_refusal role stage body c d (NoReady s e none) (Unfit t f u) = absurd (none u.properties u.ready)
same_refusal role stage body c d (NoReady s e none) (NotSkipped t f k) = e ∙ sym f
same_refusal role stage body c d (Unfit s e u) (NoReady t f none) = absurd (none u.properties u.ready)
same_refusal role stage body c d (Unfit s e u) (Unfit t f v) = e ∙ sym f
same_refusal role stage body c d (Unfit s e u) (NotSkipped t f k) = absurd (let x = sym s ∙ t in cc)
same_refusal role stage body c d (NotSkipped s e k) (NoReady t f none) = e ∙ sym f
same_refusal role stage body c d (NotSkipped s e k) (Unfit t f u) = absurd (let x = sym s ∙ t in cc)
same_refusal role stage body c d (NotSkipped s e k) (NotSkipped t f l) = e ∙ sym f
