use Rattle.std.proofs.Common.{◌≡◌, ℕ, ◌+◌, ◌<◌, Bool, true, false, Option, Some, None, List, [], ◌∷◌, ◌++◌}
use Rattle.std.proofs.Common.{length, take, drop, refl, arith, sym, ◌∙◌, ap, length-append, codes}
use Rattle.std.proofs.Common.{if◌then◌else◌, ◌==◌, not}
use Rattle.std.specs.Str.{str_eq_ignore_ascii_case, bytes_eq}
use Rattle.std.specs.Bool.{OnFalse}
use Rattle.std.proofs.lemmas.Slice.Eq.{bytes_eq-Decides}
use Rattle.std.proofs.lemmas.Bool.Decides.{nat_tests}
use Rattle.std.proofs.Math.Seq.{drop-append_seam, take-append_seam}
use Rattle.zmtp_wire.specs.Framing.{number_from}
use Rattle.zmtp_wire.specs.Commands.{IsNamed, IsProperty, IsProperties, NoProperty, NextProperty, Property}
use Rattle.zmtp_wire.specs.Commands.{property}
use Rattle.zmtp_wire.specs.Commands.{IsReady, value_of, first_value, Finds, IsSkipped}

-- where the fronts are equally long, both parts are the same
pub record SameParts (front front' others others' : List ℕ) : Type 0 where
  pub front_is : front ≡ front'
  pub others_are : others ≡ others'

pub same_parts : (front front' others others' : List ℕ) → length front ≡ length front'
    → front ++ others ≡ front' ++ others' → SameParts front front' others others'
same_parts front front' others others' n e = record {
  front_is = sym (take-append_seam front others) ∙ (ap (λ l. take (length front) l) e
      ∙ (ap (λ k. take k (front' ++ others')) n ∙ take-append_seam front' others'));
  others_are = sym (drop-append_seam front others) ∙ (ap (λ l. drop (length front) l) e
      ∙ (ap (λ k. drop k (front' ++ others')) n ∙ drop-append_seam front' others'));
}

-- a name stands at the front in one way only
pub same_named : (bytes name name' others others' : List ℕ) → IsNamed bytes name others
    → IsNamed bytes name' others' → SameParts name name' others others'
same_named bytes name name' others others' n n' =
    let e : length name ∷ (name ++ others) ≡ length name' ∷ (name' ++ others') = sym n.spelled ∙ n'.spelled in
    let k : length name ≡ length name' = cc in
    let t : name ++ others ≡ name' ++ others' = cc in
    same_parts name name' others others' k t

pub record SameProperty (name name' value value' others others' : List ℕ) : Type 0 where
  pub name_is : name ≡ name'
  pub value_is : value ≡ value'
  pub others_are : others ≡ others'

-- so does a property
pub same_property : (bytes name name' value value' others others' : List ℕ)
    → IsProperty bytes name value others → IsProperty bytes name' value' others'
    → SameProperty name name' value value' others others'
same_property bytes name name' value value' others others' p p' =
    let n = same_named bytes name name' (p.digits ++ (value ++ others)) (p'.digits ++ (value' ++ others'))
    p.named p'.named in
    let four : length p.digits ≡ length p'.digits = p.four ∙ sym p'.four in
    let d = same_parts p.digits p'.digits (value ++ others) (value' ++ others') four n.others_are in
    let k : length value ≡ length value' = sym p.size ∙ (ap (number_from 0) d.front_is ∙ p'.size) in
    let v = same_parts value value' others others' k d.others_are in
    record { name_is = n.front_is; value_is = v.front_is; others_are = v.others_are }

-- a property whose value is longer than what is there is none
pub too_long : (bytes name others digits after : List ℕ) → IsNamed bytes name others
    → others ≡ digits ++ after → length digits ≡ 4 → length after < number_from 0 digits → (n v o : List ℕ)
    → IsProperty bytes n v o → ⊥
too_long bytes name others digits after named e four long n v o p =
    let s = same_named bytes name n others (p.digits ++ (v ++ o)) named p.named in
    let both : digits ++ after ≡ p.digits ++ (v ++ o) = sym e ∙ s.others_are in
    let d = same_parts digits p.digits after (v ++ o) (four ∙ sym p.four) both in
    let k : number_from 0 digits ≡ length v = ap (number_from 0) d.front_is ∙ p.size in
    let m : length after ≡ length v + length o = ap length d.others_are ∙ length-append v o in
    omega (arith, k, m, long)

-- of these bytes those before the rest are properties, with these values of the two that count
pub record Passed (bytes rest : List ℕ) (socket_type identity : Option (List ℕ)) : Type 0 where
  pub on : (others : List Property) → IsProperties rest others
      → Finds bytes (first_value socket_type (value_of (codes "Socket-Type") others))
      (first_value identity (value_of (codes "Identity") others))
  pub back : (all : List Property) → IsProperties bytes all → (others : List Property)
      × IsProperties rest others

first_value_next : (wanted : List ℕ) (found : Option (List ℕ)) (p : Property) (others : List Property)
    → first_value (first_value found (value_of wanted (p ∷ []))) (value_of wanted others) ≡ first_value found
    (value_of wanted (p ∷ others))
first_value_next wanted (Some x) p others = refl
first_value_next wanted None p others =
    elim (str_eq_ignore_ascii_case p.name wanted) as
    (λ b. first_value (first_value None (if b then (Some p.value) else None)) (value_of wanted others)
    ≡ first_value None (if b then (Some p.value) else (value_of wanted others)))
    [ true ↦ refl | false ↦ refl ]

others_of : (rest name value others : List ℕ) (all : List Property) → IsProperty rest name value others
    → IsProperties rest all → (o : List Property) × IsProperties others o
others_of _ name value others _ p (NoProperty rest e) =
    absurd (let k = e in let n = sym e ∙ p.named.spelled in cc)
others_of _ name value others _ p (NextProperty rest name' value' others' properties p' are) =
    let s = same_property rest name name' value value' others others' p p' in
    (properties, rw s.others_are are)

pub passed_next : (bytes rest name value others : List ℕ)
    (socket_type identity socket_type' identity' : Option (List ℕ)) → Passed bytes rest socket_type identity
    → IsProperty rest name value others → socket_type' ≡ first_value socket_type
    (value_of (codes "Socket-Type") (property name value ∷ [])) → identity' ≡ first_value identity
    (value_of (codes "Identity") (property name value ∷ [])) → Passed bytes others socket_type' identity'
passed_next bytes rest name value others socket_type identity socket_type' identity' passed p s i = record {
  on = λ o are. (let f = passed.on (property name value ∷ o) (NextProperty rest name value others o p are) in
      let a : first_value socket_type' (value_of (codes "Socket-Type") o) ≡ first_value socket_type
      (value_of (codes "Socket-Type") (property name value ∷ o)) =
      ap (λ x. first_value x (value_of (codes "Socket-Type") o)) s
      ∙ first_value_next (codes "Socket-Type") socket_type (property name value) o in
      let b : first_value identity' (value_of (codes "Identity") o) ≡ first_value identity
      (value_of (codes "Identity") (property name value ∷ o)) =
      ap (λ x. first_value x (value_of (codes "Identity") o)) i ∙ first_value_next (codes "Identity")
      identity (property name value) o in
      record {
        properties = f.properties;
        are = f.are;
        socket_type_is = a ∙ f.socket_type_is;
        identity_is = b ∙ f.identity_is;
      });
  back = λ all are. (let r = passed.back all are in others_of rest name value others r.0 p r.1);
}

first_value_none : (found : Option (List ℕ)) → first_value found None ≡ found
first_value_none (Some x) = refl
first_value_none None = refl

pub passed_all : (bytes rest : List ℕ) (socket_type identity : Option (List ℕ))
    → Passed bytes rest socket_type identity → rest ≡ [] → Finds bytes socket_type identity
passed_all bytes rest socket_type identity passed e =
    let f = passed.on [] (NoProperty rest e) in
    record {
      properties = f.properties;
      are = f.are;
      socket_type_is = sym (first_value_none socket_type) ∙ f.socket_type_is;
      identity_is = sym (first_value_none identity) ∙ f.identity_is;
    }

none_there : (rest : List ℕ) (all : List Property) → (rest ≡ [] → ⊥) → ((name value others : List ℕ)
    → IsProperty rest name value others → ⊥) → IsProperties rest all → ⊥
none_there _ _ some none (NoProperty rest e) = some e
none_there _ _ some none (NextProperty rest name value others properties p are) = none name value others p

pub passed_fault : (bytes rest : List ℕ) (socket_type identity : Option (List ℕ))
    → Passed bytes rest socket_type identity → (rest ≡ [] → ⊥) → ((name value others : List ℕ)
    → IsProperty rest name value others → ⊥) → (all : List Property) → IsProperties bytes all → ⊥
passed_fault bytes rest socket_type identity passed some none all are =
    let r = passed.back all are in none_there rest r.0 some none r.1

pub empty_is : (rest : List ℕ) → true ≡ (length rest == 0) → rest ≡ []
empty_is [] e = refl
empty_is (x ∷ rest) e = absurd (grind (arith, nat_tests))

pub some_are : (rest : List ℕ) → false ≡ (length rest == 0) → rest ≡ [] → ⊥
some_are [] e h = cc
some_are (x ∷ rest) e h = cc

pub another : (name text : List ℕ) → true ≡ not (bytes_eq name text) → name ≡ text → ⊥
another name text e h =
    let k : bytes_eq name text ≡ true = (bytes_eq-Decides name text).1 h in let d = rw k at e in cc

not_false : (b : Bool) → false ≡ not b → b ≡ true
not_false true e = refl
not_false false e = cc

-- a command that is ERROR isn't passed over
pub not_skipped : (skipped : Bool) (body name others text : List ℕ) → IsNamed body name others
    → text ≡ codes "ERROR" → skipped ≡ not (bytes_eq name text) → OnFalse skipped (IsSkipped body → ⊥)
not_skipped true body name others text named t e = tt
not_skipped false body name others text named t e =
    λ s. s.harmless ((same_named body s.name name s.others others s.named named).front_is
    ∙ ((bytes_eq-Decides name text).0 (not_false (bytes_eq name text) e) ∙ t))

pub no_ready : (body : List ℕ) → ((name others : List ℕ) → IsNamed body name others → ⊥)
    → (properties : List Property) → IsReady body properties → ⊥
no_ready body none properties r = none (codes "READY") r.others r.named

pub other_command : (body name others : List ℕ) → IsNamed body name others → (name ≡ codes "READY" → ⊥)
    → (properties : List Property) → IsReady body properties → ⊥
other_command body name others named other properties r =
    other (same_named body name (codes "READY") others r.others named r.named).front_is
