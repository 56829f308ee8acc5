-- Frames are one message or are refused for one reason.
use Rattle.std.proofs.Common.{◌≡◌, ◌≢◌, ◌⊎◌, inl, inr, ℕ, suc, ◌<◌, List, [], ◌∷◌, ◌++◌, length, Some, Result}
use Rattle.std.proofs.Common.{Ok, Err, IfOk, IfErr, IsErrAnd, MatchResult, arith, refl, sym, ap, ◌∙◌, subst}
use Rattle.serde_json.specs.Data.{Data}
use Rattle.serde_json.specs.View.{view}
use Rattle.jup_wire.specs.declared.message.Parts.{Parts}
use Rattle.jup_wire.specs.declared.message.Header.{Header}
use Rattle.jup_wire.specs.declared.message.Message.{Message}
use Rattle.jup_wire.specs.declared.message.WireFault.{WireFault}
use Rattle.jup_wire.specs.declared.message.WireFault.TheVariants as fault
use Rattle.jup_wire.specs.Json.{json_of, IsHeader}
use Rattle.jup_wire.specs.Wire.{delimiter, NoDelimiter, HasParts, IsSigned, AreJson, IsMessage, LacksFrames}
use Rattle.jup_wire.specs.Wire.{OpensUpTo, IsRefused}
use Rattle.jup_wire.specs.Fault.{JsonFault, HeaderFault}

-- ---- the first delimiter is one

no_delimiter_in : (xs ys : List (List ℕ)) → NoDelimiter (xs ++ delimiter ∷ ys) → ⊥
no_delimiter_in [] ys none = none.0 refl
no_delimiter_in (x ∷ xs) ys none = no_delimiter_in xs ys none.1

one_split : (xs ys us vs : List (List ℕ)) → NoDelimiter xs → NoDelimiter us
    → xs ++ delimiter ∷ ys ≡ us ++ delimiter ∷ vs
    → (xs ≡ us) × (ys ≡ vs)
one_split [] ys [] vs none_x none_u e = (refl, cc)
one_split [] ys (u ∷ us) vs none_x none_u e = absurd (none_u.0 (cc))
one_split (x ∷ xs) ys [] vs none_x none_u e = absurd (none_x.0 (cc))
one_split (x ∷ xs) ys (u ∷ us) vs none_x none_u e =
    let more = one_split xs ys us vs none_x.1 none_u.1 (cc) in
    let head : x ≡ u = cc in
    (ap (λ (y : List ℕ). y ∷ xs) head ∙ ap (λ (zs : List (List ℕ)). u ∷ zs) more.0, more.1)

same_parts : (p q : Parts) → p.identities ≡ q.identities → p.header ≡ q.header
    → p.parent_header ≡ q.parent_header
    → p.metadata ≡ q.metadata → p.content ≡ q.content → p ≡ q
same_parts p q i h ph m c =
    ap (λ (x : List (List ℕ)). record p { identities = x }) i
    ∙ ap (λ (x : List ℕ). record p { identities = q.identities; header = x }) h
    ∙ ap (λ (x : List ℕ). record q { parent_header = x; metadata = p.metadata; content = p.content }) ph
    ∙ ap (λ (x : List ℕ). record q { metadata = x; content = p.content }) m
    ∙ ap (λ (x : List ℕ). record q { content = x }) c

one_parts : (frames : List (List ℕ)) (s t : List ℕ) (p q : Parts) → HasParts frames s p → HasParts frames t q
    → (s ≡ t) × (p ≡ q)
one_parts frames s t p q a b =
    let split = one_split p.identities _ q.identities _ a.first b.first (sym a.whole ∙ b.whole) in
    (cc split.1, same_parts p q split.0 (cc split.1) (cc split.1) (cc split.1) (cc split.1))

same_header : (g h : Header) → g.msg_id ≡ h.msg_id → g.msg_type ≡ h.msg_type → g.session ≡ h.session → g ≡ h
same_header g h i t s =
    ap (λ (x : List ℕ). record g { msg_id = x }) i
    ∙ ap (λ (x : List ℕ). record h { msg_type = x; session = g.session }) t
    ∙ ap (λ (x : List ℕ). record h { session = x }) s

one_header : (d : Data) (g h : Header) → IsHeader d g → IsHeader d h → g ≡ h
one_header d g h a b =
    same_header g h (cc (a.msg_id, b.msg_id)) (cc (a.msg_type, b.msg_type)) (cc (a.session, b.session))

-- ---- no two verdicts

-- what is signed has these parts
opens_same : (key : List ℕ) (frames : List (List ℕ)) (P : Parts → Type 0) (s : List ℕ) (p : Parts)
    → HasParts frames s p → OpensUpTo key frames P → IsSigned key s p × P p
opens_same key frames P s p a (t, q, b, signed, holds) =
    let one = one_parts frames t s q p b a in (
      subst (λ (x : List ℕ). IsSigned key x p) one.0 (subst (λ (x : Parts). IsSigned key t x) one.1 signed),
      subst P one.1 holds,
    )

-- a reason that comes before the parts are known
no_parts_delimiter : (frames : List (List ℕ)) (s : List ℕ) (p : Parts) → HasParts frames s p
    → NoDelimiter frames → ⊥
no_parts_delimiter frames s p a none = no_delimiter_in p.identities _ (subst NoDelimiter a.whole none)

no_parts_count : (frames : List (List ℕ)) (s : List ℕ) (p : Parts) → HasParts frames s p → LacksFrames frames
    → ⊥
no_parts_count frames s p a lacks =
    let split = one_split p.identities _ lacks.before _ a.first lacks.first (sym a.whole ∙ lacks.whole) in
    let long : suc (suc (suc (suc (suc (length a.buffers))))) ≡ length lacks.after = ap length split.1 in
    let few : length lacks.after < 5 = lacks.few in
    omega arith

delimiter_or_count : (frames : List (List ℕ)) → NoDelimiter frames → LacksFrames frames → ⊥
delimiter_or_count frames none lacks =
    no_delimiter_in lacks.before lacks.after (subst NoDelimiter lacks.whole none)

signature_or_opens : (key : List ℕ) (frames : List (List ℕ)) (P : Parts → Type 0)
    → IsRefused key frames fault.Signature → OpensUpTo key frames P → ⊥
signature_or_opens key frames P (s, p, a, wrong) opens = wrong (opens_same key frames P s p a opens).0

json_or_header : (key : List ℕ) (frames : List (List ℕ)) → IsRefused key frames fault.Json
    → IsRefused key frames fault.Header → ⊥
json_or_header key frames (s, p, a, signed, no_json) opens =
    no_json (opens_same key frames _ s p a opens).1.0

pub one_fault : (key : List ℕ) (frames : List (List ℕ)) (e f : WireFault) → IsRefused key frames e
    → IsRefused key frames f
    → (f ≡ e) ⊎ ((e ≡ fault.OutOfMemory) ⊎ (f ≡ fault.OutOfMemory))
one_fault key frames fault.OutOfMemory f a b = inr (inl refl)
one_fault key frames e fault.OutOfMemory a b = inr (inr refl)
one_fault key frames fault.Delimiter fault.Delimiter a b = inl refl
one_fault key frames fault.Delimiter fault.Count a b = absurd (delimiter_or_count frames a b)
one_fault key frames fault.Delimiter fault.Signature a b = absurd (no_parts_delimiter frames b.0 b.1 b.2 a)
one_fault key frames fault.Delimiter fault.Json a b = absurd (no_parts_delimiter frames b.0 b.1 b.2 a)
one_fault key frames fault.Delimiter fault.Header a b = absurd (no_parts_delimiter frames b.0 b.1 b.2 a)
one_fault key frames fault.Count fault.Delimiter a b = absurd (delimiter_or_count frames b a)
one_fault key frames fault.Count fault.Count a b = inl refl
one_fault key frames fault.Count fault.Signature a b = absurd (no_parts_count frames b.0 b.1 b.2 a)
one_fault key frames fault.Count fault.Json a b = absurd (no_parts_count frames b.0 b.1 b.2 a)
one_fault key frames fault.Count fault.Header a b = absurd (no_parts_count frames b.0 b.1 b.2 a)
one_fault key frames fault.Signature fault.Delimiter a b = absurd (no_parts_delimiter frames a.0 a.1 a.2 b)
one_fault key frames fault.Signature fault.Count a b = absurd (no_parts_count frames a.0 a.1 a.2 b)
one_fault key frames fault.Signature fault.Signature a b = inl refl
one_fault key frames fault.Signature fault.Json a b = absurd (signature_or_opens key frames _ a b)
one_fault key frames fault.Signature fault.Header a b = absurd (signature_or_opens key frames _ a b)
one_fault key frames fault.Json fault.Delimiter a b = absurd (no_parts_delimiter frames a.0 a.1 a.2 b)
one_fault key frames fault.Json fault.Count a b = absurd (no_parts_count frames a.0 a.1 a.2 b)
one_fault key frames fault.Json fault.Signature a b = absurd (signature_or_opens key frames _ b a)
one_fault key frames fault.Json fault.Json a b = inl refl
one_fault key frames fault.Json fault.Header a b = absurd (json_or_header key frames a b)
one_fault key frames fault.Header fault.Delimiter a b = absurd (no_parts_delimiter frames a.0 a.1 a.2 b)
one_fault key frames fault.Header fault.Count a b = absurd (no_parts_count frames a.0 a.1 a.2 b)
one_fault key frames fault.Header fault.Signature a b = absurd (signature_or_opens key frames _ b a)
one_fault key frames fault.Header fault.Json a b = absurd (json_or_header key frames b a)
one_fault key frames fault.Header fault.Header a b = inl refl

message_or_refused : (key : List ℕ) (frames : List (List ℕ)) (p : Parts) (h : Header) (d : Data)
    → IsMessage key frames p h d
    → (e : WireFault) → IsRefused key frames e → e ≡ fault.OutOfMemory
message_or_refused key frames p h d m fault.OutOfMemory r = refl
message_or_refused key frames p h d m fault.Delimiter r =
    absurd (no_parts_delimiter frames m.digits p m.parts r)
message_or_refused key frames p h d m fault.Count r = absurd (no_parts_count frames m.digits p m.parts r)
message_or_refused key frames p h d m fault.Signature r =
    let opens : OpensUpTo key frames (λ q. Unit {0}) = (m.digits, p, m.parts, m.signed, tt) in
    absurd (signature_or_opens key frames (λ q. Unit {0}) r opens)
message_or_refused key frames p h d m fault.Json r =
    absurd ((opens_same key frames _ m.digits p m.parts r).1 m.json)
message_or_refused key frames p h d m fault.Header r =
    absurd ((opens_same key frames _ m.digits p m.parts r).1.1 m.header_value h m.header_json m.header)

one_message : (key : List ℕ) (frames : List (List ℕ)) (p q : Parts) (h g : Header) (c d : Data)
    → IsMessage key frames p h c → IsMessage key frames q g d → (p ≡ q) × (h ≡ g) × (c ≡ d)
one_message key frames p q h g c d m n =
    let parts : p ≡ q = (one_parts frames m.digits n.digits p q m.parts n.parts).1 in
    let header_json : json_of p.header ≡ json_of q.header = ap (λ (x : Parts). json_of x.header) parts in
    let content_json : json_of p.content ≡ json_of q.content = ap (λ (x : Parts). json_of x.content) parts in
    let value : n.header_value ≡ m.header_value = cc (header_json, m.header_json, n.header_json) in
    let content : c ≡ d = cc (content_json, m.content_json, n.content_json) in (
      parts,
      one_header m.header_value h g m.header (subst (λ (x : Data). IsHeader x g) value n.header),
      content,
    )

-- ---- what a result that is right one way is the other way

pub only_this : (key : List ℕ) (frames : List (List ℕ)) (r : Result Message WireFault)
    → IfOk r (λ m. IsMessage key frames m.parts m.header (view m.content)) → IfErr r (IsRefused key frames)
    → (p : Parts) (h : Header) (d : Data) → IsMessage key frames p h d
    → MatchResult r (λ m. (m.parts ≡ p) × (m.header ≡ h) × (view m.content ≡ d)) (λ e. e ≡ fault.OutOfMemory)
only_this key frames (Ok m) message refused p h d is =
    one_message key frames m.parts p m.header h (view m.content) d message is
only_this key frames (Err e) message refused p h d is = message_or_refused key frames p h d is e refused

pub first_fault : (key : List ℕ) (frames : List (List ℕ)) (r : Result Message WireFault)
    → IfOk r (λ m. IsMessage key frames m.parts m.header (view m.content)) → IfErr r (IsRefused key frames)
    → (e : WireFault) → IsRefused key frames e → e ≢ fault.OutOfMemory
    → IsErrAnd r (λ f. (f ≡ e) ⊎ (f ≡ fault.OutOfMemory))
first_fault key frames (Ok m) message refused e is other =
    absurd (other (message_or_refused key frames m.parts m.header (view m.content) message e is))
first_fault key frames (Err f) message refused e is other =
    elim (one_fault key frames e f is refused) [
      | inl same ↦ inl same
      | inr memory ↦ elim memory [ inl e_is ↦ absurd (other e_is) | inr f_is ↦ inr f_is ]
    ]

-- ---- the faults of the steps

pub json_refused : (key : List ℕ) (frames : List (List ℕ)) (s : List ℕ) (p : Parts) → HasParts frames s p
    → IsSigned key s p
    → (e : WireFault) → JsonFault e (¬ AreJson p) → IsRefused key frames e
json_refused key frames s p parts signed fault.OutOfMemory f = (s, p, parts, signed, tt)
json_refused key frames s p parts signed fault.Json f = (s, p, parts, signed, f)
json_refused key frames s p parts signed _ f = absurd f

pub header_refused : (key : List ℕ) (frames : List (List ℕ)) (s : List ℕ) (p : Parts) (d : Data)
    → HasParts frames s p
    → IsSigned key s p → AreJson p → json_of p.header ≡ Some d
    → (e : WireFault) → HeaderFault e ((h : Header) → ¬ IsHeader d h) → IsRefused key frames e
header_refused key frames s p d parts signed json reads fault.OutOfMemory f = (s, p, parts, signed, tt)
header_refused key frames s p d parts signed json reads fault.Header f = (
  s,
  p,
  parts,
  signed,
  (
    json,
    λ v h is. let same : d ≡ v = cc (reads, is) in
        subst (λ (x : Data). ¬ IsHeader x h) same (f h),
  ),
)
header_refused key frames s p d parts signed json reads _ f = absurd f
