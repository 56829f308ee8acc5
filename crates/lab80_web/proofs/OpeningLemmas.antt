-- Frames have a request exactly if they are a message.
use Rattle.std.proofs.Common.{◌≡◌, ◌≢◌, ◌∙◌, ◌<◌, [], ◌∷◌, ◌++◌, length, Bool, true, false, Option, Some}
use Rattle.std.proofs.Common.{None}
use Rattle.std.proofs.Common.{inl, refl, ap, arith}
use Rattle.std.specs.Prelude.{IsSome, option_map, codes}
use Rattle.std.proofs.lemmas.Bool.{false≢true}
use Rattle.std.proofs.lemmas.Slice.Eq.{bytes_eq-Decides}
use Rattle.std.specs.Str.{bytes_eq}
use Rattle.base_text.specs.Bytes.{Bytes, Text, Frames}
use Rattle.serde_json.specs.Data.{Data}
use Rattle.jup_wire.specs.declared.channel.Channel.{Channel}
use Rattle.jup_wire.specs.declared.message.Parts.{Parts}
use Rattle.jup_wire.specs.declared.message.Header.{Header}
use Rattle.jup_wire.specs.declared.message.WireFault.{WireFault}
use Rattle.jup_wire.specs.declared.message.WireFault.TheVariants as fault
use Rattle.jup_wire.specs.Json.{json_of, text_at, IsHeader}
use Rattle.jup_wire.specs.Wire.{delimiter, NoDelimiter, HasParts, IsMessage, IsRefused}
use Rattle.kern_request.specs.declared.request.Request.{Request}
use Rattle.lab80_web.specs.Opening.{around_delimiter, with_identity, type_in, request_with, by_json}
use Rattle.lab80_web.specs.Opening.{request_behind}
use Rattle.lab80_web.specs.Opening.{request_in}

-- ---- the frames before and behind the delimiter

not_true : (b : Bool) → (b ≡ true → ⊥) → b ≡ false
not_true true never = absurd (never refl)
not_true false never = refl

is_other : (frame : Bytes) → frame ≢ delimiter → bytes_eq frame delimiter ≡ false
is_other frame other = not_true _ (λ e. other ((bytes_eq-Decides frame delimiter).0 e))

around_at : (identities behind : Frames) → NoDelimiter identities
    → around_delimiter (identities ++ delimiter ∷ behind) ≡ Some (identities, behind)
around_at [] behind none = refl
around_at (x ∷ identities) behind none =
    rw (is_other x none.0) (ap (option_map (with_identity x)) (around_at identities behind none.1))

around_none : (frames : Frames) → NoDelimiter frames → around_delimiter frames ≡ None
around_none [] none = refl
around_none (x ∷ frames) none =
    rw (is_other x none.0) (ap (option_map (with_identity x)) (around_none frames none.1))

-- ---- the frames behind it

request_parts : (channel : Channel) (frames : Frames) (digits : Bytes) (p : Parts) → HasParts frames digits p
    → request_in channel frames ≡ by_json (json_of p.header) (json_of p.parent_header) (json_of p.metadata)
    (json_of p.content)
    (λ value body. option_map (λ msg_type. request_with channel p.identities p.header msg_type body)
    (type_in value))
request_parts channel frames digits p parts =
    rw (parts.whole, around_at p.identities _ parts.first) refl

type_some : (d : Data) (h : Header) → IsHeader d h → type_in d ≡ Some h.msg_type
type_some d h is = rw (is.msg_id, is.msg_type, is.session) refl

type_none : (d : Data) (msg_id msg_type session : Option Text) → text_at (codes "msg_id") d ≡ msg_id
    → text_at (codes "msg_type") d ≡ msg_type → text_at (codes "session") d ≡ session
    → ((h : Header) → IsHeader d h → ⊥) → type_in d ≡ None
type_none d None msg_type session a b c never = rw a refl
type_none d (Some x) None session a b c never = rw (a, b) refl
type_none d (Some x) (Some y) None a b c never = rw (a, b, c) refl
type_none d (Some x) (Some y) (Some z) a b c never =
    absurd (never (record { msg_id = x; msg_type = y; session = z })
    (record { msg_id = a; msg_type = b; session = c }))

-- ---- messages

by_all : (o parent_header metadata content : Option Data) (f : Data → Data → Option Request) (x y : Data)
    → o ≡ Some x → IsSome parent_header → IsSome metadata → content ≡ Some y
    → by_json o parent_header metadata content f ≡ f x y
by_all o (Some p) (Some m) content f x y a b c d = rw (a, d) refl
by_all o None metadata content f x y a b c d = absurd (false≢true b)
by_all o (Some p) None content f x y a b c d = absurd (false≢true c)

pub message_request : (channel : Channel) (frames : Frames) (p : Parts) (h : Header) (content : Data)
    → IsMessage [] frames p h content
    → request_in channel frames ≡ Some (request_with channel p.identities p.header h.msg_type content)
message_request channel frames p h content m =
    request_parts channel frames m.digits p m.parts
    ∙ (by_all _ _ _ _ _ m.header_value content m.header_json m.json.1.0 m.json.1.1.0 m.content_json
    ∙ ap (option_map (λ msg_type. request_with channel p.identities p.header msg_type content))
    (type_some m.header_value h m.header))

-- ---- other frames

short_none : (channel : Channel) (identities behind : Frames) → length behind < 5
    → request_behind channel identities behind ≡ None
short_none channel identities [] h = refl
short_none channel identities (a ∷ []) h = refl
short_none channel identities (a ∷ b ∷ []) h = refl
short_none channel identities (a ∷ b ∷ c ∷ []) h = refl
short_none channel identities (a ∷ b ∷ c ∷ d ∷ []) h = refl
short_none channel identities (a ∷ b ∷ c ∷ d ∷ e ∷ behind) h = absurd (omega arith)

by_some_none : (header parent_header metadata content : Option Data) (f : Data → Data → Option Request)
    → (IsSome header → IsSome parent_header → IsSome metadata → IsSome content → ⊥)
    → by_json header parent_header metadata content f ≡ None
by_some_none None p m c f never = refl
by_some_none (Some h) None m c f never = refl
by_some_none (Some h) (Some p) None c f never = refl
by_some_none (Some h) (Some p) (Some m) None f never = refl
by_some_none (Some h) (Some p) (Some m) (Some c) f never = absurd (never refl refl refl refl)

by_header : (header parent_header metadata content : Option Data) (f : Data → Data → Option Request)
    → ((d e : Data) → header ≡ Some d → f d e ≡ None)
    → by_json header parent_header metadata content f ≡ None
by_header None p m c f never = refl
by_header (Some h) None m c f never = refl
by_header (Some h) (Some p) None c f never = refl
by_header (Some h) (Some p) (Some m) None f never = refl
by_header (Some h) (Some p) (Some m) (Some c) f never = never h c refl

pub refused_request : (channel : Channel) (frames : Frames) (reason : WireFault) → IsRefused [] frames reason
    → reason ≢ fault.OutOfMemory → request_in channel frames ≡ None
refused_request channel frames fault.OutOfMemory r other = absurd (other refl)
refused_request channel frames fault.Delimiter r other = rw (around_none frames r) refl
refused_request channel frames fault.Count r other =
    rw (r.whole, around_at r.before r.after r.first) (short_none channel r.before r.after r.few)
refused_request channel frames fault.Signature (digits, p, parts, unsigned) other =
    absurd (unsigned (inl refl))
refused_request channel frames fault.Json (digits, p, parts, signed, broken) other =
    request_parts channel frames digits p parts
    ∙ by_some_none _ _ _ _ _ (λ a b c d. broken (a, (b, (c, (d, tt)))))
refused_request channel frames fault.Header (digits, p, parts, signed, unread) other =
    request_parts channel frames digits p parts
    ∙ by_header _ _ _ _ _ (λ d e is. ap (option_map _)
    (type_none d _ _ _ refl refl refl (λ h. unread.1 d h is)))

-- both of them
pub ruleset both_ways = (message_request, refused_request)
