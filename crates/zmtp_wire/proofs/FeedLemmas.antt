use Rattle.std.proofs.Common.{◌≡◌, ℕ, Option, Some, None, List, [], ◌++◌, length, refl, sym, ◌∙◌, ap}
use Rattle.std.proofs.lemmas.List.{append-nil}
use Rattle.zmtp_wire.specs.declared.fault.StreamFault.{StreamFault}
use Rattle.zmtp_wire.specs.declared.head.Stage.{Stage}
use Rattle.zmtp_wire.specs.declared.head.Stage.TheVariants.{Greeting}
use Rattle.zmtp_wire.specs.declared.head.Kind.{Kind}
use Rattle.zmtp_wire.specs.declared.head.Kind.TheVariants.{Command, Message}
use Rattle.zmtp_wire.specs.declared.role.Role.{Role}
use Rattle.zmtp_wire.specs.declared.progress.Progress.{Progress}
use Rattle.zmtp_wire.specs.Framing.{IsAllowed}
use Rattle.zmtp_wire.specs.Stream.{Got, opening, Step, Greets as Greeted, Readies, Skips}
use Rattle.zmtp_wire.specs.Stream.{TakesFrame, Reads, Stays, Fault, InGreeting, InFlag, InSize}
use Rattle.zmtp_wire.specs.Stream.{InCommand, IsPartial, DecoderState, got_by, EndsIn, HasReadMessages}
use Rattle.zmtp_wire.specs.Stream.{Completes}
use Rattle.zmtp_wire.specs.Progress.{got_in, identity_from, WhateverBefore, EndsAt}
use Rattle.zmtp_wire.proofs.ReadingLemmas.{reads_preceded, reads_more, reads_cut, fault_more}
use Rattle.zmtp_wire.proofs.ReadingLemmas.{partial_wants, Ends, one_reading_lem}

-- what stands at the front rests on the stage and the frames alone
allowed_same : (g h : Got) (raw : List ℕ) (kind : Kind) (body : List ℕ) → g.stage ≡ h.stage
    → g.frames ≡ h.frames
    → IsAllowed h.stage (length h.frames) raw kind body → IsAllowed g.stage (length g.frames) raw kind body
allowed_same g h raw kind body a b w = rw (a, b) w

step_same : (role : Role) (g h i : Got) (raw : List ℕ) → g.stage ≡ h.stage → g.frames ≡ h.frames
    → Step role h raw i
    → (j : Got) × Step role g raw j
step_same role g _ _ _ a b (Greeted h i raw s k e) = (_, Greeted g _ raw (a ∙ s) k refl)
step_same role g _ _ _ a b (Readies h i raw body identity s w k e) =
    (_, Readies g _ raw body identity (a ∙ s) (allowed_same g h raw Command body a b w) k refl)
step_same role g _ _ _ a b (Skips h i raw body s w k e) =
    (_, Skips g _ raw body (a ∙ s) (allowed_same g h raw Command body a b w) k refl)
step_same role g _ _ _ a b (TakesFrame h i raw body position w e) =
    (_, TakesFrame g _ raw body position (allowed_same g h raw (Message position) body a b w) refl)

fault_same : (role : Role) (g h : Got) (bytes : List ℕ) (c : StreamFault) → g.stage ≡ h.stage
    → g.frames ≡ h.frames
    → Fault role h bytes c → Fault role g bytes c
fault_same role g _ _ _ a b (InGreeting h bytes c s e) = InGreeting g bytes c (a ∙ s) e
fault_same role g _ _ _ a b (InFlag h bytes others flag c past is e) =
    InFlag g bytes others flag c (λ k. past (sym a ∙ k)) is (rw (a, b) e)
fault_same role g _ _ _ a b (InSize h bytes others flag c is e long large k) =
    InSize g bytes others flag c is (rw (a, b) e) long large k
fault_same role g _ _ _ a b (InCommand h bytes raw others body c is w r) =
    InCommand g bytes raw others body c is (allowed_same g h raw Command body a b w) (rw a r)

pub partial_same : (role : Role) (g h : Got) (bytes : List ℕ) → g.stage ≡ h.stage → g.frames ≡ h.frames
    → IsPartial role g bytes → IsPartial role h bytes
partial_same role g h bytes a b p = record {
  unfinished = λ raw others i step e. (let s = step_same role g h i raw a b step in
      p.unfinished raw others s.0 s.1 e);
  good = λ c f. p.good c (fault_same role g h bytes c a b f);
}

-- a side that is at the opening
partial_empty : (role : Role) → IsPartial role opening []
partial_empty role = partial_wants role opening [] refl

pub stands_new : (s : DecoderState) → s.stage ≡ Greeting → s.identity ≡ None → s.frames ≡ [] → s.rest ≡ []
    → s.fault ≡ None → HasReadMessages s [] []
stands_new s a b d e f =
    let g : opening ≡ got_by s [] = cc in
    record {
      rest = [];
      reads = rw (← g) (Stays opening []);
      ends = rw f (sym e, rw (← g) (partial_empty s.role));
    }

-- the state of a feed before its first item
abbrev pub start_of : DecoderState → Option (List ℕ) → Got
start_of s before = record { stage = s.stage; identity = before; messages = []; frames = s.frames }

-- a side after a feed: it keeps the rest, but none after a fault
abbrev pub kept_rest : List ℕ → Option StreamFault → List ℕ
kept_rest rest None = rest
kept_rest rest (Some c) = []

abbrev pub decoder_after : DecoderState → Progress → List ℕ → Option StreamFault → DecoderState
decoder_after old p rest fault = record {
  role = old.role;
  stage = p.stage;
  identity = identity_from p.accepted old.identity;
  frames = p.frames;
  rest = kept_rest rest fault;
  fault = fault;
}

ends_in : (old : DecoderState) (p : Progress) (rest : List ℕ) (fault : Option StreamFault)
    (messages : List (List (List ℕ)))
    → EndsAt old.role rest fault p
    → EndsIn (decoder_after old p rest fault) (got_by (decoder_after old p rest fault) messages) rest fault
ends_in old p rest None messages ends = (
  refl,
  partial_same old.role (got_in p old.identity) (got_by (decoder_after old p rest None)
      messages) rest refl refl
      (ends old.identity),
)
ends_in old p rest (Some c) messages ends = (
  refl,
  fault_same old.role (got_by (decoder_after old p rest (Some c)) messages)
      (got_in p old.identity) rest c refl refl
      (ends old.identity),
)

-- a feed that found items and then a rest, or a fault
completes : (old : DecoderState) (piece rest : List ℕ) (p : Progress) (fault : Option StreamFault)
    → old.fault ≡ None
    → ((before : Option (List ℕ))
    → Reads old.role (start_of old before) (old.rest ++ piece) (got_in p before) rest)
    → EndsAt old.role rest fault p → Completes old piece p.messages.items (decoder_after old p rest fault)
completes old piece rest p fault f reads ends = record {
  role = refl;
  represents = λ stream messages st. (
      let new = decoder_after old p rest fault in
      let e = rw f at st.ends in
      let h = got_by new (messages ++ p.messages.items) in
      let now = reads_preceded old.role messages (start_of old old.identity) (got_in p old.identity)
      (old.rest ++ piece) rest (reads old.identity) in
      record {
        rest = rest;
        reads = reads_cut old.role opening (got_by old messages) h stream piece st.rest rest st.reads
            (rw e.0 (rw (append-nil messages) at now));
        ends = ends_in old p rest fault (messages ++ p.messages.items) ends;
      });
}

-- a broken side stays so
pub stays_broken : (s : DecoderState) (piece : List ℕ) (c : StreamFault) → s.fault ≡ Some c
    → Completes s piece [] s
stays_broken s piece c f = record {
  role = refl;
  represents = λ stream messages st. (
      let e = rw f at st.ends in
      rw (append-nil messages) (record {
        rest = st.rest ++ piece;
        reads = reads_more s.role opening (got_by s messages) stream st.rest piece st.reads;
        ends = rw f (e.0, fault_more s.role (got_by s messages) st.rest piece c e.1);
      }));
}

-- the same, from what a feed began with: this buffer, and no more than the side had
pub feed_completes : (old : DecoderState) (piece buffer rest : List ℕ) (p0 p : Progress)
    (fault : Option StreamFault)
    → old.fault ≡ None → p0.stage ≡ old.stage → p0.accepted ≡ None → p0.frames ≡ old.frames
    → p0.messages.items ≡ [] → buffer ≡ old.rest ++ piece
    → WhateverBefore p0 p (λ g h. Reads old.role g buffer h rest) → EndsAt old.role rest fault p
    → Completes old piece p.messages.items (decoder_after old p rest fault)
feed_completes old piece buffer rest p0 p fault f s a fr ms b reads ends =
    completes old piece rest p fault f
    (λ before. (
    let i : identity_from p0.accepted before ≡ before = ap (λ x. identity_from x before) a in
    let g : got_in p0 before ≡ start_of old before = cc in
    rw (← g, ← b) (reads before)))
    ends

ends_of : (s : DecoderState) (g : Got) (rest : List ℕ) (o : Option StreamFault) → EndsIn s g rest o
    → Ends s.role g rest o
ends_of s g rest None e = e.1
ends_of s g rest (Some c) e = e.1

rest_of : (s t : DecoderState) (g h : Got) (rest : List ℕ) (o : Option StreamFault) → EndsIn s g rest o
    → EndsIn t h rest o → s.rest ≡ t.rest
rest_of s t g h rest None e f = sym e.0 ∙ f.0
rest_of s t g h rest (Some c) e f = e.0 ∙ sym f.0

-- a state of these parts
abbrev state_of : Role → Stage → Option (List ℕ) → List (List ℕ) → List ℕ → Option StreamFault → DecoderState
state_of role stage identity frames rest fault =
    record { role = role; stage = stage; identity = identity; frames = frames; rest = rest; fault = fault }

-- two sides that represent one stream are the same, and have read the same messages
pub one_state : (s t : DecoderState) (stream : List ℕ) (m n : List (List (List ℕ))) → s.role ≡ t.role
    → HasReadMessages s stream m → HasReadMessages t stream n → (m ≡ n) × (s ≡ t)
one_state s t stream m n r a b =
    let o = one_reading_lem s.role opening (got_by s m) (got_by t n) stream a.rest b.rest s.fault t.fault
    a.reads (ends_of s (got_by s m) a.rest s.fault a.ends) (rw r b.reads)
    (rw r (ends_of t (got_by t n) b.rest t.fault b.ends)) in
    let rest : s.rest ≡ t.rest = rest_of s t (got_by s m) (got_by t n) a.rest s.fault a.ends
    (rw (o.rest_is, o.fault_is) b.ends) in
    let messages : m ≡ n = ap (λ (g : Got). g.messages) o.got_is in
    let stage : s.stage ≡ t.stage = ap (λ (g : Got). g.stage) o.got_is in
    let identity : s.identity ≡ t.identity = ap (λ (g : Got). g.identity) o.got_is in
    let frames : s.frames ≡ t.frames = ap (λ (g : Got). g.frames) o.got_is in
    let fault = o.fault_is in
    let same : state_of s.role s.stage s.identity s.frames s.rest s.fault
    ≡ state_of t.role t.stage t.identity t.frames t.rest t.fault = cc in
    (messages, same)
