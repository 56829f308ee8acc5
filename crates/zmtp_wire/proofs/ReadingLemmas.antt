use Rattle.std.proofs.Common.{◌≡◌, ℕ, zero, suc, ◌+◌, ◌*◌, ◌<◌, ◌≤◌, ◌⊎◌, inl, inr, Bool, true, false, Option}
use Rattle.std.proofs.Common.{Some, None, List, [], ◌∷◌, ◌++◌, length, drop, refl, arith, sym, ◌∙◌, ap}
use Rattle.std.proofs.Common.{append_assoc, nat_le, if◌then◌else◌}
use Rattle.std.proofs.Math.Seq.{drop-append_seam}
use Rattle.zmtp_wire.specs.declared.fault.StreamFault.{StreamFault}
use Rattle.zmtp_wire.specs.declared.head.Stage.{Stage}
use Rattle.zmtp_wire.specs.declared.head.Stage.TheVariants.{Greeting, Handshake, Traffic}
use Rattle.zmtp_wire.specs.declared.head.Kind.{Kind}
use Rattle.zmtp_wire.specs.declared.head.Kind.TheVariants.{Command, Message}
use Rattle.zmtp_wire.specs.declared.head.Position.{Position}
use Rattle.zmtp_wire.specs.declared.head.Position.TheVariants.{More, Last}
use Rattle.zmtp_wire.specs.declared.head.Head.TheVariants.{Wants, Bad, Greets, Sized}
use Rattle.zmtp_wire.specs.declared.role.Role.{Role}
use Rattle.zmtp_wire.specs.Greeting.{first_broken}
use Rattle.zmtp_wire.specs.Framing.{least_number, broken_by_kind, broken_by_flag, kind_of}
use Rattle.zmtp_wire.specs.Commands.{IsRefused}
use Rattle.zmtp_wire.specs.Head.{head_of, greeting_head}
use Rattle.zmtp_wire.specs.Stream.{Got, with_frame, Step, Greets as Greeted, Readies, Skips, TakesFrame}
use Rattle.zmtp_wire.specs.Stream.{Reads, Stays, Goes, Fault, InGreeting, InFlag, InSize, InCommand}
use Rattle.zmtp_wire.specs.Stream.{IsPartial}
use Rattle.zmtp_wire.specs.Progress.{Effect, Accept, Skip, Take}
use Rattle.zmtp_wire.proofs.FramingLemmas.{head_past, Front, front_of, same_front, flag_bad, size_bad}
use Rattle.zmtp_wire.proofs.FramingLemmas.{HeadFault, BadFlag, BadSize, fault_of}
use Rattle.zmtp_wire.proofs.StreamLemmas.{greeting_says, same_identity, accepted_never, skipped_never}
use Rattle.zmtp_wire.proofs.StreamLemmas.{same_refusal, first_broken-more}

pub effect_one : (role : Role) (g h i : Got) (kind : Kind) (body : List ℕ) → Effect role g kind body h
    → Effect role g kind body i → h ≡ i
effect_one role g _ _ _ _ (Accept h body identity s a e) (Accept i _ identity' s' a' e') =
    let same = same_identity role body identity identity' a a' in
    e ∙ (ap (λ x. record g { stage = Traffic; identity = x }) same ∙ sym e')
effect_one role g _ _ _ _ (Accept h body identity s a e) (Skip i _ s' k e') =
    absurd (let x = sym s ∙ s' in cc)
effect_one role g _ _ _ _ (Skip h body s k e) (Accept i _ identity' s' a' e') =
    absurd (let x = sym s ∙ s' in cc)
effect_one role g _ _ _ _ (Skip h body s k e) (Skip i _ s' k' e') = e ∙ sym e'
effect_one role g _ _ _ _ (Take h body position e) (Take i _ _ e') = e ∙ sym e'

effect_refused : (role : Role) (g h : Got) (body : List ℕ) (c : StreamFault) → Effect role g Command body h
    → IsRefused role g.stage body c → ⊥
effect_refused role g _ _ c (Accept h body identity s a e) r =
    accepted_never role g.stage body identity c s a r
effect_refused role g _ _ c (Skip h body s k e) r = skipped_never role g.stage body c s k r

-- what the head says where a whole item stands at the front
pub record GreetShape (g : Got) (bytes others : List ℕ) (h : Got) : Type 0 where
  pub says : head_of g.stage (length g.frames) bytes ≡ Greets
  pub others_are : others ≡ drop 64 bytes
  pub got_is : h ≡ record g { stage = Handshake }

pub record FrameShape (role : Role) (g : Got) (bytes others : List ℕ) (h : Got) : Type 0 where
  pub kind : Kind
  pub body : List ℕ
  pub front : Front g.stage (length g.frames) bytes kind body others
  pub effect : Effect role g kind body h

dropped : (n : ℕ) (raw others : List ℕ) → length raw ≡ n → drop n (raw ++ others) ≡ others
dropped n raw others e = rw (← e) (drop-append_seam raw others)

pub shape : (role : Role) (g h : Got) (bytes raw others : List ℕ) → Step role g raw h → bytes ≡ raw ++ others
    → GreetShape g bytes others h ⊎ FrameShape role g bytes others h
shape role _ _ bytes _ others (Greeted g h raw s k e) is = inl (record {
  says = rw s (greeting_says (length g.frames) bytes raw others k is);
  others_are = sym (ap (drop 64) is ∙ dropped 64 raw others k.whole);
  got_is = e;
})
shape role _ _ bytes _ others (Readies g h raw body identity s a k e) is =
    inr (record {
      kind = Command;
      body = body;
      front = front_of g.stage (length g.frames) bytes raw others body Command a is;
      effect = Accept h body identity s k e;
    })
shape role _ _ bytes _ others (Skips g h raw body s a k e) is =
    inr (record {
      kind = Command;
      body = body;
      front = front_of g.stage (length g.frames) bytes raw others body Command a is;
      effect = Skip h body s k e;
    })
shape role _ _ bytes _ others (TakesFrame g h raw body position a e) is =
    inr (record {
      kind = Message position;
      body = body;
      front = front_of g.stage (length g.frames) bytes raw others body (Message position) a is;
      effect = Take h body position e;
    })

-- what the head says where a fault stands
pub record FrontRefused (role : Role) (g : Got) (bytes : List ℕ) (c : StreamFault) : Type 0 where
  pub body : List ℕ
  pub others : List ℕ
  pub front : Front g.stage (length g.frames) bytes Command body others
  pub refused : IsRefused role g.stage body c

no_flag_first : (count : ℕ) (flag : ℕ) (stage : Stage) → broken_by_flag stage count flag ≡ None
    → stage ≡ Greeting → ⊥
no_flag_first count flag Handshake e s = cc
no_flag_first count flag Traffic e s = cc
no_flag_first count flag Greeting e s = at_kind (kind_of flag) e
  where
    at_kind : (ok : Option Kind) → broken_by_kind Greeting count ok ≡ None → ⊥
    at_kind None e = cc
    at_kind (Some kind) e = cc

pub fault_shape : (role : Role) (g : Got) (bytes : List ℕ) (c : StreamFault) → Fault role g bytes c
    → (head_of g.stage (length g.frames) bytes ≡ Bad c) ⊎ FrontRefused role g bytes c
fault_shape role _ _ _ (InGreeting g bytes c s e) =
    inl (rw (s, e) refl)
fault_shape role _ _ _ (InFlag g bytes others flag c past is e) =
    inl (head_past g.stage (length g.frames) bytes past ∙ flag_bad g.stage (length g.frames) bytes
    others flag c is e)
fault_shape role _ _ _ (InSize g bytes others flag c is e long large k) =
    inl (head_past g.stage (length g.frames) bytes (no_flag_first (length g.frames) flag g.stage e)
    ∙ (size_bad g.stage (length g.frames) bytes others flag is e long large ∙ ap Bad (sym k)))
fault_shape role _ _ _ (InCommand g bytes raw others body c is a r) =
    inr (record {
      body = body;
      others = others;
      front = front_of g.stage (length g.frames) bytes raw others body Command a is;
      refused = r;
    })

-- AN ITEM STANDS AT THE FRONT IN ONE WAY, OR A FAULT DOES, OR NEITHER

pub record SameStep (h i : Got) (others others' : List ℕ) : Type 0 where
  pub got_is : h ≡ i
  pub others_are : others ≡ others'

pub same_step : (role : Role) (g h i : Got) (bytes others others' : List ℕ)
    → GreetShape g bytes others h ⊎ FrameShape role g bytes others h
    → GreetShape g bytes others' i ⊎ FrameShape role g bytes others' i → SameStep h i others others'
same_step role g h i bytes others others' (inl a) (inl b) =
    record { got_is = a.got_is ∙ sym b.got_is; others_are = a.others_are ∙ sym b.others_are }
same_step role g h i bytes others others' (inl a) (inr b) = absurd (let k = sym a.says ∙ b.front.says in cc)
same_step role g h i bytes others others' (inr a) (inl b) = absurd (let k = sym b.says ∙ a.front.says in cc)
same_step role g h i bytes others others' (inr a) (inr b) =
    let s = same_front g.stage (length g.frames) bytes a.body b.body others others' a.kind b.kind
    a.front b.front in
    record {
      got_is = effect_one role g h i a.kind a.body a.effect
          (rw (s.kind_is, s.body_is) b.effect);
      others_are = s.others_are;
    }

pub step_or_fault : (role : Role) (g h : Got) (bytes others : List ℕ) (c : StreamFault)
    → GreetShape g bytes others h ⊎ FrameShape role g bytes others h
    → (head_of g.stage (length g.frames) bytes ≡ Bad c) ⊎ FrontRefused role g bytes c → ⊥
step_or_fault role g h bytes others c (inl a) (inl b) = let k = sym a.says ∙ b in cc
step_or_fault role g h bytes others c (inl a) (inr b) = let k = sym a.says ∙ b.front.says in cc
step_or_fault role g h bytes others c (inr a) (inl b) = let k = sym b ∙ a.front.says in cc
step_or_fault role g h bytes others c (inr a) (inr b) =
    let s = same_front g.stage (length g.frames) bytes a.body b.body others b.others a.kind Command
    a.front b.front in
    let effect : Effect role g Command b.body h = rw (s.kind_is, s.body_is) at a.effect in
    effect_refused role g h b.body c effect b.refused

pub same_fault : (role : Role) (g : Got) (bytes : List ℕ) (c d : StreamFault)
    → (head_of g.stage (length g.frames) bytes ≡ Bad c) ⊎ FrontRefused role g bytes c
    → (head_of g.stage (length g.frames) bytes ≡ Bad d) ⊎ FrontRefused role g bytes d → c ≡ d
same_fault role g bytes c d (inl a) (inl b) = let k = sym a ∙ b in cc
same_fault role g bytes c d (inl a) (inr b) = absurd (let k = sym a ∙ b.front.says in cc)
same_fault role g bytes c d (inr a) (inl b) = absurd (let k = sym b ∙ a.front.says in cc)
same_fault role g bytes c d (inr a) (inr b) =
    let s = same_front g.stage (length g.frames) bytes a.body b.body a.others b.others Command Command
    a.front b.front in
    same_refusal role g.stage a.body c d a.refused (rw s.body_is b.refused)

pub partial_wants : (role : Role) (g : Got) (bytes : List ℕ) → head_of g.stage (length g.frames) bytes ≡ Wants
    → IsPartial role g bytes
partial_wants role g bytes e = record {
  unfinished = λ raw others h step is. (elim (shape role g h bytes raw others step is) [
    | inl a ↦ (let k = sym a.says ∙ e in cc)
    | inr a ↦ (let k = sym a.front.says ∙ e in cc)
  ]);
  good = λ c f. (elim (fault_shape role g bytes c f) [
    | inl a ↦ (let k = sym a ∙ e in cc)
    | inr a ↦ (let k = sym a.front.says ∙ e in cc)
  ]);
}

pub partial_short : (role : Role) (g : Got) (bytes : List ℕ) (kind : Kind) (from size : ℕ)
    → head_of g.stage (length g.frames) bytes ≡ Sized kind from size → length bytes < from + size
    → IsPartial role g bytes
partial_short role g bytes kind from size e h = record {
  unfinished = λ raw others i step is. (elim (shape role g i bytes raw others step is) [
    | inl a ↦ (let k = sym a.says ∙ e in cc)
    | inr a ↦ short_front a.kind a.body others a.front
  ]);
  good = λ c f. (elim (fault_shape role g bytes c f) [
    | inl a ↦ (let k = sym a ∙ e in cc)
    | inr a ↦ short_front Command a.body a.others a.front
  ]);
}
  where
    short_front : (k : Kind) (body others : List ℕ) → Front g.stage (length g.frames) bytes k body others → ⊥
    short_front k body others f =
        let x = sym f.says ∙ e in
        let a : f.from ≡ from = cc in
        let b : length body ≡ size = cc in
        let fits = f.fits in
        omega (arith, a, b, fits, h)

fault_past : (role : Role) (g : Got) (bytes : List ℕ) (c : StreamFault) → (g.stage ≡ Greeting → ⊥)
    → HeadFault g.stage (length g.frames) bytes c → Fault role g bytes c
fault_past role g _ _ past (BadFlag bytes others flag c is e) = InFlag g bytes others flag c past is e
fault_past role g _ _ past (BadSize bytes others flag c is e long large k) =
    InSize g bytes others flag c is e long large k

at_greeting : (count : ℕ) (bytes : List ℕ) (c : StreamFault) (o : Option StreamFault)
    → greeting_head o bytes ≡ Bad c → o ≡ Some c
at_greeting count bytes c (Some d) e = let k : d ≡ c = cc in ap Some k
at_greeting count bytes c None e = absurd (greeting_good (nat_le 64 (length bytes)) e)
  where
    greeting_good : (b : Bool) → (if b then Greets else Wants) ≡ Bad c → ⊥
    greeting_good true e = cc
    greeting_good false e = cc

later_fault : (role : Role) (g : Got) (bytes : List ℕ) (c : StreamFault) → (g.stage ≡ Greeting → ⊥)
    → head_of g.stage (length g.frames) bytes ≡ Bad c → Fault role g bytes c
later_fault role g bytes c past e =
    fault_past role g bytes c past
    (fault_of g.stage (length g.frames) bytes c (sym (head_past g.stage (length g.frames) bytes past) ∙ e))

pub fault_at : (role : Role) (g : Got) (stage : Stage) (bytes : List ℕ) (c : StreamFault) → g.stage ≡ stage
    → head_of stage (length g.frames) bytes ≡ Bad c → Fault role g bytes c
fault_at role g Greeting bytes c s e =
    InGreeting g bytes c s (at_greeting (length g.frames) bytes c (first_broken 0 bytes) e)
fault_at role g Handshake bytes c s e = later_fault role g bytes c (λ k. (let x = sym s ∙ k in cc)) (rw s e)
fault_at role g Traffic bytes c s e = later_fault role g bytes c (λ k. (let x = sym s ∙ k in cc)) (rw s e)

-- READINGS

-- more bytes at the end
pub reads_more : (role : Role) (g h : Got) (a r b : List ℕ) → Reads role g a h r
    → Reads role g (a ++ b) h (r ++ b)
reads_more role _ _ _ _ b (Stays g bytes) = Stays g (bytes ++ b)
reads_more role _ _ _ _ b (Goes g h i bytes raw others rest s e rs) =
    Goes g h i (bytes ++ b) raw (others ++ b) (rest ++ b) s (ap (λ l. l ++ b) e ∙ append_assoc raw others b)
    (reads_more role _ _ _ _ b rs)

-- one reading after another
pub reads_on : (role : Role) (g h i : Got) (a r s : List ℕ) → Reads role g a h r → Reads role h r i s
    → Reads role g a i s
reads_on role _ _ i _ _ s (Stays g bytes) next = next
reads_on role _ _ j _ _ s (Goes g h i bytes raw others rest st e rs) next =
    Goes g h j bytes raw others s st e (reads_on role _ _ j _ _ s rs next)

-- the stream may be cut anywhere
pub reads_cut : (role : Role) (g h i : Got) (a b r s : List ℕ) → Reads role g a h r
    → Reads role h (r ++ b) i s → Reads role g (a ++ b) i s
reads_cut role g h i a b r s first next =
    reads_on role g h i (a ++ b) (r ++ b) s (reads_more role g h a r b first) next

-- these messages came before
abbrev pub preceded : List (List (List ℕ)) → Got → Got
preceded ms g = record g { messages = ms ++ g.messages }

with_frame-preceded : (ms : List (List (List ℕ))) (g : Got) (position : Position) (body : List ℕ)
    → with_frame (preceded ms g) position body ≡ preceded ms (with_frame g position body)
with_frame-preceded ms g More body = refl
with_frame-preceded ms g Last body =
    ap (λ x. record g { messages = x; frames = [] })
    (append_assoc ms g.messages ((g.frames ++ body ∷ []) ∷ []))

step_preceded : (role : Role) (ms : List (List (List ℕ))) (g h : Got) (raw : List ℕ) → Step role g raw h
    → Step role (preceded ms g) raw (preceded ms h)
step_preceded role ms _ _ _ (Greeted g h raw s k e) =
    Greeted (preceded ms g) (preceded ms h) raw s k (ap (preceded ms) e)
step_preceded role ms _ _ _ (Readies g h raw body identity s a k e) =
    Readies (preceded ms g) (preceded ms h) raw body identity s a k (ap (preceded ms) e)
step_preceded role ms _ _ _ (Skips g h raw body s a k e) =
    Skips (preceded ms g) (preceded ms h) raw body s a k (ap (preceded ms) e)
step_preceded role ms _ _ _ (TakesFrame g h raw body position a e) =
    TakesFrame (preceded ms g) (preceded ms h) raw body position a (ap (preceded ms) e
    ∙ sym (with_frame-preceded ms g position body))

pub reads_preceded : (role : Role) (ms : List (List (List ℕ))) (g h : Got) (a r : List ℕ) → Reads role g a h r
    → Reads role (preceded ms g) a (preceded ms h) r
reads_preceded role ms _ _ _ _ (Stays g bytes) = Stays (preceded ms g) bytes
reads_preceded role ms _ _ _ _ (Goes g h i bytes raw others rest s e rs) =
    Goes (preceded ms g) (preceded ms h) (preceded ms i) bytes raw others rest
    (step_preceded role ms g h raw s) e (reads_preceded role ms h i others rest rs)

least_more : (left n : ℕ) (a b : List ℕ) → least_number left n a ≤ least_number left n (a ++ b)
least_more zero n a b = omega arith
least_more (suc left) n [] b = least_empty left n b
  where
    least_mono : (left m n : ℕ) (b : List ℕ) → m ≤ n → least_number left m [] ≤ least_number left n b
    least_mono zero m n b h = h
    least_mono (suc left) m n [] h = least_mono left (m * 256) (n * 256) [] (omega arith)
    least_mono (suc left) m n (x ∷ b) h = least_mono left (m * 256) (n * 256 + x) b (omega arith)

    least_empty : (left n : ℕ) (b : List ℕ) → least_number (suc left) n [] ≤ least_number (suc left) n b
    least_empty left n b = least_mono (suc left) n n b (omega arith)
least_more (suc left) n (x ∷ a) b = least_more left (n * 256 + x) a b

-- a fault stays, whatever follows it
pub fault_more : (role : Role) (g : Got) (a b : List ℕ) (c : StreamFault) → Fault role g a c
    → Fault role g (a ++ b) c
fault_more role _ _ b _ (InGreeting g bytes c s e) =
    InGreeting g (bytes ++ b) c s (first_broken-more 0 bytes b c e)
fault_more role _ _ b _ (InFlag g bytes others flag c past is e) =
    InFlag g (bytes ++ b) (others ++ b) flag c past (ap (λ l. l ++ b) is) e
fault_more role _ _ b _ (InSize g bytes others flag c is e long large k) =
    let m = least_more 8 0 others b in
    InSize g (bytes ++ b) (others ++ b) flag c (ap (λ l. l ++ b) is) e long (omega (arith, m, large)) k
fault_more role _ _ b _ (InCommand g bytes raw others body c is a r) =
    InCommand g (bytes ++ b) raw (others ++ b) body c (ap (λ l. l ++ b) is ∙ append_assoc raw others b) a r

-- where a reading ends: nothing whole is left, or a fault
abbrev pub Ends : Role → Got → List ℕ → Option StreamFault → Type 0
Ends role g rest None = IsPartial role g rest
Ends role g rest (Some c) = Fault role g rest c

never_on : (role : Role) (g h : Got) (bytes raw others : List ℕ) (o : Option StreamFault)
    → Ends role g bytes o → Step role g raw h → bytes ≡ raw ++ others → ⊥
never_on role g h bytes raw others None p step e = p.unfinished raw others h step e
never_on role g h bytes raw others (Some c) f step e =
    step_or_fault role g h bytes others c (shape role g h bytes raw others step e)
    (fault_shape role g bytes c f)

same_end : (role : Role) (g : Got) (bytes : List ℕ) (o p : Option StreamFault) → Ends role g bytes o
    → Ends role g bytes p → o ≡ p
same_end role g bytes None None a b = refl
same_end role g bytes None (Some d) a b = absurd (a.good d b)
same_end role g bytes (Some c) None a b = absurd (b.good c a)
same_end role g bytes (Some c) (Some d) a b =
    ap Some (same_fault role g bytes c d (fault_shape role g bytes c a) (fault_shape role g bytes d b))

-- two readings of one stream are one
pub record OneReading (h i : Got) (r s : List ℕ) (o p : Option StreamFault) : Type 0 where
  pub got_is : h ≡ i
  pub rest_is : r ≡ s
  pub fault_is : o ≡ p

pub one_reading_lem : (role : Role) (g h i : Got) (bytes r s : List ℕ) (o p : Option StreamFault)
    → Reads role g bytes h r → Ends role h r o → Reads role g bytes i s → Ends role i s p
    → OneReading h i r s o p
one_reading_lem role _ _ _ _ _ _ o p (Stays g bytes) a (Stays _ _) b =
    record { got_is = refl; rest_is = refl; fault_is = same_end role g bytes o p a b }
one_reading_lem role _ _ _ _ _ _ o p (Stays g bytes) a (Goes _ h _ _ raw others rest s e rs) b =
    absurd (never_on role g h bytes raw others o a s e)
one_reading_lem role _ _ _ _ _ _ o p (Goes g h j bytes raw others rest s e rs) a (Stays _ _) b =
    absurd (never_on role g h bytes raw others p b s e)
one_reading_lem role _ _ _ _ _ _ o p (Goes g h j bytes raw others rest s e rs) a
    (Goes _ h' k _ raw' others' rest' s' e' rs') b =
    let x = same_step role g h h' bytes others others' (shape role g h bytes raw others s e)
    (shape role g h' bytes raw' others' s' e') in
    one_reading_lem role h j k others rest rest' o p rs a
    (rw (x.got_is, x.others_are) rs') b
