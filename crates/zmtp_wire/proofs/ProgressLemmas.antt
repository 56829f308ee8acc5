use Rattle.std.proofs.Common.{◌≡◌, ℕ, ◌+◌, ◌≤◌, List, [], ◌∷◌, ◌++◌, length, take, drop}
use Rattle.std.proofs.Common.{refl, arith, sym, ◌∙◌, ap, length-take}
use Rattle.std.proofs.lemmas.List.{take-append-drop, take-append-le, take_all, append_cancel_right, drop-drop}
use Rattle.zmtp_wire.specs.declared.fault.StreamFault.{StreamFault}
use Rattle.zmtp_wire.specs.declared.fault.StreamFault.TheVariants as fault
use Rattle.zmtp_wire.specs.declared.head.Stage.{Stage}
use Rattle.zmtp_wire.specs.declared.head.Stage.TheVariants.{Greeting, Handshake, Traffic}
use Rattle.zmtp_wire.specs.declared.head.Kind.{Kind}
use Rattle.zmtp_wire.specs.declared.head.Kind.TheVariants.{Command}
use Rattle.zmtp_wire.specs.declared.head.Position.{Position}
use Rattle.zmtp_wire.specs.declared.head.Position.TheVariants.{More, Last}
use Rattle.zmtp_wire.specs.declared.role.Role.{Role}
use Rattle.zmtp_wire.specs.Framing.{IsAllowed}
use Rattle.zmtp_wire.specs.Commands.{IsSkipped, IsRefused, NotSkipped}
use Rattle.zmtp_wire.specs.Stream.{Got, with_frame, Step, Greets as Greeted, Readies, Skips}
use Rattle.zmtp_wire.specs.Stream.{TakesFrame, Reads, Stays, Goes, Fault, InCommand}
use Rattle.zmtp_wire.specs.Progress.{Effect, Accept, Skip, Take, KeepsFirst}
use Rattle.zmtp_wire.proofs.FramingLemmas.{Next}
use Rattle.zmtp_wire.proofs.StreamLemmas.{Opened}
use Rattle.zmtp_wire.proofs.ReadingLemmas.{reads_on}

later : (stage : Stage) → (stage ≡ Greeting → ⊥) → (stage ≡ Handshake → ⊥) → stage ≡ Traffic
later Greeting a b = absurd (a refl)
later Handshake a b = absurd (b refl)
later Traffic a b = refl

-- a command after READY that is passed over
pub skip_of : (role : Role) (g : Got) (body : List ℕ) → (g.stage ≡ Greeting → ⊥) → (g.stage ≡ Handshake → ⊥)
    → IsSkipped body → Effect role g Command body g
skip_of role g body a b s = Skip g body (later g.stage a b) s refl

pub refused_of : (role : Role) (stage : Stage) (body : List ℕ) → (stage ≡ Greeting → ⊥)
    → (stage ≡ Handshake → ⊥) → (IsSkipped body → ⊥) → IsRefused role stage body fault.Command
refused_of role stage body a b s = NotSkipped (later stage a b) refl s

-- the frame at the front of the bytes, with what it does, is a step
pub step_of : (role : Role) (g h : Got) (bytes body : List ℕ) (kind : Kind) (from size : ℕ)
    → Next g.stage (length g.frames) bytes kind from size → from + size ≤ length bytes
    → body ≡ take size (drop from bytes) → Effect role g kind body h
    → Step role g (take (from + size) bytes) h
step_of role g h bytes body kind from size n fits is effect =
    let k : n.raw ≡ take (from + size) bytes = append_cancel_right n.raw (take (from + size) bytes)
    (drop (from + size) bytes) (sym (n.split fits) ∙ sym (take-append-drop (from + size) bytes)) in
    rw (← k) (by_effect g h n.raw body kind (rw is (n.allowed fits)) effect)
  where
    by_effect : (g h : Got) (raw body : List ℕ) (kind : Kind) → IsAllowed g.stage (length g.frames) raw kind
        body → Effect role g kind body h → Step role g raw h
    by_effect g _ raw _ _ a (Accept h body identity s k e) = Readies g h raw body identity s a k e
    by_effect g _ raw _ _ a (Skip h body s k e) = Skips g h raw body s a k e
    by_effect g _ raw _ _ a (Take h body position e) = TakesFrame g h raw body position a e

pub command_fault : (role : Role) (g : Got) (bytes body : List ℕ) (kind : Kind) (from size : ℕ)
    (c : StreamFault) → Next g.stage (length g.frames) bytes kind from size → from + size ≤ length bytes
    → body ≡ take size (drop from bytes) → kind ≡ Command → IsRefused role g.stage body c
    → Fault role g bytes c
command_fault role g bytes body kind from size c n fits is command r =
    InCommand g bytes n.raw (drop (from + size) bytes) body c (n.split fits)
    (rw (← command, is) (n.allowed fits)) r

pub greet_step : (role : Role) (g : Got) (n : ℕ) (bytes : List ℕ) → Opened g.stage bytes n
    → Step role g (take n bytes) (record g { stage = Handshake })
greet_step role g n bytes o =
    Greeted g (record g { stage = Handshake }) (take n bytes) o.stage_is o.greeting refl

-- one item more
pub reads_step : (role : Role) (g h i : Got) (bytes : List ℕ) (place size : ℕ)
    → Reads role g bytes h (drop place bytes) → Step role h (take size (drop place bytes)) i
    → Reads role g bytes i (drop (place + size) bytes)
reads_step role g h i bytes place size reads step =
    let e : drop place bytes ≡ take size (drop place bytes) ++ drop (place + size) bytes =
    sym (ap (λ x. take size (drop place bytes) ++ x) (sym (drop-drop size place bytes))
    ∙ take-append-drop size (drop place bytes)) in
    reads_on role g h i bytes (drop place bytes) (drop (place + size) bytes) reads
    (Goes h i i (drop place bytes) (take size (drop place bytes)) (drop (place + size) bytes)
    (drop (place + size) bytes) step e (Stays i (drop (place + size) bytes)))

kept_more : (old fs : List (List ℕ)) (body : List ℕ) → take (length old) fs ≡ old
    → take (length old) (fs ++ body ∷ []) ≡ old
kept_more old fs body e =
    let k : length (take (length old) fs) ≡ length old = ap length e in
    let h : length old ≤ length fs = omega (arith, k, length-take (length old) fs) in
    take-append-le (length old) fs (body ∷ []) h ∙ e

kept_with : (old : List (List ℕ)) (ms : List (List (List ℕ))) (g : Got) (position : Position) (body : List ℕ)
    → g.messages ≡ ms → KeepsFirst old ms g.frames → KeepsFirst old (with_frame g position body).messages
    (with_frame g position body).frames
kept_with old [] g More body e k = rw e (kept_more old g.frames body k)
kept_with old (m ∷ ms) g More body e k = rw e k
kept_with old [] g Last body e k = rw e (kept_more old g.frames body k)
kept_with old (m ∷ ms) g Last body e k = rw e k

-- the frames that had come before stay the first
pub kept_step : (role : Role) (old : List (List ℕ)) (g h : Got) (raw : List ℕ) → Step role g raw h
    → KeepsFirst old g.messages g.frames → KeepsFirst old h.messages h.frames
kept_step role old _ _ _ (Greeted g h raw s k e) kept =
    rw e kept
kept_step role old _ _ _ (Readies g h raw body identity s a k e) kept =
    rw e kept
kept_step role old _ _ _ (Skips g h raw body s a k e) kept =
    rw e kept
kept_step role old _ _ _ (TakesFrame g h raw body position a e) kept =
    rw e (kept_with old g.messages g position body refl kept)

pub kept_first : (fs : List (List ℕ)) (ms : List (List (List ℕ))) → ms ≡ [] → KeepsFirst fs ms fs
kept_first fs ms e =
    rw e (take_all (length fs) fs (omega arith))
