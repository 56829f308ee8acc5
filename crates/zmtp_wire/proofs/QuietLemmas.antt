-- Before READY there are no messages.
use Rattle.std.proofs.Common.{◌≡◌, ℕ, List, [], length, None, refl, ap, ◌∙◌}
use Rattle.zmtp_wire.specs.declared.head.Stage.{Stage}
use Rattle.zmtp_wire.specs.declared.head.Stage.TheVariants.{Greeting, Handshake, Traffic}
use Rattle.zmtp_wire.specs.declared.head.Kind.TheVariants.{Message}
use Rattle.zmtp_wire.specs.declared.head.Position.{Position}
use Rattle.zmtp_wire.specs.declared.head.Position.TheVariants.{More, Last}
use Rattle.zmtp_wire.specs.declared.role.Role.{Role}
use Rattle.zmtp_wire.specs.Framing.{refusal}
use Rattle.zmtp_wire.specs.Stream.{Got, with_frame, Step, Greets, Readies, Skips, TakesFrame, Reads, Stays}
use Rattle.zmtp_wire.specs.Stream.{Goes}
use Rattle.zmtp_wire.specs.Stream.{DecoderState, HasReadMessages, got_by, opening}

frame_stage : (g : Got) (position : Position) (body : List ℕ) → (with_frame g position body).stage ≡ g.stage
frame_stage g More body = refl
frame_stage g Last body = refl

step_stays : (role : Role) (g h : Got) (raw : List ℕ) → Step role g raw h → g.stage ≡ Traffic
    → h.stage ≡ Traffic
step_stays role g h raw (Greets g1 h1 raw1 s is e) t = absurd cc
step_stays role g h raw (Readies g1 h1 raw1 body i s a is e) t = ap (λ (x : Got). x.stage) e
step_stays role g h raw (Skips g1 h1 raw1 body s a is e) t = ap (λ (x : Got). x.stage) e ∙ t
step_stays role g h raw (TakesFrame g1 h1 raw1 body position a e) t =
    ap (λ (x : Got). x.stage) e ∙ frame_stage g position body ∙ t

reads_stays : (role : Role) (g i : Got) (bytes rest : List ℕ) → Reads role g bytes i rest → g.stage ≡ Traffic
    → i.stage ≡ Traffic
reads_stays role g i bytes rest (Stays g1 b1) t = t
reads_stays role g i bytes rest (Goes g1 h i1 b1 raw others r1 s e reads) t =
    reads_stays role h i others rest reads (step_stays role g h raw s t)

refused : (stage : Stage) (count : ℕ) (position : Position) → refusal stage count (Message position) ≡ None
    → stage ≡ Traffic
refused Greeting count position e = absurd cc
refused Handshake count position e = absurd cc
refused Traffic count position e = refl

step_quiet : (role : Role) (g h : Got) (raw : List ℕ) → Step role g raw h → (h.stage ≡ Traffic → ⊥)
    → g.messages ≡ [] → h.messages ≡ []
step_quiet role g h raw (Greets g1 h1 raw1 s is e) n m = ap (λ (x : Got). x.messages) e ∙ m
step_quiet role g h raw (Readies g1 h1 raw1 body i s a is e) n m = ap (λ (x : Got). x.messages) e ∙ m
step_quiet role g h raw (Skips g1 h1 raw1 body s a is e) n m = ap (λ (x : Got). x.messages) e ∙ m
step_quiet role g h raw (TakesFrame g1 h1 raw1 body position a e) n m =
    absurd (n (ap (λ (x : Got). x.stage) e ∙ frame_stage g position body
    ∙ refused g.stage (length g.frames) position a.here))

reads_quiet : (role : Role) (g i : Got) (bytes rest : List ℕ) → Reads role g bytes i rest
    → (i.stage ≡ Traffic → ⊥) → g.messages ≡ [] → i.messages ≡ []
reads_quiet role g i bytes rest (Stays g1 b1) n m = m
reads_quiet role g i bytes rest (Goes g1 h i1 b1 raw others r1 s e reads) n m =
    reads_quiet role h i others rest reads n (step_quiet role g h raw s
    (λ t. n (reads_stays role h i others rest reads t)) m)

-- a side that has accepted no READY has read no messages
pub decoder_quiet : (s : DecoderState) (stream : List ℕ) (messages : List (List (List ℕ)))
    → (s.stage ≡ Traffic → ⊥) → HasReadMessages s stream messages → messages ≡ []
decoder_quiet s stream messages n k =
    reads_quiet s.role opening (got_by s messages) stream k.rest k.reads n refl
