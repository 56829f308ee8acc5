use Rattle.std.proofs.Common.{◌≡◌, ℕ, suc, ◌+◌, ◌^◌, ◌<◌, ◌≤◌, inl, inr, None, true, false}
use Rattle.std.proofs.Common.{List, [], ◌∷◌, ◌++◌, length, refl, arith, sym, ◌∙◌, ap, append_assoc}
use Rattle.std.proofs.Common.{All, codes, length-append}
use Rattle.std.specs.Int.{w64, to_be_bytes, from_be_bytes}
use Rattle.std.proofs.lemmas.Bool.{le-leb, lt-leb, cases_lt}
use Rattle.std.proofs.lemmas.List.{append-nil}
use Rattle.std.proofs.lemmas.Nat.{from_be_bytes-to_be_bytes_8}
use Rattle.zmtp_wire.specs.declared.head.Stage.TheVariants.{Traffic}
use Rattle.zmtp_wire.specs.declared.head.Kind.TheVariants.{Message}
use Rattle.zmtp_wire.specs.declared.head.Position.{Position}
use Rattle.zmtp_wire.specs.declared.head.Position.TheVariants.{More, Last}
use Rattle.zmtp_wire.specs.declared.role.Role.{Role}
use Rattle.zmtp_wire.specs.Greeting.{IsGreeting, broken_by}
use Rattle.zmtp_wire.specs.Framing.{number_from, refusal, IsSize, IsFrame, IsAllowed}
use Rattle.zmtp_wire.specs.Commands.{NoProperty, NextProperty}
use Rattle.zmtp_wire.specs.Roles.{socket_name}
use Rattle.zmtp_wire.specs.Stream.{Got, with_frame, TakesFrame, Reads, Stays, Goes}
use Rattle.zmtp_wire.specs.Writing.{written_greeting, IsReadyOf, frame_bytes, message_bytes, IsReadAs}

pub greeting_is : IsGreeting written_greeting
unfolding broken_by
greeting_is = record { whole = refl; good = refl }

number_8 : (a b c d e f g h : ℕ) → number_from 0 (a ∷ b ∷ c ∷ d ∷ e ∷ f ∷ g ∷ h ∷ []) ≡ from_be_bytes w64
    (a ∷ b ∷ c ∷ d ∷ e ∷ f ∷ g ∷ h ∷ [])
number_8 a b c d e f g h = omega arith

pub number_from-to_be_bytes : (n : ℕ) → n < 2 ^ 64 → number_from 0 (to_be_bytes w64 n) ≡ n
number_from-to_be_bytes n h = number_8 _ _ _ _ _ _ _ _ ∙ from_be_bytes-to_be_bytes_8 n h

abbrev pub ready_body : Role → List ℕ
ready_body role =
    5 ∷ codes "READY" ++ 11 ∷ codes "Socket-Type" ++ 0 ∷ 0 ∷ 0 ∷ length (socket_name role) ∷ socket_name role

pub ready_is : (role : Role) → length (socket_name role) ≤ 255
    → IsReadyOf (4 ∷ length (ready_body role) ∷ ready_body role) role
ready_is role h = record {
  body = ready_body role;
  spelled = refl;
  allowed = record {
    frame = record { long = false; digits = length (ready_body role) ∷ []; size = refl; spelled = refl };
    size = omega arith;
    here = refl;
  };
  ready = record {
    others = 11 ∷ codes "Socket-Type" ++ 0 ∷ 0 ∷ 0 ∷ length (socket_name role) ∷ socket_name role;
    named = record { some = omega arith; spelled = refl };
    properties_are = NextProperty _ (codes "Socket-Type") (socket_name role) [] []
        (record {
          digits = 0 ∷ 0 ∷ 0 ∷ length (socket_name role) ∷ [];
          named = record {
            some = omega arith;
            spelled = ap (λ x. 11 ∷ codes "Socket-Type" ++ 0 ∷ 0 ∷ 0 ∷ length (socket_name role) ∷ x)
                (sym (append-nil (socket_name role)));
          };
          four = refl;
          size = omega arith;
        })
        (NoProperty [] refl);
  };
}

-- one frame of a message
pub frame_is : (position : Position) (body : List ℕ) → length body < 2 ^ 64
    → IsFrame (frame_bytes position body) (Message position) body
frame_is position body h =
    elim (cases_lt 255 (length body)) [
      | inl k ↦ (
          let size : IsSize true (to_be_bytes w64 (length body)) (length body) =
          (refl, number_from-to_be_bytes (length body) h) in
          rw (lt-leb (length body) 255 k)
          (record { long = true; digits = to_be_bytes w64 (length body); size = size; spelled = refl }))
      | inr k ↦
          rw (le-leb (length body) 255 k)
          (record { long = false; digits = length body ∷ []; size = refl; spelled = refl })
    ]

allowed_more : (g : Got) (position : Position) (body : List ℕ) → g.stage ≡ Traffic
    → (position ≡ More → length g.frames < 63) → length body ≤ 1048576
    → IsAllowed g.stage (length g.frames) (frame_bytes position body) (Message position) body
allowed_more g More body s room small =
    let below = room refl in
    let here : refusal g.stage (length g.frames) (Message More) ≡ None =
    rw (s, lt-leb 63 (length g.frames) below) refl in
    record { frame = frame_is More body (omega arith); size = small; here = here }
allowed_more g Last body s room small =
    record { frame = frame_is Last body (omega arith); size = small; here = rw s refl }

-- the reading after a whole message
abbrev pub with_message : Got → List (List ℕ) → Got
with_message g frames = record g { messages = g.messages ++ (g.frames ++ frames) ∷ []; frames = [] }

-- the bytes of a message, within the limits, are read as that message
pub message_reads : (role : Role) (g : Got) (frames : List (List ℕ)) → g.stage ≡ Traffic → 0 < length frames
    → length g.frames + length frames ≤ 64 → All (λ body. length body ≤ 1048576) frames
    → Reads role g (message_bytes frames) (with_message g frames) []
message_reads role g [] s some few small = absurd (omega arith)
message_reads role g (body ∷ []) s some few small =
    let allowed = allowed_more g Last body s (λ k. absurd (cc)) (small 0 [] (omega arith)) in
    Goes g _ _ _ (frame_bytes Last body) [] []
    (TakesFrame g _ (frame_bytes Last body) body Last allowed refl) refl
    (Stays (with_frame g Last body) [])
message_reads role g (body ∷ next ∷ frames) s some few small =
    let now = with_frame g More body in
    let k : length now.frames + length (next ∷ frames) ≤ 64 =
    omega (arith, length-append g.frames (body ∷ [])) in
    let allowed = allowed_more g More body s (λ _. omega arith) (small 0 [] (omega arith)) in
    let e : with_message now (next ∷ frames) ≡ with_message g (body ∷ next ∷ frames) =
    ap (λ x. record g { messages = g.messages ++ x ∷ []; frames = [] })
    (append_assoc g.frames (body ∷ []) (next ∷ frames)) in
    let others = message_reads role now (next ∷ frames) s (omega arith) k
    (λ i d lt. small (suc i) d (omega arith)) in
    Goes g now _ _ (frame_bytes More body) (message_bytes (next ∷ frames)) []
    (TakesFrame g now (frame_bytes More body) body More allowed refl) refl (rw (← e) others)

pub read_back : (bytes : List ℕ) (frames : List (List ℕ)) → 0 < length frames → bytes ≡ message_bytes frames
    → IsReadAs bytes frames
read_back bytes frames some is few small role g s none =
    let e : with_message g frames ≡ record g { messages = g.messages ++ frames ∷ [] } =
    (let a : g.frames ++ frames ≡ frames = ap (λ x. x ++ frames) none in cc) in
    let k : length g.frames ≡ 0 = ap length none in
    rw (← e, is) (message_reads role g frames s some (omega (arith, k)) small)

-- nothing is left to write
pub all_written : (out all bytes : List ℕ) (left : List (List ℕ)) → length left ≡ 0
    → out ++ message_bytes left ≡ all → bytes ≡ out → bytes ≡ all
all_written out all bytes [] none e b = b ∙ (sym (append-nil out) ∙ e)
all_written out all bytes (body ∷ left) none e b = absurd (omega (arith, none))
