-- What a side writes (RFC 23).
use Rattle.std.specs.Prelude.{◌≡◌, ◌≤◌, nat_le, if◌then◌else◌, true, false, [], ◌∷◌, ◌++◌}
use Rattle.std.specs.Prelude.{length, All, codes, replicate}
use Rattle.std.specs.Int.{w64, to_be_bytes}
use Rattle.zmtp_wire.specs.Wire.{Bytes, Frames}
use Rattle.zmtp_wire.specs.declared.head.Stage.TheVariants.{Handshake, Traffic}
use Rattle.zmtp_wire.specs.declared.head.Kind.TheVariants.{Command, Message}
use Rattle.zmtp_wire.specs.declared.head.Position.{Position}
use Rattle.zmtp_wire.specs.declared.head.Position.TheVariants.{More, Last}
use Rattle.zmtp_wire.specs.declared.role.Role.{Role}
use Rattle.zmtp_wire.specs.Framing.{flag_of, IsAllowed}
use Rattle.zmtp_wire.specs.Commands.{property, IsReady}
use Rattle.zmtp_wire.specs.Roles.{socket_name}
use Rattle.zmtp_wire.specs.Stream.{Got, Reads}

-- signature with its padding, version 3.0, mechanism NULL filled with zeros, no server, filler
abbrev pub written_greeting : Bytes
written_greeting = 255 ∷ replicate 8 0 ++ 127 ∷ 3 ∷ 0 ∷ codes "NULL" ++ replicate 16 0 ++ 0 ∷ replicate 31 0

-- a command of a short size that is READY with the one property Socket-Type
pub record IsReadyOf (raw : Bytes) (role : Role) : Type 0 where
  pub body : Bytes
  pub spelled : raw ≡ flag_of Command false ∷ length body ∷ body
  pub allowed : IsAllowed Handshake 0 raw Command body
  pub ready : IsReady body (property (codes "Socket-Type") (socket_name role) ∷ [])

-- a frame of a message, with a short size where it fits
abbrev pub frame_bytes : Position → Bytes → Bytes
frame_bytes position body =
    if nat_le (length body) 255 then (flag_of (Message position) false ∷ length body ∷ body) else
    (flag_of (Message position) true ∷ (to_be_bytes w64 (length body) ++ body))

-- where a frame stands that these frames follow
abbrev pub position_before : Frames → Position
position_before [] = Last
position_before (body ∷ frames) = More

-- each frame but the last says that more follow
abbrev pub message_bytes : Frames → Bytes
message_bytes [] = []
message_bytes (body ∷ frames) = frame_bytes (position_before frames) body ++ message_bytes frames

-- whatever came before, a reader past READY reads this message and nothing more, if it is within the limits
abbrev pub IsReadAs : Bytes → Frames → Type 0
IsReadAs bytes frames =
    length frames ≤ 64 → All (λ body. length body ≤ 1048576) frames → (role : Role) (g : Got)
    → g.stage ≡ Traffic → g.frames ≡ []
    → Reads role g bytes (record g { messages = g.messages ++ frames ∷ [] }) []
