-- The grammar of a stream: a greeting, READY, and then messages and commands (RFC 23, "Overall Behavior").
use Rattle.std.specs.Prelude.{◌≡◌, ℕ, ◌<◌, true, Option, Some, None, [], ◌∷◌, ◌++◌, length}
use Rattle.zmtp_wire.specs.Wire.{Bytes, Frames, Messages}
use Rattle.zmtp_wire.specs.declared.fault.StreamFault.{StreamFault}
use Rattle.zmtp_wire.specs.declared.fault.StreamFault.TheVariants as fault
use Rattle.zmtp_wire.specs.declared.head.Stage.{Stage}
use Rattle.zmtp_wire.specs.declared.head.Stage.TheVariants.{Greeting, Handshake, Traffic}
use Rattle.zmtp_wire.specs.declared.head.Kind.TheVariants.{Command, Message}
use Rattle.zmtp_wire.specs.declared.head.Position.{Position}
use Rattle.zmtp_wire.specs.declared.head.Position.TheVariants.{More, Last}
use Rattle.zmtp_wire.specs.declared.role.Role.{Role}
use Rattle.zmtp_wire.specs.Greeting.{IsGreeting, first_broken}
use Rattle.zmtp_wire.specs.Framing.{IsAllowed, broken_by_flag, is_long, least_number}
use Rattle.zmtp_wire.specs.Commands.{IsAccepted, IsSkipped, IsRefused}

-- how far the reading has come: the peer's identity, the complete messages, and the frames of the next one
pub record Got : Type 0 where
  pub stage : Stage
  pub identity : Option Bytes
  pub messages : Messages
  pub frames : Frames

-- nothing has been read
abbrev pub opening : Got
opening = record { stage = Greeting; identity = None; messages = []; frames = [] }

-- one frame more; the last one completes its message
abbrev pub with_frame : Got → Position → Bytes → Got
with_frame g More body = record g { frames = g.frames ++ body ∷ [] }
with_frame g Last body = record g { messages = g.messages ++ (g.frames ++ body ∷ []) ∷ []; frames = [] }

-- a whole item, and how far the reading has come after it
pub data Step (role : Role) : Got → Bytes → Got → Type 0 where
  Greets : (g h : Got) (raw : Bytes) → g.stage ≡ Greeting → IsGreeting raw
      → h ≡ record g { stage = Handshake } → Step role g raw h
  Readies : (g h : Got) (raw body : Bytes) (identity : Option Bytes) → g.stage ≡ Handshake
      → IsAllowed g.stage (length g.frames) raw Command body → IsAccepted role body identity
      → h ≡ record g { stage = Traffic; identity = identity } → Step role g raw h
  Skips : (g h : Got) (raw body : Bytes) → g.stage ≡ Traffic
      → IsAllowed g.stage (length g.frames) raw Command body → IsSkipped body → h ≡ g → Step role g raw h
  TakesFrame : (g h : Got) (raw body : Bytes) (position : Position)
      → IsAllowed g.stage (length g.frames) raw (Message position) body → h ≡ with_frame g position body
      → Step role g raw h

-- the bytes are whole items and then the rest, and these items take the reading from the one to the other
pub data Reads (role : Role) : Got → Bytes → Got → Bytes → Type 0 where
  Stays : (g : Got) (bytes : Bytes) → Reads role g bytes g bytes
  Goes : (g h i : Got) (bytes raw others rest : Bytes) → Step role g raw h → bytes ≡ raw ++ others
      → Reads role h others i rest → Reads role g bytes i rest

-- no item may begin as these bytes do
pub data Fault (role : Role) : Got → Bytes → StreamFault → Type 0 where
  InGreeting : (g : Got) (bytes : Bytes) (c : StreamFault) → g.stage ≡ Greeting
      → first_broken 0 bytes ≡ Some c → Fault role g bytes c
  InFlag : (g : Got) (bytes others : Bytes) (flag : ℕ) (c : StreamFault) → (g.stage ≡ Greeting → ⊥)
      → bytes ≡ flag ∷ others → broken_by_flag g.stage (length g.frames) flag ≡ Some c → Fault role g bytes c
  -- the least size that the bytes may still have is too large
  InSize : (g : Got) (bytes others : Bytes) (flag : ℕ) (c : StreamFault) → bytes ≡ flag ∷ others
      → broken_by_flag g.stage (length g.frames) flag ≡ None → is_long flag ≡ true
      → 1048576 < least_number 8 0 others → c ≡ fault.FrameSize → Fault role g bytes c
  InCommand : (g : Got) (bytes raw others body : Bytes) (c : StreamFault) → bytes ≡ raw ++ others
      → IsAllowed g.stage (length g.frames) raw Command body → IsRefused role g.stage body c
      → Fault role g bytes c

-- the bytes are the beginning of an item that isn't whole, and nothing is wrong with them
pub record IsPartial (role : Role) (g : Got) (bytes : Bytes) : Type 0 where
  pub unfinished : (raw others : Bytes) (h : Got) → Step role g raw h → bytes ≡ raw ++ others → ⊥
  pub good : (c : StreamFault) → Fault role g bytes c → ⊥

-- what a side keeps of the peer's stream
pub record DecoderState : Type 0 where
  pub role : Role
  pub stage : Stage
  pub identity : Option Bytes
  pub frames : Frames
  pub rest : Bytes
  pub fault : Option StreamFault

-- how far a side has come, with these messages before
abbrev pub got_by : DecoderState → Messages → Got
got_by s messages = record { stage = s.stage; identity = s.identity; messages = messages; frames = s.frames }

-- after the whole items comes the rest, which the side keeps; or a fault, and then it keeps nothing
abbrev pub EndsIn : DecoderState → Got → Bytes → Option StreamFault → Type 0
EndsIn s g rest None = (rest ≡ s.rest) × IsPartial s.role g rest
EndsIn s g rest (Some c) = (s.rest ≡ []) × Fault s.role g rest c

-- the side has read this stream, and these are all the messages in it
pub record HasReadMessages (s : DecoderState) (stream : Bytes) (messages : Messages) : Type 0 where
  pub rest : Bytes
  pub reads : Reads s.role opening stream (got_by s messages) rest
  pub ends : EndsIn s (got_by s messages) rest s.fault

-- whatever the stream was before, this piece comes after it, and completes these messages
pub record Completes (old : DecoderState) (piece : Bytes) (out : Messages) (new : DecoderState)
    : Type 0 where
  pub role : new.role ≡ old.role
  pub represents : (stream : Bytes) (messages : Messages) → HasReadMessages old stream messages
      → HasReadMessages new (stream ++ piece) (messages ++ out)
