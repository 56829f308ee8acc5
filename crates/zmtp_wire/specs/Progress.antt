-- A feed on its way through its bytes.
use Rattle.std.specs.Prelude.{◌≡◌, ℕ, ◌<◌, ◌≤◌, Option, Some, None, [], ◌∷◌, length, take, drop}
use Rattle.std.specs.Prelude.{Result, IfOk, OnErr}
use Rattle.std.specs.declared.alloc.AllocError.{AllocError}
use Rattle.zmtp_wire.specs.Wire.{Bytes, Frames, Messages}
use Rattle.zmtp_wire.specs.declared.fault.StreamFault.{StreamFault}
use Rattle.zmtp_wire.specs.declared.role.Role.{Role}
use Rattle.zmtp_wire.specs.declared.progress.Progress.{Progress}
use Rattle.zmtp_wire.specs.declared.progress.Ready.{Ready}
use Rattle.zmtp_wire.specs.declared.progress.Taken.{Taken}
use Rattle.zmtp_wire.specs.declared.progress.Taken.TheVariants.{Item, Partial, Broken}
use Rattle.zmtp_wire.specs.declared.head.Stage.TheVariants.{Handshake, Traffic}
use Rattle.zmtp_wire.specs.declared.head.Kind.{Kind}
use Rattle.zmtp_wire.specs.declared.head.Kind.TheVariants.{Command, Message}
use Rattle.zmtp_wire.specs.declared.head.Position.{Position}
use Rattle.zmtp_wire.specs.Commands.{IsAccepted, IsSkipped, IsRefused}
use Rattle.zmtp_wire.specs.Stream.{Got, with_frame, Step, Reads, Fault, IsPartial}

-- the identity in a READY of this feed, else the one known before
abbrev pub identity_from : Option Ready → Option Bytes → Option Bytes
identity_from None before = before
identity_from (Some ready) before = ready.identity

-- how far the reading has come in this feed, if this identity was known before
abbrev pub got_in : Progress → Option Bytes → Got
got_in p before = record {
  stage = p.stage;
  identity = identity_from p.accepted before;
  messages = p.messages.items;
  frames = p.frames;
}

-- the reading before and the reading after, whatever identity was known before this feed
abbrev pub WhateverBefore : Progress → Progress → (Got → Got → Type 0) → Type 0
WhateverBefore old new relates = (before : Option Bytes) → relates (got_in old before) (got_in new before)

-- what a frame does to the reading
pub data Effect (role : Role) (g : Got) : Kind → Bytes → Got → Type 0 where
  Accept : (h : Got) (body : Bytes) (identity : Option Bytes) → g.stage ≡ Handshake
      → IsAccepted role body identity → h ≡ record g { stage = Traffic; identity = identity }
      → Effect role g Command body h
  Skip : (h : Got) (body : Bytes) → g.stage ≡ Traffic → IsSkipped body → h ≡ g → Effect role g Command body h
  Take : (h : Got) (body : Bytes) (position : Position) → h ≡ with_frame g position body
      → Effect role g (Message position) body h

-- what stands at the front of the bytes, and what it does
abbrev pub TakesItem : Role → Bytes → Taken → Progress → Progress → Type 0
TakesItem role bytes (Item n) old new =
    (0 < n) × (n ≤ length bytes) × WhateverBefore old new (λ g h. Step role g (take n bytes) h)
TakesItem role bytes Partial old new = (new ≡ old) × WhateverBefore old new (λ g h. IsPartial role g bytes)
TakesItem role bytes (Broken c) old new = (new ≡ old) × WhateverBefore old new (λ g h. Fault role g bytes c)

-- a command's content is accepted or refused
abbrev pub TakesCommand : Role → Bytes → Option StreamFault → Progress → Progress → Type 0
TakesCommand role body None old new = WhateverBefore old new (λ g h. Effect role g Command body h)
TakesCommand role body (Some c) old new = (new ≡ old) × IsRefused role old.stage body c

-- a frame's body is taken in, or a command's is refused
abbrev pub TakesBody : Role → Kind → Bytes → Option StreamFault → Progress → Progress → Type 0
TakesBody role kind body None old new = WhateverBefore old new (λ g h. Effect role g kind body h)
TakesBody role kind body (Some c) old new = (new ≡ old) × (kind ≡ Command) × IsRefused role old.stage body c

-- the same messages, and the same frames of the one that has begun
pub record SameMessages (old new : Progress) : Type 0 where
  pub messages : new.messages.items ≡ old.messages.items
  pub frames : new.frames ≡ old.frames

-- where the whole items end
abbrev pub EndsAt : Role → Bytes → Option StreamFault → Progress → Type 0
EndsAt role rest None p = WhateverBefore p p (λ g h. IsPartial role g rest)
EndsAt role rest (Some c) p = WhateverBefore p p (λ g h. Fault role g rest c)

-- the frames that had come before are the first frames of the first message, if there is one, else of the
-- next one
abbrev pub KeepsFirst : Frames → Messages → Frames → Type 0
KeepsFirst before [] frames = take (length before) frames ≡ before
KeepsFirst before (m ∷ messages) frames = take (length before) m ≡ before

-- taking the whole items at the front of the bytes has this result, and takes the feed from old to new: so
-- many bytes are those items, and this fault follows them, if one does
pub record TakesItems (role : Role) (bytes : Bytes) (result : Result (ℕ × Option StreamFault) AllocError)
    (old new : Progress) : Type 0 where
  pub count : IfOk result (λ r. r.0 ≤ length bytes)
  pub reads : IfOk result (λ r. WhateverBefore old new (λ g h. Reads role g bytes h (drop r.0 bytes)))
  pub ends : IfOk result (λ r. EndsAt role (drop r.0 bytes) r.1 new)
  pub err : OnErr result (old.messages.items ≡ [] → KeepsFirst old.frames new.messages.items new.frames)

-- the first frames, this many, of the first message, if there is one, else of the next one
abbrev pub FirstFrames : Messages → Frames → Frames → ℕ → Type 0
FirstFrames [] old new count = new ≡ take count old
FirstFrames (m ∷ messages) old new count = new ≡ take count m
