-- What the first bytes of an item say, as a function of them.
use Rattle.std.specs.Prelude.{ℕ, zero, suc, ◌+◌, ◌*◌, nat_lt, nat_le, if◌then◌else◌, Bool, true, false}
use Rattle.std.specs.Prelude.{Option, Some, None, [], ◌∷◌, length}
use Rattle.zmtp_wire.specs.Wire.{Bytes}
use Rattle.zmtp_wire.specs.declared.fault.StreamFault.{StreamFault}
use Rattle.zmtp_wire.specs.declared.fault.StreamFault.TheVariants as fault
use Rattle.zmtp_wire.specs.declared.head.Stage.{Stage}
use Rattle.zmtp_wire.specs.declared.head.Stage.TheVariants.{Greeting, Handshake, Traffic}
use Rattle.zmtp_wire.specs.declared.head.Kind.{Kind}
use Rattle.zmtp_wire.specs.declared.head.Head.{Head}
use Rattle.zmtp_wire.specs.declared.head.Head.TheVariants.{Wants, Bad, Greets, Sized}
use Rattle.zmtp_wire.specs.Greeting.{first_broken}
use Rattle.zmtp_wire.specs.Framing.{kind_of, is_long, refusal}

-- no size is above 1048576: so with this many of its bytes to come, what it says so far isn't above this
abbrev pub room_at : ℕ → ℕ
room_at zero = 1048576
room_at (suc zero) = 4096
room_at (suc (suc zero)) = 16
room_at (suc (suc (suc n))) = 0

-- what the bytes of a long size say, with this many to come, after the number so far
abbrev pub long_size : Kind → ℕ → ℕ → Bytes → Head
long_size kind zero size bytes = Sized kind 9 size
long_size kind (suc left) size [] = Wants
long_size kind (suc left) size (byte ∷ bytes) =
    if nat_lt (room_at left) (size * 256 + byte) then (Bad fault.FrameSize)
    else (long_size kind left (size * 256 + byte) bytes)

-- what the byte of a short size says
abbrev pub short_size : Kind → Bytes → Head
short_size kind [] = Wants
short_size kind (size ∷ bytes) = Sized kind 2 size

-- what the bytes after a good flag say
abbrev pub by_size : Kind → Bool → Bytes → Head
by_size kind true bytes = long_size kind 8 0 bytes
by_size kind false bytes = short_size kind bytes

-- a refusal comes first
abbrev pub unless_refused : Option StreamFault → Kind → Bool → Bytes → Head
unless_refused (Some c) kind long bytes = Bad c
unless_refused None kind long bytes = by_size kind long bytes

-- what the bytes after a flag say
abbrev pub by_flag : Stage → ℕ → Option Kind → Bool → Bytes → Head
by_flag stage count None long bytes = Bad fault.Flags
by_flag stage count (Some kind) long bytes = unless_refused (refusal stage count kind) kind long bytes

-- what the bytes of a frame say
abbrev pub frame_head : Stage → ℕ → Bytes → Head
frame_head stage count [] = Wants
frame_head stage count (flag ∷ bytes) = by_flag stage count (kind_of flag) (is_long flag) bytes

-- what the bytes of a greeting say, by what is wrong with them
abbrev pub greeting_head : Option StreamFault → Bytes → Head
greeting_head (Some c) bytes = Bad c
greeting_head None bytes = if nat_le 64 (length bytes) then Greets else Wants

-- what the bytes of an item say, after this many frames of its message
abbrev pub head_of : Stage → ℕ → Bytes → Head
head_of Greeting count bytes = greeting_head (first_broken 0 bytes) bytes
head_of Handshake count bytes = frame_head Handshake count bytes
head_of Traffic count bytes = frame_head Traffic count bytes
