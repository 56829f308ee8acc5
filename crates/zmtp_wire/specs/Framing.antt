-- Frames (RFC 23, "Framing"): a flag byte, a size of one byte or of eight, and the body.
use Rattle.std.specs.Prelude.{◌≡◌, ℕ, zero, suc, ◌+◌, ◌*◌, ◌≤◌, ◌==◌, ◌||◌, nat_le, if◌then◌else◌, Bool, true}
use Rattle.std.specs.Prelude.{false, Option, Some, None, [], ◌∷◌, ◌++◌, length}
use Rattle.zmtp_wire.specs.Wire.{Bytes}
use Rattle.zmtp_wire.specs.declared.fault.StreamFault.{StreamFault}
use Rattle.zmtp_wire.specs.declared.fault.StreamFault.TheVariants as fault
use Rattle.zmtp_wire.specs.declared.head.Stage.{Stage}
use Rattle.zmtp_wire.specs.declared.head.Stage.TheVariants.{Greeting, Handshake, Traffic}
use Rattle.zmtp_wire.specs.declared.head.Kind.{Kind}
use Rattle.zmtp_wire.specs.declared.head.Kind.TheVariants.{Command, Message}
use Rattle.zmtp_wire.specs.declared.head.Position.TheVariants.{More, Last}

-- the number whose bytes these are, most significant first, after the number so far
abbrev pub number_from : ℕ → Bytes → ℕ
number_from n [] = n
number_from n (byte ∷ bytes) = number_from (n * 256 + byte) bytes

-- the number of this many more bytes, after the number so far; those that haven't come yet count as 0
abbrev pub least_number : ℕ → ℕ → Bytes → ℕ
least_number zero n bytes = n
least_number (suc left) n [] = least_number left (n * 256) []
least_number (suc left) n (byte ∷ bytes) = least_number left (n * 256 + byte) bytes

-- flag bytes: bit 0 says that more frames of the message follow, bit 1 that the size is long, bit 2 that
-- the frame is a command
abbrev pub flag_of : Kind → Bool → ℕ
flag_of (Message Last) false = 0
flag_of (Message More) false = 1
flag_of (Message Last) true = 2
flag_of (Message More) true = 3
flag_of Command false = 4
flag_of Command true = 6

-- the kind of frame of a flag byte; all others are reserved
abbrev pub kind_of : ℕ → Option Kind
kind_of flag =
    if (flag == 0) || (flag == 2) then Some (Message Last) else
    (if (flag == 1) || (flag == 3) then Some (Message More) else
    (if (flag == 4) || (flag == 6) then Some Command else None))

-- whether a flag byte says that the size is long
abbrev pub is_long : ℕ → Bool
is_long flag = (flag == 2) || ((flag == 3) || (flag == 6))

-- why a frame may not come here, after this many frames of its message. First comes a command, READY;
-- no command comes inside a message; a message has 64 frames at most
abbrev pub refusal : Stage → ℕ → Kind → Option StreamFault
refusal Greeting count kind = Some fault.Flags
refusal Handshake count (Message position) = Some fault.Command
refusal Handshake count Command = None
refusal Traffic count (Message Last) = None
refusal Traffic count (Message More) = if nat_le 63 count then (Some fault.FrameCount) else None
refusal Traffic count Command = if count == 0 then None else (Some fault.Command)

-- what a frame of this kind breaks, or a flag byte of none
abbrev pub broken_by_kind : Stage → ℕ → Option Kind → Option StreamFault
broken_by_kind stage count None = Some fault.Flags
broken_by_kind stage count (Some kind) = refusal stage count kind

-- what a flag byte breaks
abbrev pub broken_by_flag : Stage → ℕ → ℕ → Option StreamFault
broken_by_flag stage count flag = broken_by_kind stage count (kind_of flag)

-- the digits of a size: eight where it is long, else one
abbrev pub IsSize : Bool → Bytes → ℕ → Type 0
IsSize true digits size = (length digits ≡ 8) × (number_from 0 digits ≡ size)
IsSize false digits size = digits ≡ size ∷ []

-- the bytes of a frame
pub record IsFrame (raw : Bytes) (kind : Kind) (body : Bytes) : Type 0 where
  pub long : Bool
  pub digits : Bytes
  pub size : IsSize long digits (length body)
  pub spelled : raw ≡ flag_of kind long ∷ (digits ++ body)

-- a frame within the limits that may come here
pub record IsAllowed (stage : Stage) (count : ℕ) (raw : Bytes) (kind : Kind) (body : Bytes) : Type 0 where
  pub frame : IsFrame raw kind body
  pub size : length body ≤ 1048576
  pub here : refusal stage count kind ≡ None
