-- The messages of iopub, and what is printed of them (Jupyter messaging 5.4, "Messages on the IOPub (PUB/SUB)
-- channel").
use Rattle.std.specs.Prelude.{◌≡◌, ℕ, Bool, ◌&&◌, List, [], ◌∷◌, ◌++◌, codes, if◌then◌else◌, flat_map}
use Rattle.std.specs.Prelude.{unwrap_or}
use Rattle.std.specs.List.{list_any}
use Rattle.std.specs.Str.{bytes_eq}
use Rattle.zmtp_wire.specs.Wire.{Bytes, Frames, Messages}
use Rattle.serde_json.specs.Data.{Data}
use Rattle.serde_json.specs.View.{view}
use Rattle.jup_wire.specs.declared.message.Parts.{Parts}
use Rattle.jup_wire.specs.declared.message.Header.{Header}
use Rattle.jup_wire.specs.declared.message.WireFault.TheVariants as wire
use Rattle.jup_wire.specs.Json.{text_at}
use Rattle.jup_wire.specs.Wire.{IsMessage, IsRefused}
use Rattle.lab_term.specs.declared.event.Event.{Event}
use Rattle.lab_term.specs.declared.fault.TermFault.{TermFault}
use Rattle.lab_term.specs.declared.fault.TermFault.TheVariants.{OutOfMemory, Wire}
use Rattle.lab_term.specs.declared.fault.WireCause.TheVariants.{Message}

-- a message on iopub: its type, the header of the request that it belongs to, its content
pub record Notice : Type 0 where
  pub msg_type : Bytes
  pub parent : Bytes
  pub content : Data

abbrev pub notice_of : Event → Notice
notice_of e = record { msg_type = e.msg_type; parent = e.parent; content = view e.content }

-- under this key the frames are this message
pub record IsNotice (key : Bytes) (frames : Frames) (notice : Notice) : Type 0 where
  pub parts : Parts
  pub header : Header
  pub message : IsMessage key frames parts header notice.content
  pub parent_is : parts.parent_header ≡ notice.parent
  pub type_is : header.msg_type ≡ notice.msg_type

-- the faults of opening: memory ran out, or the frames are refused under this key
abbrev pub IsUnopened : Bytes → Frames → TermFault → Type 0
IsUnopened key frames OutOfMemory = Unit {0}
IsUnopened key frames (Wire (Message cause)) = (cause ≡ wire.OutOfMemory → ⊥) × IsRefused key frames cause
IsUnopened key frames _ = ⊥

-- the text at a key of a content, or an empty one
abbrev pub text_in : Bytes → Data → Bytes
text_in key content = unwrap_or (text_at key content) []

abbrev pub is_status : Notice → Bool
is_status notice = bytes_eq notice.msg_type (codes "status")

abbrev pub is_idle : Notice → Bool
is_idle notice =
    is_status notice && bytes_eq (text_in (codes "execution_state") notice.content) (codes "idle")

abbrev pub is_error : Notice → Bool
is_error notice = bytes_eq notice.msg_type (codes "error")

-- the message belongs to the request with this header
abbrev pub is_of : Bytes → Notice → Bool
is_of header notice = bytes_eq notice.parent header

-- an error in one line: its name and its value
abbrev pub error_line : Data → Bytes
error_line content =
    text_in (codes "ename") content ++ codes ": " ++ text_in (codes "evalue") content ++ codes "\n"

-- what is printed of a message: the text of a stream unchanged, or the line of an error
unfoldable pub text_of : Notice → Bytes
text_of notice =
    if bytes_eq notice.msg_type (codes "stream") then text_in (codes "text") notice.content else
    (if is_error notice then error_line notice.content else [])

-- what is printed of a message for the request with this header
abbrev pub text_shown : Bytes → Notice → Bytes
text_shown header notice = if is_of header notice then text_of notice else []

-- what is printed of messages for the request with this header, in their order
abbrev pub text_printed : Bytes → List Notice → Bytes
text_printed header messages = flat_map (text_shown header) messages

-- whether an error is among the request's messages
abbrev pub has_error : Bytes → List Notice → Bool
has_error header messages = list_any (λ notice. is_of header notice && is_error notice) messages

-- whether the message says that the kernel is done with the request
abbrev pub ends : Bytes → Notice → Bool
ends header notice = is_of header notice && is_idle notice

-- each of these frames is the message beside it
pub data AreNotices (key : Bytes) : Messages → List Notice → Type 0 where
  NoNotice : AreNotices key [] []
  NextNotice : (frames : Frames) (others : Messages) (notice : Notice)
      (messages : List Notice)
      → IsNotice key frames notice → AreNotices key others messages
      → AreNotices key (frames ∷ others) (notice ∷ messages)
