-- The calls that the messages of a connection ask for.
use Rattle.std.specs.Prelude.{◌≡◌, ◌≤◌, ℕ, Bool, true, false, List, [], ◌∷◌}
use Rattle.zmtp_wire.specs.Wire.{Bytes, Frames, Messages}
use Rattle.serde_json.specs.Data.{Data}
use Rattle.serde_json.specs.View.{view}
use Rattle.jup_wire.specs.declared.channel.Channel.{Channel}
use Rattle.jup_wire.specs.declared.channel.Channel.TheVariants.{Iopub}
use Rattle.jup_wire.specs.declared.message.Header.{Header}
use Rattle.jup_wire.specs.declared.message.Message.{Message}
use Rattle.jup_wire.specs.declared.message.Parts.{Parts}
use Rattle.jup_wire.specs.Wire.{IsMessage}
use Rattle.kern_request.specs.Requests.{request_of}
use Rattle.kern_calls.specs.declared.call.Call.{Call}
use Rattle.kern_calls.specs.declared.call.Call.TheVariants.{Arrive, Subscribe}
use Rattle.kern_net.specs.Routes.{Source}

-- the call for a message that opens under the source's key
pub record IsArrival (source : Source) (frames : Frames) (call : Call) : Type 0 where
  pub message : Message
  pub unix_seconds : ℕ
  pub opens : IsMessage source.key frames message.parts message.header (view message.content)
  pub in_time : unix_seconds ≤ 4102444800
  pub call_is : call ≡ Arrive source.connection
      (record { request = request_of source.channel message; unix_seconds = unix_seconds })

-- the first byte of a subscription, and of its end
abbrev pub mark : Bool → ℕ
mark true = 1
mark false = 0

-- the one frame of a subscription, or of its end: the mark, then the prefix of the topics
abbrev pub subscription_frames : Bool → Bytes → Frames
subscription_frames wants prefix = (mark wants ∷ prefix) ∷ []

-- the call for the frames of a subscription
pub record IsSubscription (source : Source) (frames : Frames) (call : Call) : Type 0 where
  pub wants : Bool
  pub prefix : Bytes
  pub unix_seconds : ℕ
  pub frames_are : frames ≡ subscription_frames wants prefix
  pub in_time : unix_seconds ≤ 4102444800
  pub call_is : call ≡ Subscribe source.connection
      (record { wants = wants; prefix = prefix; unix_seconds = unix_seconds })

-- what the frames ask for on a channel: on iopub a subscription, on the others a request
abbrev pub IsSubmissionOn : Channel → Source → Frames → Call → Type 0
IsSubmissionOn Iopub source frames call = IsSubscription source frames call
IsSubmissionOn _ source frames call = IsArrival source frames call

abbrev pub IsSubmission : Source → Frames → Call → Type 0
IsSubmission source frames call = IsSubmissionOn source.channel source frames call

-- the frames are not a message that opens under the key
abbrev pub IsUnopened : Bytes → Frames → Type 0
IsUnopened key frames = (p : Parts) (h : Header) (content : Data) → IsMessage key frames p h content → ⊥

-- the frames are neither a subscription nor the end of one
abbrev pub IsNoSubscription : Frames → Type 0
IsNoSubscription frames = (wants : Bool) (prefix : Bytes) → frames ≡ subscription_frames wants prefix → ⊥

abbrev pub IsDroppedOn : Channel → Source → Frames → Type 0
IsDroppedOn Iopub source frames = IsNoSubscription frames
IsDroppedOn _ source frames = IsUnopened source.key frames

abbrev pub IsDropped : Source → Frames → Type 0
IsDropped source frames = IsDroppedOn source.channel source frames

-- one call for each message that asks for something, in order, and none for the others
pub data Submits (source : Source) : Messages → List Call → Type 0 where
  NoMore : Submits source [] []
  Submitted : (frames : Frames) (messages : Messages) (call : Call) (calls : List Call)
      → IsSubmission source frames call → Submits source messages calls
      → Submits source (frames ∷ messages) (call ∷ calls)
  Dropped : (frames : Frames) (messages : Messages) (calls : List Call)
      → IsDropped source frames → Submits source messages calls → Submits source (frames ∷ messages) calls
