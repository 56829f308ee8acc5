-- The answers to items.
use Rattle.std.specs.Prelude.{ℕ, [], ◌∷◌, Bool, true, false, Result, Ok, Err, codes}
use Rattle.std.specs.Int.{w64, to_be_bytes}
use Rattle.base_text.specs.Bytes.{Bytes, Frames}
use Rattle.kern_calls.specs.declared.call.Reply.{Reply}
use Rattle.kern_calls.specs.declared.call.Reply.TheVariants as reply
use Rattle.kern_calls.specs.declared.fault.KernelFault.{KernelFault}
use Rattle.kern_calls.specs.declared.fault.KernelFault.TheVariants as fault
use Rattle.lab80_web.specs.declared.answer.Answer.{Answer}
use Rattle.lab80_web.specs.declared.answer.Answer.TheVariants as answer
use Rattle.lab80_web.specs.declared.answer.Refusal.{Refusal}
use Rattle.lab80_web.specs.declared.answer.Refusal.TheVariants as refusal

abbrev pub lacks_memory : Result Reply KernelFault → Bool
lacks_memory (Err fault.OutOfMemory) = true
lacks_memory _ = false

-- The answer to an item whose last call was answered so. The last case is reached by no item: only a Fetch is
-- answered Fetched or Lagged; without a journal none is full; and where memory runs out the program ends.
abbrev pub answer_of : Result Reply KernelFault → Answer
answer_of (Ok (reply.Joined connection from)) = answer.Joined connection
answer_of (Ok reply.Left) = answer.Left
answer_of (Ok reply.Subscribed) = answer.Subscribed
answer_of (Ok reply.Arrived) = answer.Arrived
answer_of (Ok reply.More) = answer.More
answer_of (Ok reply.Idle) = answer.Idle
answer_of (Ok reply.Ended) = answer.Ended
answer_of (Err fault.Full) = answer.Refused refusal.Full
answer_of (Err fault.NoConnection) = answer.Refused refusal.NoConnection
answer_of _ = answer.Refused refusal.NotItem

abbrev pub refusal_text : Refusal → Bytes
refusal_text refusal.Full = codes "full"
refusal_text refusal.NoConnection = codes "no connection"
refusal_text refusal.NotMessage = codes "not a message"
refusal_text refusal.NotItem = codes "not an item"

-- a number, most significant byte first
abbrev pub number_frame : ℕ → Bytes
number_frame n = to_be_bytes w64 n

abbrev pub answer_frames : Answer → Frames
answer_frames (answer.Joined connection) = codes "joined" ∷ number_frame connection ∷ []
answer_frames answer.Left = codes "left" ∷ []
answer_frames answer.Subscribed = codes "subscribed" ∷ []
answer_frames answer.Arrived = codes "arrived" ∷ []
answer_frames answer.More = codes "more" ∷ []
answer_frames answer.Idle = codes "idle" ∷ []
answer_frames answer.Ended = codes "ended" ∷ []
answer_frames (answer.Refused why) = codes "refused" ∷ refusal_text why ∷ []

-- there may be more to do
abbrev pub is_more : Answer → Bool
is_more answer.More = true
is_more _ = false
