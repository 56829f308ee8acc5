-- What a session's messages are answered with.
use Rattle.std.specs.Prelude.{ℕ, zero, suc, List, [], ◌∷◌, ◌++◌, map, length, drop}
use Rattle.std.specs.Prelude.{if◌then◌else◌}
use Rattle.std.specs.List.{fold}
use Rattle.zmtp_wire.specs.Wire.{Frames, Messages}
use Rattle.kern_post.specs.declared.post.Post.{Post}
use Rattle.kern_calls.specs.declared.call.Call.{Call}
use Rattle.kern_calls.specs.declared.call.Call.TheVariants.{Slice}
use Rattle.kern_core.specs.States.{KernelState, kernel_before_calls}
use Rattle.kern_core.specs.Turns.{turn, next}
use Rattle.lab80_web.specs.declared.answer.Answer.{Answer}
use Rattle.lab80_web.specs.declared.answer.Answer.TheVariants as answer
use Rattle.lab80_web.specs.declared.items.Item.{Item}
use Rattle.lab80_web.specs.declared.items.Item.TheVariants as item
use Rattle.lab80_web.specs.Answers.{answer_of, is_more}
use Rattle.lab80_web.specs.Items.{item_of}
use Rattle.lab80_web.specs.Outputs.{Output, OfPost, OfAnswer}

-- ---- runs

-- what a call is answered
abbrev pub answer_to_call : Call → KernelState → Answer
answer_to_call call s = answer_of (turn call s).answer

-- the Slices of a run: at most so many, up to and with the first that isn't answered that there is more
unfoldable pub slices : ℕ → ℕ → KernelState → List Call
slices unix_seconds zero s = []
slices unix_seconds (suc count) s =
    Slice unix_seconds ∷ (if is_more (answer_to_call (Slice unix_seconds) s)
    then slices unix_seconds count (next s (Slice unix_seconds)) else [])

-- what the last of these calls is answered, from this state on
unfoldable pub last_answer : Answer → List Call → KernelState → Answer
last_answer before [] s = before
last_answer before (call ∷ calls) s = last_answer (answer_to_call call s) calls (next s call)

-- ---- items

-- the calls that an item makes
abbrev pub calls_of : Item → KernelState → List Call
calls_of (item.Call call) s = call ∷ []
calls_of (item.Run unix_seconds count) s = slices unix_seconds count s
calls_of (item.Refused refusal) s = []

-- its answer, if it makes no call: a run of no Slices leaves all that there is to do
abbrev pub answer_without_calls : Item → Answer
answer_without_calls (item.Refused refusal) = answer.Refused refusal
answer_without_calls _ = answer.More

abbrev pub answer_to : Item → KernelState → Answer
answer_to i s = last_answer (answer_without_calls i) (calls_of i s) s

abbrev pub state_after_item : Item → KernelState → KernelState
state_after_item i s = fold next s (calls_of i s)

-- the posts of the second state that aren't in the first, which has the same before them
abbrev pub posts_since : KernelState → KernelState → List Post
posts_since s t = drop (length s.posts) t.posts

-- the posts that the item's calls made, and its answer
abbrev pub outputs_of_item : Item → KernelState → List Output
outputs_of_item i s = map OfPost (posts_since s (state_after_item i s)) ++ OfAnswer (answer_to i s) ∷ []

-- ---- sessions

abbrev pub state_after_message : KernelState → Frames → KernelState
state_after_message s frames = state_after_item (item_of frames) s

abbrev pub state_after_messages : KernelState → Messages → KernelState
state_after_messages s messages = fold state_after_message s messages

abbrev pub outputs_from : KernelState → Messages → List Output
outputs_from s [] = []
outputs_from s (frames ∷ messages) =
    outputs_of_item (item_of frames) s ++ outputs_from (state_after_message s frames) messages

-- what is written for these messages, from a new kernel on
abbrev pub outputs_of : Messages → List Output
outputs_of messages = outputs_from kernel_before_calls messages
