-- What laws say of sessions.
use Rattle.std.specs.Prelude.{◌≡◌, List, [], ◌∷◌, ◌++◌, Option, Some, None}
use Rattle.std.specs.List.{AllByRecursion}
use Rattle.zmtp_wire.specs.Wire.{Messages}
use Rattle.kern_post.specs.declared.post.Post.{Post}
use Rattle.kern_calls.specs.declared.call.Call.{Call}
use Rattle.kern_core.specs.States.{KernelState}
use Rattle.kern_core.specs.Turns.{next}
use Rattle.lab80_web.specs.declared.answer.Answer.{Answer}
use Rattle.lab80_web.specs.declared.answer.Answer.TheVariants.{More}
use Rattle.lab80_web.specs.Items.{item_of}
use Rattle.lab80_web.specs.Outputs.{Output, OfPost, OfAnswer}
use Rattle.lab80_web.specs.Session.{answer_to_call, calls_of, state_after_message}

-- the post that is written, if it isn't an answer
abbrev pub post_in : Output → Option Post
post_in (OfPost post) = Some post
post_in (OfAnswer answer) = None

-- the calls that the items of a session make, from this state on
abbrev pub calls_in : Messages → KernelState → List Call
calls_in [] s = []
calls_in (frames ∷ messages) s =
    calls_of (item_of frames) s ++ calls_in messages (state_after_message s frames)

-- what each of these calls is answered, from this state on
abbrev pub answers_to : List Call → KernelState → List Answer
answers_to [] s = []
answers_to (call ∷ calls) s = answer_to_call call s ∷ answers_to calls (next s call)

-- each of these calls is answered that there may be more to do
abbrev pub AreAllMore : List Call → KernelState → Type 0
AreAllMore calls s = AllByRecursion (λ answer. answer ≡ More) (answers_to calls s)
