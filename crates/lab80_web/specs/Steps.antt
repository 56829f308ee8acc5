-- What the steps of serving do, whatever state the kernel is in.
use Rattle.std.specs.Prelude.{◌≡◌, ◌≢◌, ◌+◌, ◌≤◌, true, List, ◌++◌, [], map, length, drop, option_to_list, ℕ}
use Rattle.std.specs.Prelude.{None, Some, Result}
use Rattle.std.specs.Prelude.{IfOk, MatchResult}
use Rattle.std.specs.declared.alloc.AllocError.{AllocError}
use Rattle.zmtp_wire.specs.Wire.{Bytes, Messages}
use Rattle.zmtp_wire.specs.declared.peer_fault.PeerFault.{PeerFault}
use Rattle.zmtp_wire.specs.declared.peer_fault.PeerFault.TheVariants as end
use Rattle.zmtp_wire.specs.Ends.{Refuses}
use Rattle.zmtp_wire.specs.Stream.{DecoderState, Completes}
use Rattle.base_streams.specs.States.{OutletState, IsWritable}
use Rattle.kern_post.specs.Posts.{kept_post}
use Rattle.kern_calls.specs.declared.call.Call.{Call}
use Rattle.kern_core.specs.States.{KernelState}
use Rattle.kern_core.specs.Turns.{next}
use Rattle.kern_core.specs.Represents.{KernelFields, RepresentsKernel}
use Rattle.lab80_web.specs.declared.answer.Answer.{Answer}
use Rattle.lab80_web.specs.declared.items.Item.{Item}
use Rattle.lab80_web.specs.Outputs.{Output, OfPost, WroteAll, WrotePrefix}
use Rattle.lab80_web.specs.Session.{answer_to, answer_to_call, posts_since, state_after_item}
use Rattle.lab80_web.specs.Session.{state_after_messages, outputs_from}
use Rattle.lab80_web.specs.Serving.{is_whole}

-- these outputs were written; or a prefix of them, and the fault says why not more
abbrev pub WritesOutputs : {A : Type 0} → List Output → OutletState → OutletState → Result A PeerFault
    → Type 0
WritesOutputs outputs old new result = MatchResult result
    (λ _. WroteAll old new outputs × IsWritable new)
    (λ fault. WrotePrefix old new outputs × Refuses fault new)

-- the kernel's fields, and what is written to
pub record Server : Type 0 where
  pub kernel : KernelFields
  pub outlet : OutletState

abbrev pub server : KernelFields → OutletState → Server
server kernel outlet = record { kernel = kernel; outlet = outlet }

-- ---- posts

-- the post with this number was written, if it is kept
abbrev pub WritesKept : KernelFields → ℕ → OutletState → OutletState → Result (Unit {0}) PeerFault → Type 0
WritesKept kernel number old new result = (s : KernelState) → RepresentsKernel kernel s
    → WritesOutputs (map OfPost (option_to_list (kept_post number s.posts))) old new result

-- the posts after this number were written, if there are at most eight
abbrev pub WritesPosts : KernelFields → ℕ → OutletState → OutletState → Result (Unit {0}) PeerFault → Type 0
WritesPosts kernel after old new result = (s : KernelState) → RepresentsKernel kernel s
    → after ≤ length s.posts → length s.posts ≤ after + 8
    → WritesOutputs (map OfPost (drop after s.posts)) old new result

-- ---- calls and items

-- what is written, the state after it, and the answer
pub record Effect : Type 0 where
  pub outputs : List Output
  pub state : KernelState
  pub answer : Answer

abbrev pub effect_of_call : Call → KernelState → Effect
effect_of_call call s = record {
  outputs = map OfPost (posts_since s (next s call));
  state = next s call;
  answer = answer_to_call call s;
}

abbrev pub effect_of_item : Item → KernelState → Effect
effect_of_item i s = record {
  outputs = map OfPost (posts_since s (state_after_item i s));
  state = state_after_item i s;
  answer = answer_to i s;
}

-- the kernel made the call, with at most eight posts, and this is the answer to it; or memory ran out
abbrev pub ActsOn : Call → KernelFields → Result Answer AllocError → KernelFields → Type 0
ActsOn call old result new =
    (s : KernelState) → RepresentsKernel old s → IfOk result
    (λ answer. (answer ≡ answer_to_call call s) × RepresentsKernel new (next s call)
    × (length (next s call).posts ≤ length s.posts + 8))

-- whatever state the kernel was in, this is what was made of it; or a prefix of the outputs was written
abbrev pub HasEffect : (KernelState → Effect) → Server → Server → Result Answer PeerFault → Type 0
HasEffect effect old new result =
    (s : KernelState) → RepresentsKernel old.kernel s
    → WritesOutputs (effect s).outputs old.outlet new.outlet result
    × MatchResult result
    (λ answer. (answer ≡ (effect s).answer) × RepresentsKernel new.kernel (effect s).state)
    (λ _. Unit {0})

-- ---- messages

abbrev pub AnswersMessages : Messages → Server → Server → Result (Unit {0}) PeerFault → Type 0
AnswersMessages messages old new result =
    (s : KernelState) → RepresentsKernel old.kernel s
    → WritesOutputs (outputs_from s messages) old.outlet new.outlet result
    × MatchResult result (λ _. RepresentsKernel new.kernel (state_after_messages s messages)) (λ _. Unit {0})

-- ---- pieces of the stream

-- the peer's decoder, and the server
pub record Served : Type 0 where
  pub decoder : DecoderState
  pub server : Server

-- the decoder read the piece, and the messages in it were answered
pub record AnsweredPiece (s : KernelState) (piece : Bytes) (old new : Served) : Type 0 where
  pub messages : Messages
  pub completes : Completes old.decoder piece messages new.decoder
  pub good : new.decoder.fault ≡ None
  pub wrote : WroteAll old.server.outlet new.server.outlet (outputs_from s messages)
  pub writable : IsWritable new.server.outlet
  pub represents : RepresentsKernel new.server.kernel (state_after_messages s messages)

-- why the stream isn't read on: it is broken, or nothing more can be written
abbrev pub StopsBy : PeerFault → Served → Type 0
StopsBy (end.Wire cause) new = (new.decoder.fault ≡ Some cause) × IsWritable new.server.outlet
StopsBy fault new = Refuses fault new.server.outlet

-- the decoder read the piece, or none of it if memory ran out, and a prefix of what answers the messages in
-- it was written
pub record FailedPiece (s : KernelState) (piece : Bytes) (old new : Served) (fault : PeerFault) : Type 0 where
  pub read : Bytes
  pub unread : Bytes
  pub split : piece ≡ read ++ unread
  pub all : fault ≢ end.OutOfMemory → unread ≡ []
  pub messages : Messages
  pub completes : Completes old.decoder read messages new.decoder
  pub front : WrotePrefix old.server.outlet new.server.outlet (outputs_from s messages)
  pub whole : is_whole fault ≡ true → WroteAll old.server.outlet new.server.outlet (outputs_from s messages)
  pub stops : StopsBy fault new

abbrev pub TakesPiece : Bytes → Served → Served → Result (Unit {0}) PeerFault → Type 0
TakesPiece piece old new result =
    (s : KernelState) → RepresentsKernel old.server.kernel s
    → MatchResult result (λ _. AnsweredPiece s piece old new) (FailedPiece s piece old new)
