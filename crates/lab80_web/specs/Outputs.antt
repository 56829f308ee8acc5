-- What is written: posts and answers, each as one message.
use Rattle.std.specs.Prelude.{◌≡◌, ℕ, List, [], ◌∷◌, ◌++◌, codes, flat_map}
use Rattle.zmtp_wire.specs.Wire.{Bytes, Frames}
use Rattle.zmtp_wire.specs.Writing.{message_bytes}
use Rattle.base_streams.specs.States.{OutletState}
use Rattle.base_streams.specs.Told.{Took, TookPrefix}
use Rattle.kern_post.specs.declared.post.Post.{Post}
use Rattle.kern_render.specs.Rendering.{IsRendered}
use Rattle.lab80_web.specs.declared.answer.Answer.{Answer}
use Rattle.lab80_web.specs.Answers.{number_frame, answer_frames}

pub data Output : Type 0 where
  OfPost : Post → Output
  OfAnswer : Answer → Output

abbrev pub connections_frame : List ℕ → Bytes
connections_frame connections = flat_map number_frame connections

-- the word, the connections that get the post, and its frames under the empty key
abbrev pub IsPostMessage : Post → Frames → Type 0
IsPostMessage post frames =
    (rendered : Frames) × IsRendered [] (codes "lab80-web") post rendered
    × (frames ≡ codes "post" ∷ connections_frame post.letter.envelope.to ∷ rendered)

abbrev pub IsMessageOf : Output → Frames → Type 0
IsMessageOf (OfPost post) frames = IsPostMessage post frames
IsMessageOf (OfAnswer answer) frames = frames ≡ answer_frames answer

-- the bytes are the messages of these outputs, one after the other
unfoldable pub IsStreamOf : List Output → Bytes → Type 0
IsStreamOf [] bytes = bytes ≡ []
IsStreamOf (output ∷ outputs) bytes =
    (frames : Frames) × (others : Bytes) × IsMessageOf output frames × IsStreamOf outputs others
    × (bytes ≡ message_bytes frames ++ others)

-- all of these outputs were written
pub record WroteAll (old new : OutletState) (outputs : List Output) : Type 0 where
  pub bytes : Bytes
  pub stream : IsStreamOf outputs bytes
  pub took : Took old new bytes

-- a prefix of what these outputs are written as was written
pub record WrotePrefix (old new : OutletState) (outputs : List Output) : Type 0 where
  pub begun : List Output
  pub others : List Output
  pub split : outputs ≡ begun ++ others
  pub bytes : Bytes
  pub stream : IsStreamOf begun bytes
  pub front : TookPrefix old new bytes
