-- Posts in the order of their numbers, and the bytes that they are written as.
use Rattle.std.specs.Prelude.{◌≡◌, ℕ, ◌-◌, List, [], ◌∷◌, ◌++◌, take, drop}
use Rattle.std.specs.List.{filter}
use Rattle.zmtp_wire.specs.Wire.{Bytes, Frames}
use Rattle.zmtp_wire.specs.Writing.{message_bytes}
use Rattle.kern_post.specs.declared.post.Post.{Post}
use Rattle.kern_post.specs.Posts.{is_to}
use Rattle.kern_calls.specs.declared.call.Call.{Call}
use Rattle.kern_core.specs.Turns.{state_after}
use Rattle.kern_desk.specs.Seats.{calls_of}
use Rattle.kern_render.specs.Rendering.{IsRendered}

-- all posts of the kernel after a history
abbrev pub posts_in : List (ℕ × Call) → List Post
posts_in history = (state_after (calls_of history)).posts

-- the posts to a connection from one number on and below another; a post's number is its place in the list,
-- from 1
unfoldable pub window : ℕ → ℕ → ℕ → List Post → List Post
window connection from next posts = filter (is_to connection) (take (next - from) (drop (from - 1) posts))

-- the bytes are a message of the post's frames
unfoldable pub IsMessageOf : Bytes → Bytes → Post → Bytes → Type 0
IsMessageOf key session post bytes =
    (frames : Frames) × IsRendered key session post frames × (bytes ≡ message_bytes frames)

-- the bytes are the posts' messages, one after the other
unfoldable pub IsStreamOf : Bytes → Bytes → List Post → Bytes → Type 0
IsStreamOf key session [] bytes = bytes ≡ []
IsStreamOf key session (post ∷ posts) bytes =
    (message : Bytes) × (others : Bytes) × IsMessageOf key session post message
    × IsStreamOf key session posts others × (bytes ≡ message ++ others)
