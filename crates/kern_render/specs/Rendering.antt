-- The frames of a post (Jupyter messaging, "The Wire Protocol", "Message header").
use Rattle.std.specs.Prelude.{◌≡◌, ℕ, [], ◌∷◌, min}
use Rattle.base_text.specs.Bytes.{Bytes, Text, Frames}
use Rattle.serde_json.specs.Data.{Data}
use Rattle.serde_json.specs.Written.{compact_text}
use Rattle.jup_wire.specs.declared.message.Parts.{Parts}
use Rattle.jup_wire.specs.Header.{empty_object, header_json}
use Rattle.jup_wire.specs.Seal.{frames_of, signature_frame}
use Rattle.kern_post.specs.declared.content.Content.{Content}
use Rattle.kern_post.specs.declared.post.Head.{Head}
use Rattle.kern_post.specs.declared.post.Head.TheVariants.{Topic, Identities}
use Rattle.kern_post.specs.declared.post.Post.{Post}
use Rattle.kern_post.specs.Topics.{topic_of}
use Rattle.kern_render.specs.Json.{content_json}
use Rattle.jup_wire.specs.Dates.{IsDate, last_moment}

-- the header of the post's message
abbrev pub post_header : Text → Text → ℕ → Content → Data
post_header date session number content = header_json date session number (topic_of content)

-- the frames before the delimiter
abbrev pub head_frames : Head → Content → Frames
head_frames Topic content = topic_of content ∷ []
head_frames (Identities frames) content = frames

-- the header, the metadata and the content are the compact texts of their values
abbrev pub parts_of : Text → Text → Post → Parts
parts_of date session post = record {
  identities = head_frames post.letter.envelope.head post.letter.content;
  header = compact_text (post_header date session post.number post.letter.content);
  parent_header = post.letter.envelope.parent;
  metadata = compact_text empty_object;
  content = compact_text (content_json post.number post.letter.content);
}

-- the frames of the post, signed with the key, with this date in the header
abbrev pub frames_with_date : Text → Bytes → Text → Post → Frames
frames_with_date date key session post =
    frames_of (parts_of date session post) (signature_frame key (parts_of date session post))

-- the frames are those of the post, dated with its moment, or with the last moment that has a date
abbrev pub IsRendered : Bytes → Text → Post → Frames → Type 0
IsRendered key session post frames =
    (date : Text) × IsDate (min post.unix_seconds last_moment) date
    × (frames ≡ frames_with_date date key session post)
