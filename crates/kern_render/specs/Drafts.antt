-- A message before it is signed.
use Rattle.std.specs.Prelude.{◌≡◌}
use Rattle.base_text.specs.Bytes.{Text}
use Rattle.serde_json.specs.View.{view}
use Rattle.jup_wire.specs.declared.sealing.Draft.{Draft}
use Rattle.jup_wire.specs.Header.{empty_object}
use Rattle.kern_post.specs.declared.post.Post.{Post}
use Rattle.kern_render.specs.Json.{content_json}
use Rattle.kern_render.specs.Rendering.{post_header, head_frames}

-- d is the draft of the post's message with this date in the header
pub record IsDraftOf (date session : Text) (post : Post) (d : Draft) : Type 0 where
  pub identities : d.identities ≡ head_frames post.letter.envelope.head post.letter.content
  pub header : view d.header ≡ post_header date session post.number post.letter.content
  pub parent_header : d.parent_header ≡ post.letter.envelope.parent
  pub metadata : view d.metadata ≡ empty_object
  pub content : view d.content ≡ content_json post.number post.letter.content
