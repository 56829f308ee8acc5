-- The frames that sealing makes of a post's draft are the post's.
use Rattle.std.proofs.Common.{◌≡◌, ◌∙◌, List, ℕ, refl, sym, ap}
use Rattle.std.specs.Prelude.{min}
use Rattle.jup_wire.specs.declared.sealing.Draft.{Draft}
use Rattle.jup_wire.specs.Header.{empty_object}
use Rattle.jup_wire.specs.Seal.{IsSealed, frames_of, signature_frame}
use Rattle.jup_wire.proofs.PartLemmas.{same_parts, text_is}
use Rattle.kern_post.specs.declared.post.Post.{Post}
use Rattle.kern_render.specs.Json.{content_json}
use Rattle.kern_render.proofs.FloatLemmas.{content_has_no_float}
use Rattle.jup_wire.specs.Dates.{IsDate, last_moment}
use Rattle.kern_render.specs.Rendering.{post_header, parts_of, frames_with_date, IsRendered}
use Rattle.kern_render.specs.Drafts.{IsDraftOf}
use Rattle.jup_wire.proofs.DateLemmas.{one_date}

pub sealed_is_rendered : (key date session : List ℕ) (post : Post) (draft : Draft) (frames : List (List ℕ))
    → IsDate (min post.unix_seconds last_moment) date → IsDraftOf date session post draft
    → IsSealed key draft frames → IsRendered key session post frames
sealed_is_rendered key date session post draft frames dated of s =
    let number = post.number in
    let content = post.letter.content in
    let header = text_is s.parts.header _ (post_header date session number content) s.header of.header refl in
    let metadata = text_is s.parts.metadata _ empty_object s.metadata of.metadata refl in
    let body = text_is s.parts.content _ (content_json number content) s.content of.content
    (content_has_no_float number content) in
    let same = same_parts s.parts (parts_of date session post) (s.identities ∙ of.identities) header
    (s.parent_header ∙ of.parent_header) metadata body in
    (date, dated, s.whole ∙ ap (λ p. frames_of p (signature_frame key p)) same)

-- the frames follow from the date, and a moment has one date
pub one_rendering : (key session : List ℕ) (post : Post) (a b : List (List ℕ))
    → IsRendered key session post a → IsRendered key session post b → a ≡ b
one_rendering key session post a b (date, dated, is) (date', dated', is') =
    is ∙ (ap (λ d. frames_with_date d key session post) (one_date _ date date' dated dated') ∙ sym is')
