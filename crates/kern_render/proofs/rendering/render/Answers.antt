use Rattle.std.proofs.Common.{subst}
use Rattle.std.proofs.lemmas.Result.{IfOk-weaker}
use Rattle.kern_render.specs.Drafts.{IsDraftOf}
use Rattle.kern_render.proofs.RenderLemmas.{sealed_is_rendered}
use Rattle.kern_render.proofs.rendering.render.Goals as goal

pub returns : goal.returns
returns c =
    let key = c.args.key.now in
    let session = c.args.session.now in
    let post = c.args.post.now in
    let date = c.in_ok-date.date in
    let draft = c.in_ok-draft.draft in
    let of = subst (λ text. IsDraftOf text session post draft) c.as_str.ensures c.in_ok-draft.ensures in
    IfOk-weaker c.seal_message.result _ _
    (λ frames sealed. sealed_is_rendered key date session post draft frames c.in_ok-date.ensures of sealed)
    c.seal_message.ensures.sealed
