use Rattle.std.proofs.Common.{◌≡◌, List, refl, subst}
use Rattle.kern_post.specs.declared.post.Post.{Post}
use Rattle.kern_net.specs.Rounds.{WriteFails, IsDenied, IsCut}
use Rattle.kern_net.specs.Routes.{target_of}
use Rattle.kern_net.proofs.pump_out.fetch_on.Goals as goal

pub returns-in-Ok-clause-err : goal.returns-in-Ok-clause-err
returns-in-Ok-clause-err g c =
    let batch = c.in-Ok.field-0 in
    let end = c.in-Err-write_posts.end in
    let C : List Post → Type 0 =
    λ posts. WriteFails (target_of c.args.route.now) (g.W.Outlet.state c.args.to.now)
    (g.W.Outlet.state c.write_posts.new.to) posts end in
    let k : c.as_slice.result.now ≡ batch.posts = cc in
    IsCut end batch.posts batch.next batch.ended c.in-Ok.ensures.ok
    (subst C k c.in-Err-write_posts.ensures.err)

pub returns-clause-err : goal.returns-clause-err
returns-clause-err g c = IsDenied c.in-Err.end c.in-Err.ensures.err refl c.requires.good
