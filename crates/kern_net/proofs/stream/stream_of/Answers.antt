use Rattle.std.proofs.Common.{◌++◌, ◌∙◌, List, ℕ, [], ap, sym, subst}
use Rattle.kern_net.specs.Streams.{IsStreamOf}
use Rattle.kern_net.proofs.StreamLemmas.{no_posts, stream_more}
use Rattle.kern_net.proofs.stream.stream_of.Goals as goal

pub loop-post-init : goal.loop-post-init
loop-post-init c =
    let S : List ℕ → Type 0 = λ l. IsStreamOf c.args.key.now c.args.session.now [] l in
    subst S (sym c.new-out.ensures.items) (no_posts c.args.key.now c.args.session.now)

pub loop-post-preserved : goal.loop-post-preserved
loop-post-preserved c =
    stream_more c.args.key.now c.args.session.now c.args.posts.now c.loop-post.post-index c.post-item.result
    c.loop-post.out.items c.extend_from_slice.new.self.items
    c.in_ok-message.message c.loop-post-test.true c.post-item.is c.loop-post.invariant c.in_ok-message.ensures
    (c.in_ok-extend_from_slice.ensures.items ∙ ap (λ l. c.loop-post.out.items ++ l) c.as_slice.ensures)
