use Rattle.std.proofs.Common.{◌≡◌, ◌∙◌, ◌+◌, ◌<◌, [], ◌∷◌, ◌++◌, drop, take, get_or, ap, sym, length}
use Rattle.std.proofs.Common.{length-drop, arith}
use Rattle.std.proofs.lemmas.List.{get_or-drop}
use Rattle.std.specs.List.{filter}
use Rattle.kern_post.specs.declared.post.Post.{Post}
use Rattle.kern_post.specs.Posts.{StoreState, is_to}
use Rattle.kern_post.proofs.PostLemmas.{filter_more, looked_at}
use Rattle.kern_post.proofs.store.Store.fetch.Goals as goal

pub loop-k-preserved : goal.loop-k-preserved
loop-k-preserved c =
    let start = c.min-start.result in
    let kept = c.args.self.now.kept in
    let k = c.loop-k.k in
    let p : Post = c.index-post.result.now in
    let same : c.self.inside.kept.items ≡ kept = ap (λ (s : StoreState). s.kept) c.self.view_is in
    let item : p ≡ get_or (drop start kept) k p =
    c.index-post.ensures ∙ (ap (λ xs. get_or xs (start + k) p) same
    ∙ sym (get_or-drop start kept k p)) in
    let len = length-drop start kept in
    let below = c.loop-k-test.true in
    let counts = c.min-count.ensures in
    let lens : c.len-2.result ≡ length kept = c.len-2.ensures in
    let within : k < length (drop start kept) = omega (arith, len) in
    let for_us = is_to c.args.connection in
    let more : c.push_if_to.new.found.items ≡ c.loop-k.found.items ++ filter for_us (p ∷ []) =
    c.in_ok-push_if_to.ensures in
    more ∙ (ap (λ xs. xs ++ filter for_us (p ∷ [])) c.loop-k.invariant
    ∙ sym (filter_more for_us (drop start kept) k p within item))

pub returns : goal.returns
returns c = λ posts keeps.
    let kept = c.args.self.now.kept in
    let all : c.loop-k.k ≡ c.min-count.result = omega arith in
    let late = c.requires in
    let made = keeps.made in
    let lens : c.len-2.result ≡ length kept = c.len-2.ensures in
    let lens' : c.len.result ≡ length kept = c.len.ensures in
    let skipped = c.skip_count.ensures in
    c.from.ensures ∙ (c.loop-k.invariant ∙ ap (filter (is_to c.args.connection))
    (ap (λ n. take n (drop c.min-start.result kept)) all ∙
    looked_at posts kept c.args.from c.skip_count.result c.min-start.result c.min-count.result
    keeps.kept (omega arith) (omega arith)
    (c.min-start.ensures ∙ omega arith) (c.min-count.ensures ∙ omega arith)))
