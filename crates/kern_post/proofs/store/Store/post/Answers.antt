use Rattle.std.proofs.Common.{◌≡◌, ◌∙◌, ◌≤◌, ◌-◌, max, length, sym, true, false, nat_lt, arith}
use Rattle.kern_post.specs.declared.post.Post.{Post}
use Rattle.kern_post.proofs.PostLemmas.{post_at, post_before}
use Rattle.kern_post.proofs.store.Store.post.Goals as goal

pub returns-then-number-first : goal.returns-then-number-first
returns-then-number-first c = λ posts keeps. post_before posts _ _ (c.first-first.ensures.first posts keeps)
    c.if-number-first.true

pub returns : goal.returns
returns c = λ posts keeps.
    c.kept_at.ensures
    ∙ post_at posts _ _ _ keeps.kept (c.first-first.ensures.first posts keeps) c.if-number-first.false
