use Rattle.std.proofs.Common.{◌≡◌, take, drop}
use Rattle.std.specs.List.{filter}
use Rattle.kern_post.specs.Posts.{is_to}
use Rattle.kern_post.proofs.store.Store.fetch.Given as goal

abbrev pub invariant-loop-k : goal.invariant-loop-k
invariant-loop-k l =
    l.found.items ≡ filter (is_to l.connection) (take l.k (drop l.start l.self.kept))
