use Rattle.std.proofs.Common.{◌≡◌, ◌+◌, List, length}
use Rattle.kern_post.specs.declared.post.Post.{Post}
use Rattle.kern_post.specs.Posts.{Keeps, with_posts}
use Rattle.kern_post.proofs.store.Store.push_all.Given as goal

abbrev pub invariant-loop-letter : goal.invariant-loop-letter
invariant-loop-letter l = record {
  made : l.self.made + length l.letters ≡ l.fn.self.made + length l.fn.letters;
  keeps : (posts : List Post) → Keeps posts l.fn.self
      → (so_far : List Post) × Keeps so_far l.self
      × (with_posts l.unix_seconds l.letters so_far ≡ with_posts l.unix_seconds l.fn.letters posts);
}

abbrev pub decreases-loop-letter : goal.decreases-loop-letter
decreases-loop-letter l = length l.letters
