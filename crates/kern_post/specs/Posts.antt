-- All posts as one list, which part of it is kept, and which part a fetch returns.
use Rattle.std.specs.Prelude.{◌≡◌, ℕ, ◌+◌, ◌-◌, ◌==◌, List, [], ◌∷◌, ◌++◌, length, take, drop, Bool, min, max}
use Rattle.std.specs.Prelude.{Option, None, nat_lt, slice_get, if◌then◌else◌}
use Rattle.std.specs.List.{filter, list_any}
use Rattle.kern_post.specs.declared.post.Letter.{Letter}
use Rattle.kern_post.specs.declared.post.Post.{Post}

-- the letters as posts of one moment, after the post with this number
abbrev pub as_posts : ℕ → ℕ → List Letter → List Post
as_posts last unix_seconds [] = []
as_posts last unix_seconds (l ∷ ls) =
    record { number = last + 1; unix_seconds = unix_seconds; letter = l } ∷
    as_posts (last + 1) unix_seconds ls

-- all posts after these letters were posted
abbrev pub with_posts : ℕ → List Letter → List Post → List Post
with_posts unix_seconds letters posts = posts ++ as_posts (length posts) unix_seconds letters

abbrev pub is_to : ℕ → Post → Bool
is_to connection p = list_any (λ k. k == connection) p.letter.envelope.to

-- the first number that is kept, if the last is n
abbrev pub first_kept : ℕ → ℕ
first_kept n = max 1 (n - 4095)

-- the post with this number, if it is kept
abbrev pub kept_post : ℕ → List Post → Option Post
kept_post number posts =
    if nat_lt number (first_kept (length posts)) then None else slice_get posts (number - 1)

-- those to the connection, of the posts with the numbers from, from + 1, .. from + 63
abbrev pub posts_between : ℕ → ℕ → List Post → List Post
posts_between connection from posts = filter (is_to connection) (take 64 (drop (from - 1) posts))

-- the number from which to fetch next, if the last post is n
abbrev pub next_from : ℕ → ℕ → ℕ
next_from from n = max from (min (from + 64) (n + 1))

-- what contracts see of a store: the posts that it has, and how many were posted
pub record StoreState : Type 0 where
  pub kept : List Post
  pub made : ℕ

-- the store keeps the last 4,096 of all posts
pub record Keeps (posts : List Post) (s : StoreState) : Type 0 where
  pub made : s.made ≡ length posts
  pub kept : s.kept ≡ drop (length posts - 4096) posts
