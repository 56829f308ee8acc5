-- Posting one letter after the other, and fetching from the posts that are kept.
use Rattle.std.proofs.Common.{◌≡◌, ◌∙◌, ℕ, ◌+◌, ◌-◌, ◌<◌, List, [], ◌∷◌, ◌++◌, length, take, drop, get_or}
use Rattle.std.proofs.Common.{zero, suc, zero-add, ◌≤◌, max, slice_get, None, nat_lt, true, false}
use Rattle.std.proofs.Common.{min, refl, ap, arith, append_assoc, length-append, length-drop, Bool, inl, inr}
use Rattle.std.proofs.lemmas.List.{take_more, drop_all, take_all, drop-drop}
use Rattle.std.proofs.lemmas.List.Elements.{filter-append}
use Rattle.std.proofs.lemmas.Bool.{cases_lt, lt-ltb, le-ltb}
use Rattle.std.specs.List.{filter}
use Rattle.kern_post.specs.declared.post.Letter.{Letter}
use Rattle.kern_post.specs.declared.post.Post.{Post}
use Rattle.kern_post.specs.Posts.{as_posts, with_posts, first_kept, kept_post}

-- posting the first letter, and then the others after it
pub posted-cons : (unix_seconds : ℕ) (l : Letter) (ls : List Letter) (posts : List Post)
    → with_posts unix_seconds ls (with_posts unix_seconds (l ∷ []) posts)
    ≡ with_posts unix_seconds (l ∷ ls) posts
posted-cons unix_seconds l ls posts =
    let p : Post = record { number = length posts + 1; unix_seconds = unix_seconds; letter = l } in
    rw (length-append posts (p ∷ []))
    (append_assoc posts (p ∷ []) (as_posts (length posts + 1) unix_seconds ls))

-- one item more
pub filter_more : {A : Type 0} (p : A → Bool) (xs : List A) (i : ℕ) (x : A) → i < length xs
    → x ≡ get_or xs i x → filter p (take (i + 1) xs) ≡ filter p (take i xs) ++ filter p (x ∷ [])
filter_more p xs i x h e = rw (take_more xs i x h, ← e) (filter-append p (take i xs) (x ∷ []))

drop_min : {A : Type 0} (s : ℕ) (xs : List A) → drop (min s (length xs)) xs ≡ drop s xs
drop_min s xs = elim (cases_lt s (length xs)) [
  | inl less ↦ ap (λ n. drop n xs) (omega arith)
  | inr more ↦ (
      let all : min s (length xs) ≡ length xs = omega arith in
      rw (all, drop_all (length xs) xs (omega arith), drop_all s xs more) refl)
]

take_min : {A : Type 0} (m n : ℕ) (xs : List A) → length xs ≡ m → take (min m n) xs ≡ take n xs
take_min m n xs is = elim (cases_lt n m) [
  | inl less ↦ ap (λ k. take k xs) (omega arith)
  | inr more ↦ (
      let all : min m n ≡ m = omega arith in
      rw (all, take_all m xs (omega arith), take_all n xs (omega arith)) refl)
]

-- the posts that the loop of a fetch goes over are those of the definition
pub looked_at : (posts kept : List Post) (from skipped start count : ℕ)
    → kept ≡ drop (length posts - 4096) posts → length posts < from + length kept
    → skipped + (length posts - length kept) + 1 ≡ from
    → start ≡ min skipped (length kept) → count ≡ min (length kept - start) 64
    → take count (drop start kept) ≡ take 64 (drop (from - 1) posts)
looked_at posts kept from skipped start count is late skips starts counts =
    let len : length kept ≡ length posts - (length posts - 4096) =
    ap length is ∙ length-drop (length posts - 4096) posts in
    let rest : length (drop start kept) ≡ length kept - start = length-drop start kept in
    let begins : drop start kept ≡ drop skipped kept = rw starts (drop_min skipped kept) in
    let whole : drop skipped kept ≡ drop (from - 1) posts =
    ap (drop skipped) is ∙ (drop-drop skipped (length posts - 4096) posts
    ∙ ap (λ n. drop n posts) (omega arith)) in
    rw counts (take_min (length kept - start) 64 (drop start kept) rest)
    ∙ ap (take 64) (begins ∙ whole)

slice_get-drop : {A : Type 0} (n : ℕ) (xs : List A) (i : ℕ) → slice_get (drop n xs) i ≡ slice_get xs (n + i)
slice_get-drop zero xs i = rw zero-add refl
slice_get-drop (suc n) [] i = refl
slice_get-drop (suc n) (x ∷ xs) i =
    let e : suc n + i ≡ suc (n + i) = omega arith in rw e (slice_get-drop n xs i)

-- the post with a number stands at its place among the posts that are kept
pub post_at : (posts kept : List Post) (number first : ℕ) → kept ≡ drop (length posts - 4096) posts
    → first ≡ first_kept (length posts) → first ≤ number
    → slice_get kept (number - first) ≡ kept_post number posts
post_at posts kept number first is starts late =
    let not_before : nat_lt number (first_kept (length posts)) ≡ false = le-ltb _ _ (omega arith) in
    rw not_before (ap (λ xs. slice_get xs (number - first)) is
    ∙ (slice_get-drop (length posts - 4096) posts (number - first)
    ∙ ap (slice_get posts) (omega arith)))

-- no post before the first is kept
pub post_before : (posts : List Post) (number first : ℕ) → first ≡ first_kept (length posts)
    → number < first → None ≡ kept_post number posts
post_before posts number first starts early =
    let before : nat_lt number (first_kept (length posts)) ≡ true = lt-ltb _ _ (omega arith) in
    rw before refl
