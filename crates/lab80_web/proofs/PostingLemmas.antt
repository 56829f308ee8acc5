-- The posts after a number, one after the other.
use Rattle.std.proofs.Common.{◌≡◌, ◌∙◌, ℕ, ◌+◌, ◌-◌, ◌<◌, ◌≤◌, List, [], ◌∷◌, ◌++◌, length, take, drop, map}
use Rattle.std.proofs.Common.{get_or}
use Rattle.std.proofs.Common.{Option, Some, None, Result, Ok, Err, option_to_list, refl, sym, ap, subst}
use Rattle.std.proofs.Common.{arith, length-drop, slice_get, append_assoc, zero, suc}
use Rattle.std.proofs.Common.{nat_lt, false}
use Rattle.std.proofs.lemmas.Bool.{le-ltb}
use Rattle.std.proofs.lemmas.List.{take_more, take_all, map-append, get_or-drop, take-append-drop}
use Rattle.std.proofs.lemmas.Option.{get_or_from_slice_get}
use Rattle.base_streams.specs.States.{OutletState, IsWritable}
use Rattle.zmtp_wire.specs.Ends.{Refuses}
use Rattle.zmtp_wire.specs.declared.peer_fault.PeerFault.{PeerFault}
use Rattle.kern_post.specs.declared.post.Post.{Post}
use Rattle.kern_post.specs.Posts.{kept_post, first_kept}
use Rattle.kern_core.specs.States.{KernelState}
use Rattle.kern_core.specs.Represents.{KernelFields, RepresentsKernel}
use Rattle.lab80_web.specs.Outputs.{Output, OfPost, WroteAll, WrotePrefix}
use Rattle.lab80_web.specs.Steps.{WritesOutputs, WritesKept}
use Rattle.lab80_web.proofs.OutputLemmas.{wrote_none, wrote_on, began_on, began_more}

-- the posts between two numbers were written, if the first of them are kept
pub record Posting (kernel : KernelFields) (after number : ℕ) (old new : OutletState) : Type 0 where
  pub wrote : (s : KernelState) → RepresentsKernel kernel s → after ≤ length s.posts
      → length s.posts ≤ after + 8
      → WroteAll old new (map OfPost (take (number - after) (drop after s.posts)))

pub posting_first : (kernel : KernelFields) (after : ℕ) (outlet : OutletState)
    → Posting kernel after after outlet outlet
posting_first kernel after outlet = record {
  wrote = λ s r low high. let none : after - after ≡ 0 = omega arith in rw none (wrote_none outlet);
}

-- a number below the count has a post
present : (posts : List Post) (i : ℕ) → i < length posts → (post : Post) × (slice_get posts i ≡ Some post)
present [] i h = absurd (omega arith)
present (x ∷ posts) zero h = (x, refl)
present (x ∷ posts) (suc i) h = present posts i (omega arith)

-- which is kept, if it is among the last
kept : (posts : List Post) (number : ℕ) → length posts ≤ number + 8
    → kept_post (number + 1) posts ≡ slice_get posts number
kept posts number near =
    let late : nat_lt (number + 1) (first_kept (length posts)) ≡ false = le-ltb _ _ (omega arith) in
    rw late (ap (slice_get posts) (omega arith))

-- the posts up to one, and it
taken_on : (posts : List Post) (after number : ℕ) (post : Post) → after ≤ number → number < length posts
    → slice_get posts number ≡ Some post
    → map OfPost (take (number + 1 - after) (drop after posts))
    ≡ map OfPost (take (number - after) (drop after posts)) ++ OfPost post ∷ []
taken_on posts after number post late inside is =
    let rest = drop after posts in
    let long : length rest ≡ length posts - after = length-drop after posts in
    let here : get_or rest (number - after) post ≡ post =
    get_or-drop after posts (number - after) post
    ∙ ap (λ n. get_or posts n post) (let e : after + (number - after) ≡ number = omega arith in e)
    ∙ get_or_from_slice_get posts number post post is in
    let more : take (number + 1 - after) rest ≡ take (number - after) rest ++ post ∷ [] =
    ap (λ n. take n rest) (let e : number + 1 - after ≡ (number - after) + 1 = omega arith in e)
    ∙ take_more rest (number - after) post (omega (arith, long))
    ∙ ap (λ (p : Post). take (number - after) rest ++ p ∷ []) here in
    ap (map OfPost) more ∙ map-append OfPost (take (number - after) rest) (post ∷ [])

-- the others after them
taken_all : (posts : List Post) (after number : ℕ) (post : Post) → after ≤ number → number < length posts
    → slice_get posts number ≡ Some post
    → map OfPost (drop after posts)
    ≡ map OfPost (take (number - after) (drop after posts))
    ++ (OfPost post ∷ [] ++ map OfPost (drop (number + 1 - after) (drop after posts)))
taken_all posts after number post late inside is =
    let rest = drop after posts in
    let n = number + 1 - after in
    ap (map OfPost) (sym (take-append-drop n rest)) ∙ map-append OfPost (take n rest) (drop n rest)
    ∙ ap (λ l. l ++ map OfPost (drop n rest)) (taken_on posts after number post late inside is)
    ∙ append_assoc (map OfPost (take (number - after) rest)) (OfPost post ∷ []) (map OfPost (drop n rest))

-- it has so many posts
abbrev pub Counts : KernelFields → ℕ → Type 0
Counts kernel count = (s : KernelState) → RepresentsKernel kernel s → count ≡ length s.posts

pub writes_some : (kernel : KernelFields) (number : ℕ) (post : Post) (o o' : OutletState)
    (result : Result (Unit {0}) PeerFault)
    → ((s : KernelState) → RepresentsKernel kernel s → Some post ≡ kept_post number s.posts)
    → WritesOutputs (OfPost post ∷ []) o o' result → WritesKept kernel number o o' result
writes_some kernel number post o o' result is w = λ s r.
    subst (λ (found : Option Post). WritesOutputs (map OfPost (option_to_list found)) o o' result) (is s r) w

pub writes_none : (kernel : KernelFields) (number : ℕ) (o : OutletState)
    → ((s : KernelState) → RepresentsKernel kernel s → None ≡ kept_post number s.posts)
    → IsWritable o → WritesKept kernel number o o (Ok tt)
writes_none kernel number o is w = λ s r.
    subst (λ (found : Option Post). WroteAll o o (map OfPost (option_to_list found)) × IsWritable o) (is s r)
    (wrote_none o, w)

-- for a number that has a post
wrote_kept : (P : List Output → Type 0) (posts : List Post) (number : ℕ) (post : Post)
    → length posts ≤ number + 8 → slice_get posts number ≡ Some post
    → P (map OfPost (option_to_list (kept_post (number + 1) posts))) → P (OfPost post ∷ [])
wrote_kept P posts number post near is w =
    subst (λ (found : Option Post). P (map OfPost (option_to_list found))) (kept posts number near ∙ is) w

-- one post more
pub posting_on : (kernel : KernelFields) (after number count : ℕ) (old o o' : OutletState)
    → after ≤ number → number < count → Counts kernel count → WritesKept kernel (number + 1) o o' (Ok tt)
    → Posting kernel after number old o → Posting kernel after (number + 1) old o'
posting_on kernel after number count old o o' late inside counts w p = record {
  wrote = λ s r low high.
      let many = counts s r in
      let (post, is) = present s.posts number (omega (arith, many)) in
      let one = wrote_kept (WroteAll o o') s.posts number post (omega arith) is (w s r).0 in
      rw (taken_on s.posts after number post late (omega (arith, many)) is)
      (wrote_on old o o' _ _ (p.wrote s r low high) one);
}

-- a post wasn't written whole
pub posting_cut : (kernel : KernelFields) (after number count : ℕ) (old o o' : OutletState)
    (fault : PeerFault) → after ≤ number → number < count → Counts kernel count
    → WritesKept kernel (number + 1) o o' (Err fault) → Posting kernel after number old o
    → (s : KernelState) → RepresentsKernel kernel s → after ≤ length s.posts → length s.posts ≤ after + 8
    → WrotePrefix old o' (map OfPost (drop after s.posts)) × Refuses fault o'
posting_cut kernel after number count old o o' fault late inside counts w p s r low high =
    let many = counts s r in
    let (post, is) = present s.posts number (omega (arith, many)) in
    let one = wrote_kept (WrotePrefix o o') s.posts number post (omega arith) is (w s r).0 in (
      rw (taken_all s.posts after number post late (omega (arith, many)) is)
          (began_on old o o' _ _ (p.wrote s r low high) (began_more o o' _ _ one)),
      (w s r).1,
    )

-- all posts were written
pub posting_all : (kernel : KernelFields) (after number count : ℕ) (old o : OutletState)
    → count ≤ number → Counts kernel count → IsWritable o → Posting kernel after number old o
    → (s : KernelState) → RepresentsKernel kernel s → after ≤ length s.posts → length s.posts ≤ after + 8
    → WroteAll old o (map OfPost (drop after s.posts)) × IsWritable o
posting_all kernel after number count old o all counts w p s r low high =
    let many = counts s r in
    let long = length-drop after s.posts in
    let whole : take (number - after) (drop after s.posts) ≡ drop after s.posts =
    take_all (number - after) (drop after s.posts) (omega (arith, long)) in
    (subst (λ l. WroteAll old o (map OfPost l)) whole (p.wrote s r low high), w)
