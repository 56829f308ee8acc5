-- The bytes of posts.
use Rattle.std.proofs.Common.{◌≡◌, ℕ, ◌+◌, ◌<◌, List, [], ◌∷◌, ◌++◌, length, take, get_or, refl, sym, ap, ◌∙◌}
use Rattle.std.proofs.Common.{arith, append_assoc, append-nil, length-append}
use Rattle.std.proofs.lemmas.List.{take_more}
use Rattle.zmtp_wire.specs.Writing.{message_bytes}
use Rattle.kern_post.specs.declared.post.Post.{Post}
use Rattle.jup_wire.specs.Wire.{delimiter, json_frames}
use Rattle.jup_wire.specs.Seal.{signature_frame}
use Rattle.kern_render.specs.Rendering.{parts_of, IsRendered}
use Rattle.kern_net.specs.Streams.{IsMessageOf, IsStreamOf}

-- a post has frames
pub has_frames : (key session : List ℕ) (post : Post) (frames : List (List ℕ))
    → IsRendered key session post frames → 0 < length frames
has_frames key session post frames (date, dated, is) =
    let p = parts_of date session post in
    let n = length-append p.identities (delimiter ∷ signature_frame key p ∷ json_frames p) in
    let l = ap length is in
    omega (arith, n, l)

pub message_is : (key session : List ℕ) (post : Post) (frames : List (List ℕ)) (bytes : List ℕ)
    → IsRendered key session post frames → bytes ≡ message_bytes frames → IsMessageOf key session post bytes
unfolding IsMessageOf
message_is key session post frames bytes r e = (frames, r, e)

pub no_posts : (key session : List ℕ) → IsStreamOf key session [] []
unfolding IsStreamOf
no_posts key session = refl

pub one_post : (key session : List ℕ) (post : Post) (message : List ℕ) → IsMessageOf key session post message
    → IsStreamOf key session (post ∷ []) message
unfolding IsStreamOf
one_post key session post message m = (message, [], m, refl, sym (append-nil message))

-- streams join
pub stream-append : (key session : List ℕ) (xs ys : List Post) (a b : List ℕ) → IsStreamOf key session xs a
    → IsStreamOf key session ys b → IsStreamOf key session (xs ++ ys) (a ++ b)
unfolding IsStreamOf
stream-append key session [] ys a b s t = rw s t
stream-append key session (x ∷ xs) ys a b (message, others, m, s, e) t = (
  message,
  others ++ b,
  m,
  stream-append key session xs ys others b s t,
  ap (λ l. l ++ b) e ∙ append_assoc message others b,
)

-- one more post of a list
pub stream_more : (key session : List ℕ) (xs : List Post) (i : ℕ) (x : Post) (out out' message : List ℕ)
    → i < length xs → x ≡ get_or xs i x → IsStreamOf key session (take i xs) out
    → IsMessageOf key session x message → out' ≡ out ++ message
    → IsStreamOf key session (take (i + 1) xs) out'
stream_more key session xs i x out out' message h e s m o =
    let both =
    stream-append key session (take i xs) (x ∷ []) out message s (one_post key session x message m) in
    let posts : take i xs ++ x ∷ [] ≡ take (i + 1) xs =
    ap (λ (y : Post). take i xs ++ y ∷ []) e ∙ sym (take_more xs i x h) in
    rw (← posts, o) both
