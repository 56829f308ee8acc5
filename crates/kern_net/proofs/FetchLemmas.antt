-- What a Fetch is answered.
use Rattle.std.proofs.Common.{◌≡◌, ℕ, ◌+◌, ◌-◌, ◌<◌, ◌≤◌, Bool, true, false, if◌then◌else◌, List, length}
use Rattle.std.proofs.Common.{take, drop, Option, Some, None, Result, Ok, Err, refl, arith, sym, ap, ◌∙◌}
use Rattle.std.proofs.Common.{subst, take-append-drop}
use Rattle.std.specs.Prelude.{nat_lt, min, max}
use Rattle.std.specs.List.{filter}
use Rattle.std.proofs.Math.Nat.{le-max_left}
use Rattle.std.proofs.Math.Seq.{take-append_seam}
use Rattle.std.proofs.lemmas.Bool.{ltb-false}
use Rattle.std.proofs.lemmas.List.{length-take, length-drop}
use Rattle.lab_turn.specs.History.{PassState}
use Rattle.kern_post.specs.declared.post.Post.{Post}
use Rattle.kern_post.specs.Posts.{is_to, first_kept, posts_between as posts_to, next_from}
use Rattle.kern_peers.specs.declared.peer.Peer.{Peer}
use Rattle.kern_calls.specs.declared.call.Call.{Call}
use Rattle.kern_calls.specs.declared.call.Call.TheVariants.{Fetch}
use Rattle.kern_calls.specs.declared.call.Reply.{Reply}
use Rattle.kern_calls.specs.declared.call.Reply.TheVariants as reply
use Rattle.kern_calls.specs.declared.fault.KernelFault.{KernelFault}
use Rattle.kern_calls.specs.declared.fault.KernelFault.TheVariants as fault
use Rattle.kern_core.specs.Kernels.{is_entry}
use Rattle.kern_core.specs.States.{KernelState, Turn, refuse_turn, turn_without_posts}
use Rattle.kern_core.specs.Connections.{by_peer, fetching}
use Rattle.kern_core.specs.Turns.{turn, state_after}
use Rattle.kern_desk.specs.Seats.{calls_of, seated_answer}
use Rattle.kern_net.specs.Calls.{TurnedBy}
use Rattle.kern_net.specs.Streams.{posts_in, window}
use Rattle.kern_net.specs.Rounds.{IsFetchAnswer}

-- only a Fetch's answers come
fits_if : (b : Bool) (t u : Turn) → IsFetchAnswer t.answer → IsFetchAnswer u.answer
    → IsFetchAnswer (if b then t else u).answer
fits_if true t u p q = p
fits_if false t u p q = q

fits_at : (peer : Option Peer) (connection from : ℕ) (s : KernelState)
    → IsFetchAnswer (by_peer peer s (λ p. fetching connection from s)).answer
fits_at None connection from s = tt
fits_at (Some p) connection from s =
    fits_if (nat_lt from (first_kept (length s.posts)))
    (refuse_turn (fault.Lagged (first_kept (length s.posts))) s)
    (turn_without_posts (reply.Fetched (posts_to connection from s.posts)
    (next_from from (length s.posts)) s.is_shut) s)
    tt tt

fetch_fits : (connection from : ℕ) (s : KernelState) → IsFetchAnswer (turn (Fetch connection from) s).answer
unfolding turn
fetch_fits connection from s = fits_at _ connection from s

entry_fits : (v w : PassState Call) (connection from : ℕ) (answer : Result Reply KernelFault)
    → TurnedBy v (Fetch connection from) answer w → is_entry answer ≡ true → IsFetchAnswer answer
entry_fits v w connection from answer t h =
    let e = t.entered h in
    let P : Result Reply KernelFault → Type 0 = λ a. IsFetchAnswer a in
    subst P (sym e.answered) (fetch_fits connection from (state_after (calls_of e.before)))

pub fetch_answer : (v w : PassState Call) (connection from : ℕ) (answer : Result Reply KernelFault)
    → TurnedBy v (Fetch connection from) answer w → IsFetchAnswer answer
fetch_answer v w connection from (Ok r) t = entry_fits v w connection from (Ok r) t refl
fetch_answer v w connection from (Err f) t = tt

-- what a Fetch gave of all posts
pub record Gives (connection from : ℕ) (all posts : List Post) (next : ℕ) : Type 0 where
  pub one : 1 ≤ from
  pub posts_are : posts ≡ window connection from next all
  pub onward : from ≤ next
  pub within : next - from ≤ length (drop (from - 1) all)

took : (n : ℕ) (X : List Post) → take (min n (length X)) X ≡ take n X
took n X =
    ap (λ k. take k X) (sym (length-take n X))
    ∙ ap (take (length (take n X))) (sym (take-append-drop n X)) ∙ take-append_seam (take n X) (drop n X)

-- how far it goes, where it covers so many numbers
covered : (k f n l : ℕ) → 1 ≤ f → l ≡ n - (f - 1) → max f (min (f + k) (n + 1)) - f ≡ min k l
covered k f n l one is = omega arith

covers : (k c f : ℕ) (P : List Post) → 1 ≤ f
    → filter (is_to c) (take k (drop (f - 1) P)) ≡ window c f (max f (min (f + k) (length P + 1))) P
unfolding window
covers k c f P one =
    let X = drop (f - 1) P in
    let n = covered k f (length P) (length X) one (length-drop (f - 1) P) in
    ap (filter (is_to c)) (sym (ap (λ i. take i X) n ∙ took k X))

kept : (k f n : ℕ) → 1 ≤ f → max f (min (f + k) (n + 1)) - f ≤ n - (f - 1)
kept k f n one = omega arith

onwards : (k f n : ℕ) → f ≤ max f (min (f + k) (n + 1))
onwards k f n = omega arith

from_one : (f x : ℕ) → nat_lt f (max 1 x) ≡ false → 1 ≤ f
from_one f x h = let b = ltb-false f (max 1 x) h in let m = le-max_left 1 x in omega (arith, b, m)

gives_if : (b : Bool) (c f : ℕ) (s : KernelState) (lagged : KernelFault) (posts : List Post) (next : ℕ)
    (ended : Bool)
    → nat_lt f (first_kept (length s.posts)) ≡ b
    → Ok (reply.Fetched posts next ended) ≡ (if b then refuse_turn lagged s else turn_without_posts
    (reply.Fetched (posts_to c f s.posts) (next_from f (length s.posts)) s.is_shut) s).answer
    → Gives c f s.posts posts next
gives_if true c f s lagged posts next ended h e = absurd cc
gives_if false c f s lagged posts next ended h e =
    let P = s.posts in
    let at : next ≡ next_from f (length P) = cc in
    let are : posts ≡ posts_to c f P = cc in
    let one = from_one f (length P - 4095) h in
    let k = kept 64 f (length P) one in
    let d = length-drop (f - 1) P in
    let w : next_from f (length P) - f ≤ length (drop (f - 1) P) = rw d k in
    record {
      one = one;
      posts_are = are ∙ covers 64 c f P one ∙ ap (λ n. window c f n P) (sym at);
      onward = rw at (onwards 64 f (length P));
      within = rw at w;
    }

gives_at : (peer : Option Peer) (c f : ℕ) (s : KernelState) (posts : List Post) (next : ℕ) (ended : Bool)
    → Ok (reply.Fetched posts next ended) ≡ (by_peer peer s (λ p. fetching c f s)).answer
    → Gives c f s.posts posts next
gives_at None c f s posts next ended e = absurd cc
gives_at (Some p) c f s posts next ended e =
    gives_if (nat_lt f (first_kept (length s.posts))) c f s (fault.Lagged (first_kept (length s.posts))) posts
    next ended refl e

gives_there : (c f : ℕ) (s : KernelState) (posts : List Post) (next : ℕ) (ended : Bool)
    → Ok (reply.Fetched posts next ended) ≡ (turn (Fetch c f) s).answer → Gives c f s.posts posts next
unfolding turn
gives_there c f s posts next ended e = gives_at _ c f s posts next ended e

pub gives : (before : List (ℕ × Call)) (c f : ℕ) (posts : List Post) (next : ℕ) (ended : Bool)
    → Ok (reply.Fetched posts next ended) ≡ seated_answer before (Fetch c f)
    → Gives c f (posts_in before) posts next
gives before c f posts next ended e = gives_there c f (state_after (calls_of before)) posts next ended e

-- ---- a Fetch that leaves no post

behind : (f n next : ℕ) → next ≡ max f (min (f + 64) (n + 1)) → next - f < 64 → n < next
behind f n next is short = omega (arith, is, short)

reaches_if : (b : Bool) (c f : ℕ) (s : KernelState) (lagged : KernelFault) (posts : List Post) (next : ℕ)
    (ended : Bool)
    → Ok (reply.Fetched posts next ended) ≡ (if b then refuse_turn lagged s else turn_without_posts
    (reply.Fetched (posts_to c f s.posts) (next_from f (length s.posts)) s.is_shut) s).answer
    → next - f < 64 → length s.posts < next
reaches_if true c f s lagged posts next ended e short = absurd cc
reaches_if false c f s lagged posts next ended e short =
    let at : next ≡ next_from f (length s.posts) = cc in behind f (length s.posts) next at short

reaches_at : (peer : Option Peer) (c f : ℕ) (s : KernelState) (posts : List Post) (next : ℕ) (ended : Bool)
    → Ok (reply.Fetched posts next ended) ≡ (by_peer peer s (λ p. fetching c f s)).answer
    → next - f < 64 → length s.posts < next
reaches_at None c f s posts next ended e short = absurd cc
reaches_at (Some p) c f s posts next ended e short =
    reaches_if (nat_lt f (first_kept (length s.posts))) c f s (fault.Lagged (first_kept (length s.posts)))
    posts
    next ended e short

reaches_there : (c f : ℕ) (s : KernelState) (posts : List Post) (next : ℕ) (ended : Bool)
    → Ok (reply.Fetched posts next ended) ≡ (turn (Fetch c f) s).answer → next - f < 64
    → length s.posts < next
unfolding turn
reaches_there c f s posts next ended e short = reaches_at _ c f s posts next ended e short

pub reaches : (before : List (ℕ × Call)) (c f : ℕ) (posts : List Post) (next : ℕ) (ended : Bool)
    → Ok (reply.Fetched posts next ended) ≡ seated_answer before (Fetch c f) → next - f < 64
    → length (posts_in before) < next
reaches before c f posts next ended e short =
    reaches_there c f (state_after (calls_of before)) posts next ended e short
