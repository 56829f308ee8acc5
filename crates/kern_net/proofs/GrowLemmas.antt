-- Posts only come behind those that there are.
use Rattle.std.proofs.Common.{◌≡◌, ℕ, List, [], ◌∷◌, ◌++◌, length, sym, ap, ◌∙◌, subst, append_assoc}
use Rattle.std.proofs.Common.{append-nil}
use Rattle.std.specs.List.{fold}
use Rattle.std.proofs.lemmas.List.{map-append}
use Rattle.std.proofs.lemmas.List.Sums.{fold-append}
use mathlib.Core.List.{IsPrefix}
use Rattle.kern_post.specs.declared.post.Post.{Post}
use Rattle.kern_post.specs.Posts.{as_posts}
use Rattle.kern_calls.specs.declared.call.Call.{Call}
use Rattle.kern_core.specs.States.{KernelState, kernel_before_calls}
use Rattle.kern_core.specs.Turns.{turn, next, state_after}
use Rattle.kern_desk.specs.Seats.{calls_of}
use Rattle.kern_net.specs.Streams.{posts_in}
use Rattle.kern_net.proofs.TurnLemmas.{turn_leaves_posts}

-- the one list, and then others
pub record Grows (old new : List Post) : Type 0 where
  pub more : List Post
  pub whole : new ≡ old ++ more

grows_none : (posts : List Post) → Grows posts posts
grows_none posts = record { more = []; whole = sym (append-nil posts) }

step_grows : (s : KernelState) (call : Call) → Grows s.posts (next s call).posts
step_grows s call =
    let t = turn call s in
    let kept = turn_leaves_posts call s in
    record {
      more = as_posts (length t.state.posts) t.unix_seconds t.letters;
      whole = ap (λ (p : List Post). p ++ as_posts (length t.state.posts) t.unix_seconds t.letters) kept;
    }

calls_grow : (s : KernelState) (calls : List Call) → Grows s.posts (fold next s calls).posts
calls_grow s [] = grows_none s.posts
calls_grow s (call ∷ calls) =
    let a = step_grows s call in
    let b = calls_grow (next s call) calls in
    record {
      more = a.more ++ b.more;
      whole = b.whole ∙ ap (λ (p : List Post). p ++ b.more) a.whole ∙ append_assoc s.posts a.more b.more;
    }

pub posts_grow : (a b : List (ℕ × Call)) → IsPrefix a b → Grows (posts_in a) (posts_in b)
posts_grow a b p =
    let G : List (ℕ × Call) → Type 0 = λ l. Grows (posts_in a) (posts_in l) in
    let H : KernelState → Type 0 = λ (s : KernelState). Grows (posts_in a) s.posts in
    let joined : state_after (calls_of (a ++ p.0)) ≡ fold next (state_after (calls_of a)) (calls_of p.0) =
    ap (fold next kernel_before_calls) (map-append (λ (e : ℕ × Call). e.1) a p.0)
    ∙ fold-append next kernel_before_calls (calls_of a) (calls_of p.0) in
    subst G p.1 (subst H (sym joined) (calls_grow (state_after (calls_of a)) (calls_of p.0)))
