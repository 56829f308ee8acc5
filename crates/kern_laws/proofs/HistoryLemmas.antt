-- The posts of a list of calls are those of its calls, in order.
use Rattle.std.proofs.Common.{◌≡◌, ◌∙◌, ℕ, ◌+◌, List, [], ◌∷◌, ◌++◌, length, map, Option, Some, None, refl}
use Rattle.std.proofs.Common.{sym, ap, fold, filter_map, append_assoc}
use Rattle.std.proofs.lemmas.List.{map-append}
use Rattle.std.proofs.lemmas.List.Elements.{filter_map-append}
use Rattle.lab_core.specs.declared.run_state.RunState.{RunState}
use Rattle.lab_core.specs.declared.run_state.RunState.TheVariants.{NoRun, Running, Stopped}
use Rattle.kern_post.specs.declared.post.Letter.{Letter}
use Rattle.kern_post.specs.declared.post.Post.{Post}
use Rattle.kern_post.specs.Posts.{as_posts}
use Rattle.kern_exec.specs.declared.execution.Execution.{Execution}
use Rattle.kern_calls.specs.declared.call.Call.{Call}
use Rattle.kern_calls.specs.declared.call.Call.TheVariants as call
use Rattle.kern_core.specs.States.{KernelState, Turn, kernel_before_calls}
use Rattle.kern_core.specs.Slices.{loading, by_start, by_run}
use Rattle.kern_core.specs.Turns.{turn, next}
use Rattle.kern_laws.specs.Events.{Incoming, along, letters_of}
use Rattle.kern_laws.proofs.CaseLemmas.{either, IsOfCalls, by_call}
use Rattle.kern_laws.proofs.PieceLemmas.{append-nil}
use Rattle.kern_laws.proofs.FormLemmas.{HasForm, exchanged, unposted, request_form}
use Rattle.kern_laws.proofs.InvariantLemmas.{IsConsistent, call_agrees}

-- ---- a turn keeps the posts before it

abbrev KeepsPosts : KernelState → Turn → Type 0
KeepsPosts s t = t.state.posts ≡ s.posts

abbrev KeepsPostsBy : KernelState → Option Incoming → Turn → Type 0
KeepsPostsBy s o t = KeepsPosts s t

kept_form : (s : KernelState) (i : Incoming) (t : Turn) → HasForm s i t → KeepsPosts s t
kept_form s i t (exchanged e) = e.posts
kept_form s i t (unposted e) = e.posts

kept_others : (s : KernelState) → IsOfCalls (KeepsPostsBy s) s
kept_others s = record {
  refused = λ fault. refl;
  kept = λ reply connections. refl;
  subscribed = λ n prefix unix_seconds. refl;
  requested = λ i unix_seconds. kept_form s i _ (request_form i unix_seconds s);
}

kept_loading : (queue : List Execution) (unix_seconds : ℕ) (s : KernelState)
    → KeepsPosts s (loading unix_seconds queue s)
kept_loading [] unix_seconds s = refl
kept_loading (x ∷ rest) unix_seconds s = refl

kept_start : (pending : Option ℕ) (unix_seconds : ℕ) (s : KernelState)
    → KeepsPosts s (by_start pending unix_seconds s)
kept_start None unix_seconds s = kept_loading s.work.queue unix_seconds s
kept_start (Some address) unix_seconds s = refl

kept_run : (run : RunState) (unix_seconds : ℕ) (s : KernelState) → KeepsPosts s (by_run run unix_seconds s)
kept_run Running unix_seconds s = refl
kept_run Stopped unix_seconds s = refl
kept_run NoRun unix_seconds s = kept_start s.work.pending unix_seconds s

pub kept_posts : (c : Call) (s : KernelState) → KeepsPosts s (turn c s)
unfolding turn
kept_posts (call.Slice unix_seconds) s =
    either (KeepsPosts s) s.is_shut _ _ refl (kept_run s.board.run unix_seconds s)
kept_posts (call.Join channel identity) s =
    by_call (KeepsPostsBy s) s (call.Join channel identity) (kept_others s) tt
kept_posts (call.Leave n) s = by_call (KeepsPostsBy s) s (call.Leave n) (kept_others s) tt
kept_posts (call.Subscribe n c) s = by_call (KeepsPostsBy s) s (call.Subscribe n c) (kept_others s) tt
kept_posts (call.Arrive n c) s = by_call (KeepsPostsBy s) s (call.Arrive n c) (kept_others s) tt
kept_posts (call.Fetch n from) s = by_call (KeepsPostsBy s) s (call.Fetch n from) (kept_others s) tt

-- ---- letters

abbrev letter_in : Post → Letter
letter_in p = p.letter

letters_as_posts : (letters : List Letter) (last unix_seconds : ℕ)
    → map letter_in (as_posts last unix_seconds letters) ≡ letters
letters_as_posts [] last unix_seconds = refl
letters_as_posts (l ∷ letters) last unix_seconds =
    ap (λ rest. l ∷ rest) (letters_as_posts letters (last + 1) unix_seconds)

abbrev pub call_letters : Call → KernelState → List Letter
call_letters c s = (turn c s).letters

next_letters : (c : Call) (s : KernelState)
    → map letter_in (next s c).posts ≡ map letter_in s.posts ++ call_letters c s
next_letters c s =
    let t = turn c s in
    let more = as_posts (length t.state.posts) t.unix_seconds t.letters in
    map-append letter_in t.state.posts more
    ∙ (ap (λ letters. map letter_in t.state.posts ++ letters)
    (letters_as_posts t.letters (length t.state.posts) t.unix_seconds)
    ∙ ap (λ (posts : List Post). map letter_in posts ++ t.letters) (kept_posts c s))

letters_after : (calls : List Call) (s : KernelState)
    → map letter_in (fold next s calls).posts ≡ map letter_in s.posts ++ along call_letters calls s
letters_after [] s = sym (append-nil (map letter_in s.posts))
letters_after (c ∷ calls) s =
    letters_after calls (next s c)
    ∙ (ap (λ letters. letters ++ along call_letters calls (next s c)) (next_letters c s)
    ∙ append_assoc (map letter_in s.posts) (call_letters c s) (along call_letters calls (next s c)))

pub letters_along : (calls : List Call) → letters_of calls ≡ along call_letters calls kernel_before_calls
letters_along calls = letters_after calls kernel_before_calls

-- ---- what is found in letters

-- what f finds in the letters of each call it finds in the posts of all calls
found_along : {A : Type 0} (f : Letter → Option A) (g : Call → KernelState → List A)
    → ((c : Call) (s : KernelState) → IsConsistent s → filter_map f (call_letters c s) ≡ g c s)
    → (calls : List Call) (s : KernelState) → IsConsistent s
    → filter_map f (along call_letters calls s) ≡ along g calls s
found_along f g each [] s h = refl
found_along f g each (c ∷ calls) s h =
    filter_map-append f (call_letters c s) (along call_letters calls (next s c))
    ∙ (ap (λ found. found ++ filter_map f (along call_letters calls (next s c))) (each c s h)
    ∙ ap (λ found. g c s ++ found) (found_along f g each calls (next s c) (call_agrees c s h)))

pub found_in_posts : {A : Type 0} (f : Letter → Option A) (g : Call → KernelState → List A)
    → ((c : Call) (s : KernelState) → IsConsistent s → filter_map f (call_letters c s) ≡ g c s)
    → (calls : List Call) → filter_map f (letters_of calls) ≡ along g calls kernel_before_calls
found_in_posts f g each calls =
    ap (filter_map f) (letters_along calls) ∙ found_along f g each calls kernel_before_calls tt
