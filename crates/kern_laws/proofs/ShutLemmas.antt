-- After a shutdown_request a Slice does nothing.
use Rattle.std.proofs.Common.{◌≡◌, ◌∙◌, ℕ, List, [], ◌∷◌, ◌++◌, Bool, true, false, ◌||◌, Option, Some, None}
use Rattle.std.proofs.Common.{refl, sym, ap, fold, if◌then◌else◌}
use Rattle.std.specs.Prelude.{option_to_list}
use Rattle.std.specs.List.{list_any}
use Rattle.lab_core.specs.declared.run_state.RunState.{RunState}
use Rattle.lab_core.specs.declared.run_state.RunState.TheVariants.{NoRun, Running, Stopped}
use Rattle.kern_exec.specs.declared.execution.Execution.{Execution}
use Rattle.kern_post.specs.declared.post.Post.{Post}
use Rattle.kern_calls.specs.declared.call.Call.{Call}
use Rattle.kern_calls.specs.declared.call.Call.TheVariants as call
use Rattle.kern_calls.specs.declared.call.Reply.TheVariants.{Ended}
use Rattle.kern_core.specs.States.{KernelState, Turn, turn_without_posts, after}
use Rattle.kern_core.specs.Slices.{loading, by_start, by_run}
use Rattle.kern_core.specs.Turns.{turn, next}
use Rattle.kern_laws.specs.Events.{Incoming, run_events, along}
use Rattle.kern_laws.specs.Laws.{asks_to_shut_down, call_requests, IsShut}
use Rattle.kern_laws.proofs.CaseLemmas.{either, IsOfCalls, by_call}
use Rattle.kern_laws.proofs.PieceLemmas.{append-nil}
use Rattle.kern_laws.proofs.FormLemmas.{HasForm, exchanged, unposted, request_form}

or_false : (b : Bool) → b ≡ (b || false)
or_false true = refl
or_false false = refl

or_assoc : (a b c : Bool) → ((a || b) || c) ≡ (a || (b || c))
or_assoc true b c = refl
or_assoc false b c = refl

any-append : (xs ys : List Incoming)
    → list_any asks_to_shut_down (xs ++ ys) ≡ (list_any asks_to_shut_down xs || list_any asks_to_shut_down ys)
any-append [] ys = refl
any-append (x ∷ xs) ys =
    ap (λ b. asks_to_shut_down x || b) (any-append xs ys)
    ∙ sym (or_assoc (asks_to_shut_down x) (list_any asks_to_shut_down xs) (list_any asks_to_shut_down ys))

abbrev IsShutBy : KernelState → Option Incoming → Turn → Type 0
IsShutBy s o t = t.state.is_shut ≡ (s.is_shut || list_any asks_to_shut_down (option_to_list o))

shut_form : (s : KernelState) (i : Incoming) (t : Turn) → HasForm s i t → IsShutBy s (Some i) t
shut_form s i t (exchanged e) = e.shut ∙ ap (λ b. s.is_shut || b) (or_false (asks_to_shut_down i))
shut_form s i t (unposted e) = e.shut ∙ ap (λ b. s.is_shut || b) (or_false (asks_to_shut_down i))

shut_others : (s : KernelState) → IsOfCalls (IsShutBy s) s
shut_others s = record {
  refused = λ fault. or_false s.is_shut;
  kept = λ reply connections. or_false s.is_shut;
  subscribed = λ n prefix unix_seconds. or_false s.is_shut;
  requested = λ i unix_seconds. shut_form s i _ (request_form i unix_seconds s);
}

abbrev KeepsShut : KernelState → Turn → Type 0
KeepsShut s t = t.state.is_shut ≡ s.is_shut

shut_loading : (queue : List Execution) (unix_seconds : ℕ) (s : KernelState)
    → KeepsShut s (loading unix_seconds queue s)
shut_loading [] unix_seconds s = refl
shut_loading (x ∷ rest) unix_seconds s = refl

shut_start : (pending : Option ℕ) (unix_seconds : ℕ) (s : KernelState)
    → KeepsShut s (by_start pending unix_seconds s)
shut_start None unix_seconds s = shut_loading s.work.queue unix_seconds s
shut_start (Some address) unix_seconds s = refl

shut_run : (run : RunState) (unix_seconds : ℕ) (s : KernelState) → KeepsShut s (by_run run unix_seconds s)
shut_run Running unix_seconds s = refl
shut_run Stopped unix_seconds s = refl
shut_run NoRun unix_seconds s = shut_start s.work.pending unix_seconds s

shut_call : (c : Call) (s : KernelState)
    → (next s c).is_shut ≡ (s.is_shut || list_any asks_to_shut_down (call_requests c s))
unfolding turn
shut_call (call.Slice unix_seconds) s =
    either (KeepsShut s) s.is_shut _ _ refl (shut_run s.board.run unix_seconds s) ∙ or_false s.is_shut
shut_call (call.Join channel identity) s =
    by_call (IsShutBy s) s (call.Join channel identity) (shut_others s) tt
shut_call (call.Leave n) s = by_call (IsShutBy s) s (call.Leave n) (shut_others s) tt
shut_call (call.Subscribe n c) s = by_call (IsShutBy s) s (call.Subscribe n c) (shut_others s) tt
shut_call (call.Arrive n c) s = by_call (IsShutBy s) s (call.Arrive n c) (shut_others s) tt
shut_call (call.Fetch n from) s = by_call (IsShutBy s) s (call.Fetch n from) (shut_others s) tt

-- the kernel is shut down exactly if it was asked to
pub shut_calls : (calls : List Call) (s : KernelState)
    → (fold next s calls).is_shut ≡ (s.is_shut || list_any asks_to_shut_down (along call_requests calls s))
shut_calls [] s = or_false s.is_shut
shut_calls (c ∷ calls) s =
    let rest = along call_requests calls (next s c) in
    let here = list_any asks_to_shut_down (call_requests c s) in
    shut_calls calls (next s c)
    ∙ (ap (λ b. b || list_any asks_to_shut_down rest) (shut_call c s)
    ∙ (or_assoc s.is_shut here (list_any asks_to_shut_down rest)
    ∙ ap (λ b. s.is_shut || b) (sym (any-append (call_requests c s) rest))))

pub when_shut : (s : KernelState) → s.is_shut ≡ true → IsShut s
unfolding turn
when_shut s is = record {
  events = λ unix_seconds. ap (λ (b : Bool). if b then [] else run_events s.board.run s.work) is;
  answer = λ unix_seconds.
      ap (λ (b : Bool). (if b then turn_without_posts Ended s else by_run s.board.run unix_seconds s).answer)
      is;
  state = λ unix_seconds.
      ap (λ (b : Bool). after (if b then turn_without_posts Ended s else by_run s.board.run unix_seconds s))
      is
      ∙ ap (λ (posts : List Post). record s { posts = posts }) (append-nil s.posts);
}
