-- How often others were woken, and told.
use Rattle.std.proofs.Common.{◌≡◌, ◌∙◌, ◌+◌, ℕ, Bool, true, false, List, [], ◌∷◌, ◌++◌, Result, Ok, Err, refl}
use Rattle.std.proofs.Common.{ap, sym, arith}
use Rattle.std.specs.Prelude.{cond, count_by, not}
use Rattle.std.proofs.lemmas.List.Sums.{sum_by_push}
use Rattle.lab_turn.specs.History.{PassState}
use Rattle.kern_calls.specs.declared.call.Call.{Call}
use Rattle.kern_calls.specs.declared.call.Call.TheVariants.{Arrive, Subscribe}
use Rattle.kern_calls.specs.declared.call.Arrival.{Arrival}
use Rattle.kern_calls.specs.declared.call.Subscription.{Subscription}
use Rattle.kern_calls.specs.declared.call.Reply.{Reply}
use Rattle.kern_calls.specs.declared.fault.KernelFault.{KernelFault}
use Rattle.kern_core.specs.Kernels.{is_entry}
use Rattle.kern_net.specs.Calls.{TurnedBy}
use Rattle.kern_net.specs.Gates.{ReaderPolls, after_wake, WokeForEach, WokeOwnForEach, HasWoken}
use Rattle.kern_net.specs.Gates.{IsToWake, IsDue, with_moment, moment_of}
use Rattle.kern_net.specs.Wakes.{concerns_worker, spares_worker}

-- with one call more
count_more : (p : Call → Bool) (old new : List Call) (call : Call) → new ≡ old ++ call ∷ []
    → count_by p new ≡ count_by p old + cond (p call) 1 0
count_more p old new call is = ap (count_by p) is ∙ sum_by_push (λ c. cond (p c) 1 0) old call

wakes_by : (spares : Bool) (p : ReaderPolls)
    → (after_wake (not spares) p).wakes ≡ p.wakes + cond (not spares) 1 0
wakes_by true p = omega arith
wakes_by false p = refl

own_wakes_by : (spares : Bool) (p : ReaderPolls)
    → (after_wake (not spares) p).own_wakes ≡ p.own_wakes + cond spares 1 0
own_wakes_by true p = refl
own_wakes_by false p = omega arith

pub woke_by : (old new : PassState Call) (call : Call) (answer : Result Reply KernelFault) (a b : ReaderPolls)
    → TurnedBy old call answer new → is_entry answer ≡ true → b ≡ after_wake (concerns_worker call) a
    → WokeForEach old new a b
woke_by old new call answer a b turned entry is =
    let more = count_more concerns_worker old.calls new.calls call (turned.entered entry).counted in
    let rang = ap (λ (p : ReaderPolls). p.wakes) is ∙ wakes_by (spares_worker call) a in
    omega (arith, more, rang)

pub told_by : (old new : PassState Call) (call : Call) (answer : Result Reply KernelFault) (a b : ReaderPolls)
    → TurnedBy old call answer new → is_entry answer ≡ true → b ≡ after_wake (concerns_worker call) a
    → WokeOwnForEach old new a b
told_by old new call answer a b turned entry is =
    let more = count_more spares_worker old.calls new.calls call (turned.entered entry).counted in
    let rang = ap (λ (p : ReaderPolls). p.own_wakes) is ∙ own_wakes_by (spares_worker call) a in
    omega (arith, more, rang)

-- nobody was, where the call doesn't stand in the journal
pub woke_not : (old new : PassState Call) (a : ReaderPolls) → new.calls ≡ old.calls → WokeForEach old new a a
woke_not old new a is = let same = ap (count_by concerns_worker) is in omega (arith, same)

pub told_not : (old new : PassState Call) (a : ReaderPolls) → new.calls ≡ old.calls
    → WokeOwnForEach old new a a
told_not old new a is = let same = ap (count_by spares_worker) is in omega (arith, same)

-- ---- moments

pub woken_after : (a b : ReaderPolls) (has_work : Bool) → b ≡ after_wake has_work a → HasWoken b
woken_after a b true is = ap (λ (p : ReaderPolls). p.due) is
woken_after a b false is = ap (λ (p : ReaderPolls). p.due) is

pub arrival_due : (call : Call) (connection : ℕ) (arrival : Arrival) (a b : ReaderPolls)
    → call ≡ Arrive connection arrival → b ≡ with_moment arrival.unix_seconds a → IsDue call b
arrival_due call connection arrival a b is told = record {
  moment = arrival.unix_seconds;
  told = ap (λ (p : ReaderPolls). p.due) told;
  dated = ap moment_of is;
}

pub subscription_due : (call : Call) (connection : ℕ) (s : Subscription) (a b : ReaderPolls)
    → call ≡ Subscribe connection s → b ≡ with_moment s.unix_seconds a → IsDue call b
subscription_due call connection s a b is told = record {
  moment = s.unix_seconds;
  told = ap (λ (p : ReaderPolls). p.due) told;
  dated = ap moment_of is;
}

to_wake : (old new : PassState Call) (call : Call) (answer : Result Reply KernelFault) (has_work : Bool)
    (p : ReaderPolls) → TurnedBy old call answer new → is_entry answer ≡ true
    → has_work ≡ concerns_worker call → IsDue call p → IsToWake has_work p new
to_wake old new call answer has_work p turned entry concerns due = record {
  earlier = old.calls;
  call = call;
  calls = (turned.entered entry).counted;
  concerns = sym concerns;
  due = due;
}

pub granted_to_wake : (old new : PassState Call) (call : Call) (answer : Result Reply KernelFault)
    (has_work : Bool) (p : ReaderPolls) → TurnedBy old call answer new
    → (reply : Reply) × (answer ≡ Ok reply) → has_work ≡ concerns_worker call → IsDue call p
    → IsToWake has_work p new
granted_to_wake old new call answer has_work p turned (reply, is) concerns due =
    to_wake old new call answer has_work p turned (ap is_entry is) concerns due

pub refused_to_wake : (old new : PassState Call) (call : Call) (answer : Result Reply KernelFault)
    (fault : KernelFault) (has_work : Bool) (p : ReaderPolls) → TurnedBy old call answer new
    → answer ≡ Err fault → is_entry (Err fault) ≡ true → has_work ≡ concerns_worker call → IsDue call p
    → IsToWake has_work p new
refused_to_wake old new call answer fault has_work p turned is entry concerns due =
    to_wake old new call answer has_work p turned (ap is_entry is ∙ entry) concerns due

-- where a moment was told before
pub woke_from : (old new : PassState Call) (a b d : ReaderPolls) (moment : ℕ) → b ≡ with_moment moment a
    → WokeForEach old new b d → WokeForEach old new a d
woke_from old new a b d moment is woke =
    let w = ap (λ (p : ReaderPolls). p.wakes) is in omega (arith, woke, w)

pub told_from : (old new : PassState Call) (a b d : ReaderPolls) (moment : ℕ) → b ≡ with_moment moment a
    → WokeOwnForEach old new b d → WokeOwnForEach old new a d
told_from old new a b d moment is told =
    let o = ap (λ (p : ReaderPolls). p.own_wakes) is in omega (arith, told, o)

-- and no call was made
pub woke_none : (pass : PassState Call) (a b : ReaderPolls) (moment : ℕ) → b ≡ with_moment moment a
    → WokeForEach pass pass a b
woke_none pass a b moment is = let w = ap (λ (p : ReaderPolls). p.wakes) is in omega (arith, w)

pub told_none : (pass : PassState Call) (a b : ReaderPolls) (moment : ℕ) → b ≡ with_moment moment a
    → WokeOwnForEach pass pass a b
told_none pass a b moment is = let o = ap (λ (p : ReaderPolls). p.own_wakes) is in omega (arith, o)

-- what a moment shows
pub ruleset moments = (arrival_due, subscription_due, woke_from, told_from, woke_none, told_none)
