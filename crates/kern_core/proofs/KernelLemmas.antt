-- A kernel's fields represent its entries again after one more, and a kernel without entries some state.
use Rattle.std.proofs.Common.{◌≡◌, ◌≢◌, ◌∙◌, ℕ, ◌<◌, true, false, List, [], ◌∷◌, ◌++◌}
use Rattle.std.proofs.Common.{length, Result, Ok, Err, refl, sym, ap, subst, arith, length-append}
use Rattle.std.proofs.lemmas.Bool.{false≢true}
use Rattle.std.proofs.lemmas.List.Sums.{fold-append}
use Rattle.kern_calls.specs.declared.call.Call.{Call}
use Rattle.kern_calls.specs.declared.call.Reply.{Reply}
use Rattle.kern_calls.specs.declared.fault.KernelFault.{KernelFault}
use Rattle.kern_calls.specs.declared.fault.KernelFault.TheVariants.{OutOfMemory}
use Rattle.kern_core.specs.States.{kernel_before_calls, after}
use Rattle.kern_core.specs.Turns.{turn, next, state_after}
use Rattle.kern_core.specs.Represents.{KernelFields, RepresentsKernel, RepresentsSomeState}
use Rattle.kern_core.specs.Represents.{TakesTurn}
use Rattle.kern_core.specs.Kernels.{IsKept, is_entry}

state_after-more : (calls : List Call) (call : Call)
    → state_after (calls ++ call ∷ []) ≡ after (turn call (state_after calls))
state_after-more calls call = fold-append next kernel_before_calls calls (call ∷ [])

had_memory : (answer : Result Reply KernelFault) → is_entry answer ≡ true → answer ≢ Err OutOfMemory
had_memory answer entry lacks =
    let is : false ≡ true = ap is_entry (sym lacks) ∙ entry in absurd (false≢true is)

pub kept_more : (old new : KernelFields) (calls : List Call) (limit : ℕ) (call : Call)
    (answer : Result Reply KernelFault)
    → IsKept old calls limit → length calls < limit → TakesTurn (turn call) old answer new
    → is_entry answer ≡ true
    → IsKept new (calls ++ call ∷ []) limit
kept_more old new calls limit call answer kept room takes entry =
    let made = takes.0 (state_after calls) kept.represents (had_memory answer entry) in
    let more = length-append calls (call ∷ []) in
    let posts = kept.posts in
    let peers = kept.peers in
    let count = kept.count in
    let fewer_posts = takes.1.0.posts in
    let fewer_peers = takes.1.0.peers in
    let smaller_count = takes.1.0.count in
    record {
      represents = subst (RepresentsKernel new) (sym (state_after-more calls call)) made.1;
      posts = omega (arith, more);
      peers = omega (arith, more);
      count = omega (arith, more);
      fits = omega (arith, more);
      bounded = kept.bounded;
    }

-- fields that represent some state still do after a call
pub some_state : (old new : KernelFields) (call : Call) (answer : Result Reply KernelFault)
    → RepresentsSomeState old → TakesTurn (turn call) old answer new → RepresentsSomeState new
some_state old new call (Ok reply) (s, represents) takes =
    (after (turn call s), (takes.0 s represents (had_memory (Ok reply) refl)).1)
some_state old new call (Err fault) some takes = subst RepresentsSomeState (sym takes.1.1) some
