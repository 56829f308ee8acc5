-- Rounds of the worker.
use Rattle.std.proofs.Common.{◌≡◌, ℕ, List, [], ◌∷◌, ◌++◌, Option, Some}
use Rattle.std.proofs.Common.{Result, Ok, Err, refl, arith, subst, length-append}
use Rattle.std.specs.Result.{IfErr}
use Rattle.std.proofs.lemmas.List.Elements.{All-append}
use Rattle.lab_turn.specs.History.{PassState}
use Rattle.kern_calls.specs.declared.call.Call.{Call}
use Rattle.kern_calls.specs.declared.call.Call.TheVariants.{Slice}
use Rattle.kern_calls.specs.declared.call.Reply.{Reply}
use Rattle.kern_calls.specs.declared.call.Reply.TheVariants as reply
use Rattle.kern_calls.specs.declared.fault.KernelFault.{KernelFault}
use Rattle.kern_calls.specs.declared.fault.KernelFault.TheVariants as fault
use Rattle.kern_net.specs.declared.end.PumpEnd.{PumpEnd}
use Rattle.kern_net.specs.declared.end.PumpEnd.TheVariants as end
use Rattle.kern_net.specs.declared.worker.Progress.{Progress}
use Rattle.kern_net.specs.declared.worker.Progress.TheVariants as progress
use Rattle.kern_net.specs.Gates.{WorkerPolls}
use Rattle.kern_net.specs.Calls.{TurnedBy}
use Rattle.kern_net.specs.Work.{progress_of, IsSlice, SawShutdown, SliceEnds, Sliced}
use Rattle.kern_net.proofs.CallLemmas.{calls_on, entry_calls, no_entry_calls, last_call}

-- what a Slice's answer says is so
ended_as : (v w : PassState Call) (o : Option (Result Progress PumpEnd)) (e e' : PumpEnd) → o ≡ Some (Err e)
    → SliceEnds v w e → o ≡ Some (Err e') → SliceEnds v w e'
ended_as v w o e e' is h same =
    let E : PumpEnd → Type 0 = λ x. SliceEnds v w x in let k : e ≡ e' = cc in subst E k h

slice_ends : (v w : PassState Call) (unix_seconds : ℕ) (answer : Result Reply KernelFault) (e : PumpEnd)
    → TurnedBy v (Slice unix_seconds) answer w → progress_of answer ≡ Some (Err e) → SliceEnds v w e
slice_ends v w unix_seconds (Ok reply.Ended) e t h = absurd cc
slice_ends v w unix_seconds (Err fault.OutOfMemory) e t h =
    ended_as v w (progress_of (Err fault.OutOfMemory)) end.OutOfMemory e refl
    (no_entry_calls v w (Slice unix_seconds) (Err fault.OutOfMemory) t refl) h
slice_ends v w unix_seconds (Err fault.JournalFull) e t h =
    ended_as v w (progress_of (Err fault.JournalFull)) end.JournalFull e refl
    (no_entry_calls v w (Slice unix_seconds) (Err fault.JournalFull) t refl, (t.full refl).1) h
slice_ends v w unix_seconds _ e t h = absurd cc

pub slice_err : (v w : PassState Call) (unix_seconds : ℕ) (answer : Result Reply KernelFault)
    (r : Result Progress PumpEnd) → TurnedBy v (Slice unix_seconds) answer w → progress_of answer ≡ Some r
    → IfErr r (SliceEnds v w)
slice_err v w unix_seconds answer (Ok progress) t e = tt
slice_err v w unix_seconds answer (Err e) t h = slice_ends v w unix_seconds answer e t h

-- a Slice that is taken is the last call
pub slice_calls : (v w : PassState Call) (unix_seconds : ℕ) (answer : Result Reply KernelFault) (p : Progress)
    → TurnedBy v (Slice unix_seconds) answer w → progress_of answer ≡ Some (Ok p)
    → w.calls ≡ v.calls ++ Slice unix_seconds ∷ []
slice_calls v w unix_seconds (Ok r) p t h = entry_calls v w (Slice unix_seconds) (Ok r) t refl
slice_calls v w unix_seconds (Err fault.OutOfMemory) p t h = absurd cc
slice_calls v w unix_seconds (Err fault.JournalFull) p t h = absurd cc
slice_calls v w unix_seconds (Err _) p t h = absurd cc

pub saw_shutdown : (v w : PassState Call) (unix_seconds : ℕ) (answer : Result Reply KernelFault)
    (p : Progress)
    → TurnedBy v (Slice unix_seconds) answer w → progress_of answer ≡ Some (Ok p) → p ≡ progress.ShutDown
    → SawShutdown w
saw_shutdown v w unix_seconds (Ok reply.Ended) p t h is =
    (unix_seconds, last_call v w (Slice unix_seconds) (Ok reply.Ended) refl t)
saw_shutdown v w unix_seconds (Err fault.OutOfMemory) p t h is = absurd cc
saw_shutdown v w unix_seconds _ p t h is = absurd cc

-- round after round
pub sliced_then : (old mid new : List Call) (a b d : WorkerPolls) (short : ℕ) → Sliced old mid a b 0
    → Sliced mid new b d short → Sliced old new a d short
sliced_then old mid new a b d short s t =
    let l = length-append s.added t.added in
    let c = s.count in let q = s.idle in let w = s.woke in
    let c' = t.count in let q' = t.idle in let w' = t.woke in
    record {
      added = s.added ++ t.added;
      calls = calls_on old mid new s.added t.added s.calls t.calls;
      slices = All-append IsSlice s.added t.added s.slices t.slices;
      count = omega (arith, l, c, c');
      idle = omega (arith, l, q, q');
      woke = omega (arith, l, w, w');
    }
