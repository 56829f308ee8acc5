-- What a turn that was refused shows.
use Rattle.std.proofs.Common.{◌≡◌, ◌∙◌, inl, inr, subst, ℕ, true, [], ◌∷◌, ◌++◌, Result}
use Rattle.std.proofs.Common.{Ok, Err, sym, ap, append-nil}
use mathlib.Core.List.{IsPrefix}
use Rattle.lab_turn.specs.History.{PassState, Turned}
use Rattle.kern_calls.specs.declared.call.Call.{Call}
use Rattle.kern_calls.specs.declared.call.Reply.{Reply}
use Rattle.kern_calls.specs.declared.fault.KernelFault.{KernelFault}
use Rattle.kern_calls.specs.declared.fault.KernelFault.TheVariants.{OutOfMemory, Full, Lagged, JournalFull}
use Rattle.kern_calls.specs.declared.fault.KernelFault.TheVariants.{NoConnection}
use Rattle.kern_core.specs.Kernels.{is_entry, is_full}
use Rattle.kern_desk.specs.Seats.{seated_answer}
use Rattle.kern_net.specs.declared.end.PumpEnd.TheVariants as pump
use Rattle.kern_net.specs.ReadEnds.{IsReaderCall, LastAnswer, StopsBy}
use Rattle.kern_net.specs.Calls.{TurnedBy}
use Rattle.kern_net.proofs.CallLemmas.{turned_prefix}
use Rattle.kern_net.proofs.RingLemmas.{woke_by, told_by, woke_not, told_not, woken_after}
use Rattle.kern_net.proofs.RingLemmas.{granted_to_wake, refused_to_wake}
use Rattle.kern_net.proofs.SubmitLemmas.{Grants, Refuses}
use Rattle.kern_net.proofs.LagLemmas.{no_lag}

last_answer : (old new : PassState Call) (call : Call) (answer : Result Reply KernelFault)
    → Turned seated_answer is_entry is_full old call answer new → is_entry answer ≡ true
    → LastAnswer old.calls new answer
last_answer old new call answer turned entry =
    let entered = turned.entered entry in
    let before = entered.before in
    record {
      before = before;
      call = call;
      earlier = [];
      history = entered.history ∙ ap (λ (seat : ℕ). before ++ (seat, call) ∷ []) (sym turned.same.1);
      own = entered.counted;
      answered = sym entered.answered;
    }

pub stops_full : (old new : PassState Call) (call : Call) (answer : Result Reply KernelFault)
    → Turned seated_answer is_entry is_full old call answer new → answer ≡ Err Full
    → StopsBy (pump.Refused Full) old.calls new
stops_full old new call answer turned is =
    subst (LastAnswer old.calls new) is (last_answer old new call answer turned (ap is_entry is))

pub stops_unknown : (old new : PassState Call) (call : Call) (answer : Result Reply KernelFault)
    → Turned seated_answer is_entry is_full old call answer new → answer ≡ Err NoConnection
    → StopsBy (pump.Refused NoConnection) old.calls new
stops_unknown old new call answer turned is =
    subst (LastAnswer old.calls new) is (last_answer old new call answer turned (ap is_entry is))

pub stops_journal_full : (old new : PassState Call) (call : Call) (answer : Result Reply KernelFault)
    → Turned seated_answer is_entry is_full old call answer new → answer ≡ Err JournalFull
    → StopsBy pump.JournalFull old.calls new
stops_journal_full old new call answer turned is = (turned.full (ap is_full is)).1

pub never_lagged : (old new : PassState Call) (call : Call) (answer : Result Reply KernelFault) (first : ℕ)
    → Turned seated_answer is_entry is_full old call answer new → answer ≡ Err (Lagged first)
    → IsReaderCall call → ⊥
never_lagged old new call answer first turned is read =
    let entered = turned.entered (ap is_entry is) in
    no_lag call entered.before first read (sym entered.answered ∙ is)

pub call_granted : (old new : PassState Call) (call : Call) (answer : Result Reply KernelFault)
    → Turned seated_answer is_entry is_full old call answer new → (reply : Reply) × (answer ≡ Ok reply)
    → Grants old call new
call_granted old new call answer turned (reply, is) =
    let T : Result Reply KernelFault → Type 0 = λ a. TurnedBy old call a new in (reply, subst T is turned)

pub without_tickets_onward : (old new : PassState Call) → new ≡ record old { out_of_tickets = true }
    → IsPrefix old.seen new.seen
without_tickets_onward old new is = ([], append-nil old.seen ∙ sym (ap (λ (x : PassState Call). x.seen) is))

-- ---- whether the call stands in the journal

pub refuses_without_tickets : (old new : PassState Call) (call : Call)
    → new ≡ record old { out_of_tickets = true }
    → Refuses old call new pump.OutOfTickets
refuses_without_tickets old new call is = inl (ap (λ (x : PassState Call). x.calls) is)

pub refuses_memory : (old new : PassState Call) (call : Call) (answer : Result Reply KernelFault)
    → Turned seated_answer is_entry is_full old call answer new → answer ≡ Err OutOfMemory
    → Refuses old call new pump.OutOfMemory
refuses_memory old new call answer turned is = inl (turned.refused (ap is_entry is)).counted

pub refuses_journal_full : (old new : PassState Call) (call : Call) (answer : Result Reply KernelFault)
    → Turned seated_answer is_entry is_full old call answer new → answer ≡ Err JournalFull
    → Refuses old call new pump.JournalFull
refuses_journal_full old new call answer turned is = inl (turned.refused (ap is_entry is)).counted

pub refuses_full : (old new : PassState Call) (call : Call) (answer : Result Reply KernelFault)
    → Turned seated_answer is_entry is_full old call answer new → answer ≡ Err Full
    → Refuses old call new (pump.Refused Full)
refuses_full old new call answer turned is = inr (tt, (turned.entered (ap is_entry is)).counted)

pub refuses_unknown : (old new : PassState Call) (call : Call) (answer : Result Reply KernelFault)
    → Turned seated_answer is_entry is_full old call answer new → answer ≡ Err NoConnection
    → Refuses old call new (pump.Refused NoConnection)
refuses_unknown old new call answer turned is = inr (tt, (turned.entered (ap is_entry is)).counted)

-- what each answer to a call shows, and whom it wakes
pub ruleset outcomes = (
  woke_by,
  told_by,
  woke_not,
  told_not,
  woken_after,
  granted_to_wake,
  refused_to_wake,
  stops_full,
  stops_unknown,
  stops_journal_full,
  never_lagged,
  call_granted,
  without_tickets_onward,
  refuses_without_tickets,
  refuses_memory,
  refuses_journal_full,
  refuses_full,
  refuses_unknown,
  turned_prefix,
)
