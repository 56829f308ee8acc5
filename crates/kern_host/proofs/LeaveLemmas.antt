-- The Leave of a connection.
use Rattle.std.proofs.Common.{◌≡◌, ℕ, true, [], Option, Result, Ok, Err, sym, ap, ◌∙◌}
use Rattle.std.proofs.Common.{append-nil, refl, List, ◌++◌, subst}
use Rattle.lab_turn.specs.History.{PassState, Sees}
use Rattle.lab_turn.proofs.HistoryLemmas.{prefix_self, prefix_trans}
use Rattle.kern_calls.specs.declared.call.Call.{Call}
use Rattle.kern_calls.specs.declared.call.Call.TheVariants.{Leave}
use Rattle.kern_calls.specs.declared.call.Reply.{Reply}
use Rattle.kern_calls.specs.declared.fault.KernelFault.{KernelFault}
use Rattle.kern_calls.specs.declared.fault.KernelFault.TheVariants as fault
use Rattle.kern_core.specs.Kernels.{is_entry}
use Rattle.kern_net.specs.Calls.{TurnedBy}
use Rattle.kern_net.proofs.CallLemmas.{turned_prefix, entry_calls, no_entry_calls}
use Rattle.kern_host.specs.declared.end.LeaveFault.{LeaveFault}
use Rattle.kern_host.specs.declared.end.LeaveFault.TheVariants.{JournalFull, OutOfTickets}
use Rattle.kern_host.specs.Leaves.{HasLeft, TriedToLeave, leaving, left_by}

-- the call is an entry
left_entry : (c : ℕ) (v w : PassState Call) (answer : Result Reply KernelFault) → is_entry answer ≡ true
    → TurnedBy v (Leave c) answer w → HasLeft c v w (Ok tt)
left_entry c v w answer entry t = record {
  onward = turned_prefix v w (Leave c) answer t;
  calls = entry_calls v w (Leave c) answer t entry;
  cause = tt;
}

-- the journal is full
left_full : (c : ℕ) (v w : PassState Call) → TurnedBy v (Leave c) (Err fault.JournalFull) w
    → HasLeft c v w (Err JournalFull)
left_full c v w t =
    let f = t.full refl in
    record {
      onward = turned_prefix v w (Leave c) (Err fault.JournalFull) t;
      calls = no_entry_calls v w (Leave c) (Err fault.JournalFull) t f.0 ∙ sym (append-nil v.calls);
      cause = f.1;
    }

left_if : (c : ℕ) (v w : PassState Call) (answer : Result Reply KernelFault) → TurnedBy v (Leave c) answer w
    → TriedToLeave c v w (left_by answer)
left_if c v w (Ok reply) t = left_entry c v w (Ok reply) refl t
left_if c v w (Err fault.OutOfMemory) t = t.refused refl
left_if c v w (Err fault.JournalFull) t = left_full c v w t
left_if c v w (Err fault.Full) t = left_entry c v w (Err fault.Full) refl t
left_if c v w (Err fault.NoConnection) t = left_entry c v w (Err fault.NoConnection) refl t
left_if c v w (Err (fault.Lagged first)) t = left_entry c v w (Err (fault.Lagged first)) refl t

-- a Leave was tried
pub tried : (c : ℕ) (v w : PassState Call) (answer : Result Reply KernelFault)
    (left : Option (Result (Unit {0}) LeaveFault)) → left ≡ left_by answer → TurnedBy v (Leave c) answer w
    → TriedToLeave c v w left
tried c v w answer left is t =
    let T : Option (Result (Unit {0}) LeaveFault) → Type 0 = λ x. TriedToLeave c v w x in
    subst T (sym is) (left_if c v w answer t)

-- no turn was had
pub left_without_tickets : (c : ℕ) (v w : PassState Call) → w ≡ record v { out_of_tickets = true }
    → HasLeft c v w (Err OutOfTickets)
left_without_tickets c v w same = record {
  onward = ([], append-nil v.seen ∙ ap (λ (x : PassState Call). x.seen) (sym same));
  calls = ap (λ (x : PassState Call). x.calls) same ∙ sym (append-nil v.calls);
  cause = ap (λ (x : PassState Call). x.out_of_tickets) same;
}

-- nothing was seen yet
pub sees_first : (v : PassState Call) → Sees v v
sees_first v = record { onward = prefix_self v.seen; counted = refl }

-- again
pub sees_on : (u v w : PassState Call) → Sees u v → Sees v w → Sees u w
sees_on u v w a b = record {
  onward = prefix_trans u.seen v.seen w.seen a.onward b.onward;
  counted = b.counted ∙ a.counted;
}

-- and then it was made, or not
pub left_on : (c : ℕ) (u v w : PassState Call) (left : Result (Unit {0}) LeaveFault) → Sees u v
    → HasLeft c v w left → HasLeft c u w left
left_on c u v w left a b = record {
  onward = prefix_trans u.seen v.seen w.seen a.onward b.onward;
  calls = b.calls ∙ ap (λ (l : List Call). l ++ leaving c left) a.counted;
  cause = b.cause;
}

-- what one try after the other shows
pub ruleset tries = (sees_first, sees_on, left_on)
