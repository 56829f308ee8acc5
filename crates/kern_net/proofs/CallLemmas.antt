-- What one turn makes of a pass.
use Rattle.std.proofs.Common.{◌≡◌, ℕ, Bool, true, false, List, [], ◌∷◌, ◌++◌, Result, refl, sym, ap, ◌∙◌}
use Rattle.std.proofs.Common.{subst, append-nil, append_assoc}
use mathlib.Core.List.{IsPrefix}
use Rattle.lab_turn.specs.History.{PassState, calls_of}
use Rattle.lab_turn.proofs.HistoryLemmas.{calls_own, prefix_trans}
use Rattle.kern_calls.specs.declared.call.Call.{Call}
use Rattle.kern_calls.specs.declared.call.Reply.{Reply}
use Rattle.kern_calls.specs.declared.fault.KernelFault.{KernelFault}
use Rattle.kern_core.specs.Kernels.{is_entry}
use Rattle.kern_net.specs.Calls.{TurnedBy, LastCall}

-- calls, and then more of them
pub calls_on : (old mid new added more : List Call) → mid ≡ old ++ added → new ≡ mid ++ more
    → new ≡ old ++ (added ++ more)
calls_on old mid new added more is then =
    then ∙ ap (λ (l : List Call). l ++ more) is ∙ append_assoc old added more

pub entry_calls : (v w : PassState Call) (call : Call) (answer : Result Reply KernelFault)
    → TurnedBy v call answer w → is_entry answer ≡ true → w.calls ≡ v.calls ++ call ∷ []
entry_calls v w call answer t h = (t.entered h).counted

pub no_entry_calls : (v w : PassState Call) (call : Call) (answer : Result Reply KernelFault)
    → TurnedBy v call answer w → is_entry answer ≡ false → w.calls ≡ v.calls
no_entry_calls v w call answer t h = (t.refused h).counted

-- the history that was seen only grows
prefix_if : (b : Bool) (v w : PassState Call) (call : Call) (answer : Result Reply KernelFault)
    → is_entry answer ≡ b → TurnedBy v call answer w → IsPrefix v.seen w.seen
prefix_if true v w call answer h t =
    let e = t.entered h in prefix_trans v.seen e.before w.seen e.onward ((v.seat, call) ∷ [], sym e.history)
prefix_if false v w call answer h t = (t.refused h).onward

pub turned_prefix : (v w : PassState Call) (call : Call) (answer : Result Reply KernelFault)
    → TurnedBy v call answer w → IsPrefix v.seen w.seen
turned_prefix v w call answer t = prefix_if (is_entry answer) v w call answer refl t

-- a call that is an entry is the last one
pub last_call : (v w : PassState Call) (call : Call) (answer : Result Reply KernelFault)
    → is_entry answer ≡ true → TurnedBy v call answer w → LastCall w call answer
last_call v w call answer h t =
    let e = t.entered h in
    let s : w.seat ≡ v.seat = t.same.1 in
    let seen : w.seen ≡ e.before ++ (w.seat, call) ∷ [] =
    e.history ∙ ap (λ (k : ℕ). e.before ++ (k, call) ∷ []) (sym s) in
    record {
      before = e.before;
      seen = ([], append-nil (e.before ++ (w.seat, call) ∷ []) ∙ sym seen);
      last = sym t.own ∙ ap (calls_of w.seat) seen ∙ calls_own w.seat e.before call;
      answered = e.answered;
    }

-- and stays it in a longer history with the same calls
pub last_kept : (v w : PassState Call) (call : Call) (answer : Result Reply KernelFault) → w.seat ≡ v.seat
    → IsPrefix v.seen w.seen → w.calls ≡ v.calls → LastCall v call answer → LastCall w call answer
last_kept v w call answer s p k l =
    let P : ℕ → Type 0 = λ (i : ℕ). IsPrefix (l.before ++ (i, call) ∷ []) w.seen in
    record {
      before = l.before;
      seen = subst P (sym s) (prefix_trans (l.before ++ (v.seat, call) ∷ []) v.seen w.seen l.seen p);
      last = k ∙ l.last ∙ ap (λ (i : ℕ). calls_of i l.before ++ call ∷ []) (sym s);
      answered = l.answered;
    }
