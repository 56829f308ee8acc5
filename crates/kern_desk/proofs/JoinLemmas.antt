-- The answers to a Join.
use Rattle.std.proofs.Common.{◌≡◌, ℕ, Bool, true, false, if◌then◌else◌, List, Result, Ok, Err, IfOk, IfErr}
use Rattle.std.proofs.Common.{refl, sym, subst}
use Rattle.jup_wire.specs.declared.channel.Channel.{Channel}
use Rattle.lab_turn.specs.History.{PassState, Turned}
use Rattle.kern_calls.specs.declared.call.Call.{Call}
use Rattle.kern_calls.specs.declared.call.Call.TheVariants.{Join}
use Rattle.kern_calls.specs.declared.call.Reply.{Reply}
use Rattle.kern_calls.specs.declared.call.Reply.TheVariants as reply
use Rattle.kern_calls.specs.declared.fault.KernelFault.{KernelFault}
use Rattle.kern_calls.specs.declared.fault.KernelFault.TheVariants.{Full}
use Rattle.kern_core.specs.Kernels.{is_entry, is_full}
use Rattle.kern_core.specs.States.{KernelState, refuse_turn, turn_without_posts}
use Rattle.kern_core.specs.Turns.{turn, state_after}
use Rattle.kern_desk.specs.declared.desks.Joined.{Joined}
use Rattle.kern_desk.specs.Joins.{IsJoinAnswer, IsUnjoined, IsRefused}
use Rattle.kern_desk.specs.Seats.{calls_of, seated_answer}

join_at : (b : Bool) (s t : KernelState) (c f : ℕ)
    → IsJoinAnswer (if b then refuse_turn Full s else turn_without_posts (reply.Joined c f) t).answer
join_at true s t c f = tt
join_at false s t c f = tt

join_fits : (channel : Channel) (identity : List ℕ) (s : KernelState)
    → IsJoinAnswer (turn (Join channel identity) s).answer
unfolding turn
join_fits channel identity s = join_at _ s _ _ _

entry_fits : (v w : PassState Call) (channel : Channel) (identity : List ℕ)
    (answer : Result Reply KernelFault)
    → Turned seated_answer is_entry is_full v (Join channel identity) answer w → is_entry answer ≡ true
    → IsJoinAnswer answer
entry_fits v w channel identity answer t h =
    let e = t.entered h in
    let P : Result Reply KernelFault → Type 0 = λ a. IsJoinAnswer a in
    subst P (sym e.answered) (join_fits channel identity (state_after (calls_of e.before)))

pub join_answer : (v w : PassState Call) (channel : Channel) (identity : List ℕ)
    (answer : Result Reply KernelFault)
    → Turned seated_answer is_entry is_full v (Join channel identity) answer w → IsJoinAnswer answer
join_answer v w channel identity (Ok r) t = entry_fits v w channel identity (Ok r) t refl
join_answer v w channel identity (Err f) t = tt

-- a refused Join
pub unjoined_by : {J : Type 0} (v w : PassState Call) (call : Call) (answer : Result Reply KernelFault)
    (result : Result J KernelFault)
    → Turned seated_answer is_entry is_full v call answer w → IfErr result (λ f. answer ≡ Err f)
    → IfErr result (IsUnjoined v call w)
unjoined_by v w call answer (Ok j) t e = tt
unjoined_by v w call answer (Err f) t e =
    let T : Result Reply KernelFault → Type 0 = λ a. Turned seated_answer is_entry is_full v call a w in
    IsRefused f (subst T e t)

-- a Join that added a connection
pub came_by : (v w : PassState Call) (call : Call) (answer : Result Reply KernelFault)
    (result : Result Joined KernelFault)
    → Turned seated_answer is_entry is_full v call answer w
    → IfOk result (λ j. answer ≡ Ok (reply.Joined j.connection j.from))
    → IfOk result (λ j. Turned seated_answer is_entry is_full v call (Ok (reply.Joined j.connection j.from))
    w)
came_by v w call answer (Err f) t e = tt
came_by v w call answer (Ok j) t e =
    let T : Result Reply KernelFault → Type 0 = λ a. Turned seated_answer is_entry is_full v call a w in
    subst T e t
