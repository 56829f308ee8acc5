-- Calls and items, with what was written for them.
use Rattle.std.proofs.Common.{◌≡◌, ◌≢◌, ◌∙◌, ℕ, ◌+◌, ◌≤◌, List, [], ◌∷◌, ◌++◌, length, drop, map, false}
use Rattle.std.proofs.Common.{Result, Ok, Err}
use Rattle.std.proofs.Common.{sym, ap, subst, arith, append-nil, length-append}
use Rattle.std.proofs.lemmas.Bool.{false≢true}
use Rattle.base_streams.specs.States.{OutletState, IsWritable}
use Rattle.zmtp_wire.specs.Wire.{Frames}
use Rattle.zmtp_wire.specs.Ends.{Refuses}
use Rattle.zmtp_wire.specs.declared.peer_fault.PeerFault.{PeerFault}
use Rattle.zmtp_wire.specs.declared.peer_fault.PeerFault.TheVariants as peer
use Rattle.kern_calls.specs.declared.call.Call.{Call}
use Rattle.kern_calls.specs.declared.call.Reply.{Reply}
use Rattle.kern_calls.specs.declared.fault.KernelFault.{KernelFault}
use Rattle.kern_calls.specs.declared.fault.KernelFault.TheVariants as fault
use Rattle.kern_core.specs.States.{KernelState}
use Rattle.kern_core.specs.Turns.{turn, next}
use Rattle.kern_core.specs.Represents.{KernelFields, RepresentsKernel, TakesTurn}
use Rattle.lab80_web.specs.declared.answer.Answer.{Answer}
use Rattle.lab80_web.specs.declared.answer.Answer.TheVariants as answer
use Rattle.lab80_web.specs.declared.answer.Refusal.{Refusal}
use Rattle.lab80_web.specs.declared.items.Item.{Item}
use Rattle.lab80_web.specs.declared.items.Item.TheVariants as item
use Rattle.lab80_web.specs.Answers.{answer_of, lacks_memory}
use Rattle.lab80_web.specs.Items.{item_of}
use Rattle.lab80_web.specs.Outputs.{Output, OfPost, OfAnswer, WroteAll, WrotePrefix}
use Rattle.lab80_web.specs.Session.{posts_since, answer_to, outputs_of_item, state_after_item}
use Rattle.lab80_web.specs.Steps.{ActsOn, HasEffect, effect_of_call, effect_of_item, server, Server}
use Rattle.lab80_web.specs.Steps.{AnswersMessages}
use Rattle.lab80_web.specs.Steps.{WritesOutputs}
use Rattle.lab80_web.proofs.OutputLemmas.{wrote_none, wrote_on, began_on, began_more, began_none}
use Rattle.lab80_web.proofs.PostingLemmas.{Counts}
use Rattle.lab80_web.proofs.SessionLemmas.{grown_next, since_same, last_none, last_on}

-- ---- a call

pub had_memory : (reply : Result Reply KernelFault) → lacks_memory reply ≡ false
    → reply ≢ Err fault.OutOfMemory
had_memory reply has lacks = false≢true (sym has ∙ ap lacks_memory lacks)

pub acts : (call : Call) (old new : KernelFields) (reply : Result Reply KernelFault)
    → TakesTurn (turn call) old reply new → reply ≢ Err fault.OutOfMemory
    → ActsOn call old (Ok (answer_of reply)) new
acts call old new reply takes other = λ s r.
    let after = takes.0 s r other in
    let made = r.posts.made in
    let more = after.1.posts.made in
    let grows = takes.1.0.posts in
    (ap answer_of after.0, after.1, omega (arith, made, more, grows))

-- what holds of the posts that a call made
made : (P : OutletState → OutletState → List Output → Type 0) (call : Call) (k k' : KernelFields)
    (o o' : OutletState) (before : ℕ) (s : KernelState)
    → before ≡ length s.posts → RepresentsKernel k' (next s call)
    → length (next s call).posts ≤ length s.posts + 8
    → ((t : KernelState) → RepresentsKernel k' t → before ≤ length t.posts → length t.posts ≤ before + 8
    → P o o' (map OfPost (drop before t.posts)))
    → P o o' (map OfPost (posts_since s (next s call)))
made P call k k' o o' before s count after near wrote =
    let t = next s call in
    let grown = grown_next call s in
    let longer : length t.posts ≡ length s.posts + length grown.0 =
    ap length grown.1 ∙ length-append s.posts grown.0 in
    subst (λ n. P o o' (map OfPost (drop n t.posts))) count
    (wrote t after (omega (arith, longer)) (omega (arith, near)))

pub call_made : (call : Call) (k k' : KernelFields) (o o' : OutletState) (before : ℕ) (a : Answer)
    → Counts k before → ActsOn call k (Ok a) k'
    → ((t : KernelState) → RepresentsKernel k' t → before ≤ length t.posts → length t.posts ≤ before + 8
    → WroteAll o o' (map OfPost (drop before t.posts)) × IsWritable o')
    → HasEffect (effect_of_call call) (server k o) (server k' o') (Ok a)
call_made call k k' o o' before a counts acted wrote = λ s r.
    let e = acted s r in (
      made (λ a b l. WroteAll a b l × IsWritable b) call k k' o o' before s (counts s r) e.1 e.2 wrote,
      (e.0, e.1),
    )

pub call_cut : (call : Call) (k k' : KernelFields) (o o' : OutletState) (before : ℕ) (a : Answer)
    (e : PeerFault) → Counts k before → ActsOn call k (Ok a) k'
    → ((t : KernelState) → RepresentsKernel k' t → before ≤ length t.posts → length t.posts ≤ before + 8
    → WrotePrefix o o' (map OfPost (drop before t.posts)) × Refuses e o')
    → HasEffect (effect_of_call call) (server k o) (server k' o') (Err e)
call_cut call k k' o o' before a fault counts acted wrote = λ s r.
    let e = acted s r in (
      made (λ a b l. WrotePrefix a b l × Refuses fault b) call k k' o o' before s (counts s r) e.1 e.2 wrote,
      tt,
    )

pub call_unmade : (call : Call) (k k' : KernelFields) (o : OutletState) → IsWritable o
    → HasEffect (effect_of_call call) (server k o) (server k' o) (Err peer.OutOfMemory)
call_unmade call k k' o w = λ s r. ((began_none o _, w), tt)

-- ---- an item

pub call_effect : (i : Item) (call : Call) (old new : Server) (result : Result Answer PeerFault)
    → i ≡ item.Call call → HasEffect (effect_of_call call) old new result
    → HasEffect (effect_of_item i) old new result
call_effect i call old new (Ok a) is effect = λ s r.
    let e = effect s r in
    rw is (e.0, (e.1.0 ∙ sym (last_on answer.More call [] s ∙ last_none _ (next s call)), e.1.1))
call_effect i call old new (Err fault) is effect = λ s r. rw is (effect s r)

pub refusal_effect : (i : Item) (why : Refusal) (k : KernelFields) (o : OutletState) → i ≡ item.Refused why
    → IsWritable o → HasEffect (effect_of_item i) (server k o) (server k o) (Ok (answer.Refused why))
refusal_effect i why k o is w = λ s r.
    rw (is, since_same) ((wrote_none o, w), (sym (last_none (answer.Refused why) s), r))

-- ---- a message

abbrev posts_of : Item → KernelState → List Output
posts_of i s = map OfPost (posts_since s (state_after_item i s))

pub message_answered : (frames : Frames) (i : Item) (k k' : KernelFields) (o o' o'' : OutletState)
    (a : Answer) (result : Result (Unit {0}) PeerFault) → i ≡ item_of frames
    → HasEffect (effect_of_item i) (server k o) (server k' o') (Ok a)
    → WritesOutputs (OfAnswer a ∷ []) o' o'' result
    → AnswersMessages (frames ∷ []) (server k o) (server k' o'') result
message_answered frames i k k' o o' o'' a (Ok done) is effect w = λ s r.
    let e = effect s r in
    let all = wrote_on o o' o'' _ _ e.0.0 w.0 in
    rw (← is) (
      (
        rw (append-nil (outputs_of_item i s))
            (subst (λ (b : Answer). WroteAll o o'' (posts_of i s ++ OfAnswer b ∷ []))
            e.1.0 all),
        w.1,
      ),
      e.1.1,
    )
message_answered frames i k k' o o' o'' a (Err fault) is effect w = λ s r.
    let e = effect s r in
    let all = began_on o o' o'' _ _ e.0.0 w.0 in
    rw (← is) (
      (
        rw (append-nil (outputs_of_item i s))
            (subst (λ (b : Answer). WrotePrefix o o'' (posts_of i s ++ OfAnswer b ∷ []))
            e.1.0 all),
        w.1,
      ),
      tt,
    )

pub message_cut : (frames : Frames) (i : Item) (k k' : KernelFields) (o o' : OutletState) (fault : PeerFault)
    → i ≡ item_of frames → HasEffect (effect_of_item i) (server k o) (server k' o') (Err fault)
    → AnswersMessages (frames ∷ []) (server k o) (server k' o') (Err fault)
message_cut frames i k k' o o' fault is effect = λ s r.
    let e = effect s r in
    let front = began_more o o' _ (OfAnswer (answer_to i s) ∷ []) e.0.0 in
    rw (← is) ((rw (append-nil (outputs_of_item i s)) front, e.0.1), tt)

pub message_unread : (frames : Frames) (k : KernelFields) (o : OutletState) → IsWritable o
    → AnswersMessages (frames ∷ []) (server k o) (server k o) (Err peer.OutOfMemory)
message_unread frames k o w = λ s r. ((began_none o _, w), tt)
