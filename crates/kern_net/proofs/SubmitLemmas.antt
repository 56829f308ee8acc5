-- What one message asks for.
use Rattle.std.proofs.Common.{◌≡◌, ◌∙◌, ◌≤◌, ◌⊎◌, inl, inr, ℕ, Bool, false, List, [], ◌∷◌, ◌++◌, refl}
use Rattle.std.proofs.Common.{sym, append-nil, Ok}
use mathlib.Core.List.{IsPrefix}
use Rattle.lab_turn.specs.History.{PassState}
use Rattle.serde_json.specs.View.{view}
use Rattle.jup_wire.specs.declared.channel.Channel.{Channel}
use Rattle.jup_wire.specs.declared.channel.Channel.TheVariants.{Iopub}
use Rattle.jup_wire.specs.declared.message.Message.{Message}
use Rattle.jup_wire.specs.declared.message.Header.{Header}
use Rattle.jup_wire.specs.declared.message.Parts.{Parts}
use Rattle.jup_wire.specs.declared.message.WireFault.{WireFault}
use Rattle.jup_wire.specs.declared.message.WireFault.TheVariants.{OutOfMemory}
use Rattle.jup_wire.specs.Wire.{IsMessage}
use Rattle.serde_json.specs.Data.{Data}
use Rattle.kern_request.specs.Requests.{request_of}
use Rattle.kern_calls.specs.declared.call.Call.{Call}
use Rattle.kern_calls.specs.declared.call.Call.TheVariants.{Arrive, Subscribe}
use Rattle.kern_calls.specs.declared.call.Reply.{Reply}
use Rattle.kern_net.specs.declared.end.PumpEnd.{PumpEnd}
use Rattle.kern_net.specs.declared.end.PumpEnd.TheVariants as pump
use Rattle.kern_net.specs.Routes.{Source}
use Rattle.kern_net.specs.Submitting.{
  IsArrival,
  IsSubscription,
  subscription_frames,
  IsSubmission,
  IsSubmissionOn,
  IsUnopened,
}
use Rattle.kern_net.specs.Submitting.{IsNoSubscription, IsDropped, IsDroppedOn, NoMore, Submitted, Dropped}
use Rattle.kern_net.specs.Calls.{TurnedBy}
use Rattle.kern_net.specs.ReadEnds.{IsRefusal, StopsBy, submits_all}
use Rattle.kern_net.specs.Reading.{NoCall, OneMore, SubmittedAll, SubmittedPrefix}

-- a turn ends it before all was submitted
pub not_all : (e : PumpEnd) (old : List Call) (pass : PassState Call) → StopsBy e old pass
    → submits_all e ≡ false
not_all pump.OutOfMemory old pass stops = refl
not_all pump.JournalFull old pass stops = refl
not_all (pump.Refused fault) old pass stops = refl
not_all pump.OutOfTickets old pass stops = refl
not_all _ old pass stops = absurd stops

-- a call that was granted
abbrev pub Grants : PassState Call → Call → PassState Call → Type 0
Grants old call new = (reply : Reply) × TurnedBy old call (Ok reply) new

-- a call that wasn't: it stands in the journal only where the end is its refusal
abbrev pub Refuses : PassState Call → Call → PassState Call → PumpEnd → Type 0
Refuses old call new e =
    (new.calls ≡ old.calls) ⊎ (IsRefusal e × (new.calls ≡ old.calls ++ call ∷ []))

submitted_one : (source : Source) (frames : List (List ℕ)) (call : Call) (old new : PassState Call)
    → IsSubmission source frames call → Grants old call new → SubmittedAll source (frames ∷ []) old new
submitted_one source frames call old new submitted (reply, turned) = record {
  added = call ∷ [];
  submits = Submitted frames [] call [] submitted NoMore;
  calls = (turned.entered refl).counted;
  turns = OneMore old new [] call reply NoCall turned;
}

dropped_one : (source : Source) (frames : List (List ℕ)) (old : PassState Call) → IsDropped source frames
    → SubmittedAll source (frames ∷ []) old old
dropped_one source frames old dropped = record {
  added = [];
  submits = Dropped frames [] [] dropped NoMore;
  calls = sym (append-nil old.calls);
  turns = NoCall;
}

-- nothing was submitted
submitted_not : (source : Source) (messages : List (List (List ℕ))) (old new : PassState Call)
    (e : PumpEnd)
    → submits_all e ≡ false → IsPrefix old.seen new.seen → new.calls ≡ old.calls
    → SubmittedPrefix source messages old new e
submitted_not source messages old new e no_all onward same = record {
  front = [];
  others = messages;
  messages_are = refl;
  added = [];
  submits = NoMore;
  calls = same ∙ sym (append-nil old.calls);
  made = record { mid = old; granted = []; turns = NoCall; onward = onward; last = inl refl };
  all = λ h. absurd cc;
}

-- memory was wanting
pub submitted_none : (source : Source) (messages : List (List (List ℕ))) (old : PassState Call)
    → SubmittedPrefix source messages old old pump.OutOfMemory
submitted_none source messages old =
    submitted_not source messages old old pump.OutOfMemory refl ([], append-nil old.seen) refl

-- the call wasn't granted
submitted_refused : (source : Source) (frames : List (List ℕ)) (call : Call) (old new : PassState Call)
    (e : PumpEnd)
    → IsSubmission source frames call → submits_all e ≡ false → IsPrefix old.seen new.seen
    → Refuses old call new e
    → SubmittedPrefix source (frames ∷ []) old new e
submitted_refused source frames call old new e submitted no_all onward (inl same) =
    submitted_not source (frames ∷ []) old new e no_all onward same
submitted_refused source frames call old new e submitted no_all onward (inr (refusal, calls)) = record {
  front = frames ∷ [];
  others = [];
  messages_are = refl;
  added = call ∷ [];
  submits = Submitted frames [] call [] submitted NoMore;
  calls = calls;
  made =
      record { mid = old; granted = []; turns = NoCall; onward = onward; last = inr (refusal, (call, refl)) };
  all = λ _. refl;
}

-- ---- subscriptions

subscribed_on : (channel : Channel) (source : Source) (frames : List (List ℕ)) (call : Call)
    → channel ≡ Iopub
    → IsSubscription source frames call → IsSubmissionOn channel source frames call
subscribed_on Iopub source frames call is s = s
subscribed_on _ source frames call is s = absurd cc

submitted_subscription : (source : Source) (wants : Bool) (prefix : List ℕ) (unix_seconds : ℕ)
    (frames : List (List ℕ)) (call : Call) → source.channel ≡ Iopub
    → unix_seconds ≤ 4102444800 → frames ≡ subscription_frames wants prefix
    → call ≡ Subscribe source.connection
    (record { wants = wants; prefix = prefix; unix_seconds = unix_seconds })
    → IsSubmission source frames call
submitted_subscription source wants prefix unix_seconds frames call iopub in_time frames_are call_is =
    subscribed_on source.channel source frames call iopub (record {
      wants = wants;
      prefix = prefix;
      unix_seconds = unix_seconds;
      frames_are = frames_are;
      in_time = in_time;
      call_is = call_is;
    })

pub subscribed : (source : Source) (wants : Bool) (prefix : List ℕ) (unix_seconds : ℕ)
    (frames : List (List ℕ))
    (call : Call) (old new : PassState Call) → source.channel ≡ Iopub
    → unix_seconds ≤ 4102444800 → frames ≡ subscription_frames wants prefix
    → call ≡ Subscribe source.connection
    (record { wants = wants; prefix = prefix; unix_seconds = unix_seconds })
    → Grants old call new → SubmittedAll source (frames ∷ []) old new
subscribed source wants prefix unix_seconds frames call old new iopub in_time frames_are call_is turned =
    submitted_one source frames call old new
    (submitted_subscription source wants prefix unix_seconds frames call iopub in_time frames_are call_is)
    turned

pub subscription_refused : (source : Source) (wants : Bool) (prefix : List ℕ) (unix_seconds : ℕ)
    (frames : List (List ℕ)) (call : Call) (old new : PassState Call) (e : PumpEnd) → source.channel ≡ Iopub
    → unix_seconds ≤ 4102444800 → frames ≡ subscription_frames wants prefix
    → call ≡ Subscribe source.connection
    (record { wants = wants; prefix = prefix; unix_seconds = unix_seconds })
    → StopsBy e old.calls new → IsPrefix old.seen new.seen → Refuses old call new e
    → SubmittedPrefix source (frames ∷ []) old new e
subscription_refused source wants prefix unix_seconds frames call old new e iopub in_time frames_are call_is
    stops
    onward refused =
    submitted_refused source frames call old new e
    (submitted_subscription source wants prefix unix_seconds frames call iopub in_time frames_are call_is)
    (not_all e old.calls new stops) onward refused

unsubscribed_on : (channel : Channel) (source : Source) (frames : List (List ℕ)) → channel ≡ Iopub
    → IsNoSubscription frames → IsDroppedOn channel source frames
unsubscribed_on Iopub source frames is s = s
unsubscribed_on _ source frames is s = absurd cc

pub no_subscription : (source : Source) (frames : List (List ℕ)) (old : PassState Call)
    → source.channel ≡ Iopub
    → IsNoSubscription frames → SubmittedAll source (frames ∷ []) old old
no_subscription source frames old iopub dropped =
    dropped_one source frames old (unsubscribed_on source.channel source frames iopub dropped)

-- ---- arrivals

-- what is a message is opened, if memory isn't wanting
pub refused_message : (key : List ℕ) (frames : List (List ℕ)) (fault : WireFault)
    → (fault ≡ OutOfMemory → ⊥)
    → ((p : Parts) (h : Header) (content : Data) → IsMessage key frames p h content → fault ≡ OutOfMemory)
    → IsUnopened key frames
refused_message key frames fault not only p h content message = not (only p h content message)

arrived_on : (channel : Channel) (source : Source) (frames : List (List ℕ)) (call : Call)
    → (channel ≡ Iopub → ⊥) → IsArrival source frames call → IsSubmissionOn channel source frames call
arrived_on Iopub source frames call other arrival = absurd (other refl)
arrived_on _ source frames call other arrival = arrival

dropped_on : (channel : Channel) (source : Source) (frames : List (List ℕ)) → (channel ≡ Iopub → ⊥)
    → IsUnopened source.key frames → IsDroppedOn channel source frames
dropped_on Iopub source frames other unopened = absurd (other refl)
dropped_on _ source frames other unopened = unopened

submitted_arrival : (source : Source) (message : Message) (unix_seconds : ℕ) (frames : List (List ℕ))
    (call : Call)
    → (source.channel ≡ Iopub → ⊥) → unix_seconds ≤ 4102444800
    → IsMessage source.key frames message.parts message.header (view message.content)
    → call ≡ Arrive source.connection
    (record { request = request_of source.channel message; unix_seconds = unix_seconds })
    → IsSubmission source frames call
submitted_arrival source message unix_seconds frames call other in_time opens call_is =
    arrived_on source.channel source frames call other (record {
      message = message;
      unix_seconds = unix_seconds;
      opens = opens;
      in_time = in_time;
      call_is = call_is;
    })

pub arrived : (source : Source) (message : Message) (unix_seconds : ℕ) (frames : List (List ℕ))
    (call : Call)
    (old new : PassState Call) → (source.channel ≡ Iopub → ⊥) → unix_seconds ≤ 4102444800
    → IsMessage source.key frames message.parts message.header (view message.content)
    → call ≡ Arrive source.connection
    (record { request = request_of source.channel message; unix_seconds = unix_seconds })
    → Grants old call new → SubmittedAll source (frames ∷ []) old new
arrived source message unix_seconds frames call old new other in_time opens call_is turned =
    submitted_one source frames call old new
    (submitted_arrival source message unix_seconds frames call other in_time opens call_is) turned

pub arrival_refused : (source : Source) (message : Message) (unix_seconds : ℕ) (frames : List (List ℕ))
    (call : Call)
    (old new : PassState Call) (e : PumpEnd) → (source.channel ≡ Iopub → ⊥) → unix_seconds ≤ 4102444800
    → IsMessage source.key frames message.parts message.header (view message.content)
    → call ≡ Arrive source.connection
    (record { request = request_of source.channel message; unix_seconds = unix_seconds })
    → StopsBy e old.calls new → IsPrefix old.seen new.seen → Refuses old call new e
    → SubmittedPrefix source (frames ∷ []) old new e
arrival_refused source message unix_seconds frames call old new e other in_time opens call_is stops onward
    refused =
    submitted_refused source frames call old new e
    (submitted_arrival source message unix_seconds frames call other in_time opens call_is)
    (not_all e old.calls new stops) onward refused

pub unopened : (source : Source) (frames : List (List ℕ)) (old : PassState Call)
    → (source.channel ≡ Iopub → ⊥) → IsUnopened source.key frames → SubmittedAll source (frames ∷ []) old old
unopened source frames old other none =
    dropped_one source frames old (dropped_on source.channel source frames other none)

-- frames that are no subscription ask for nothing
pub ruleset dropped_subscription = (no_subscription, submitted_none)

pub ruleset arrivals = (unopened, submitted_none)
