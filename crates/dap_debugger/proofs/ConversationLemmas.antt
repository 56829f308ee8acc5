-- Exchanges of a conversation, one after another.
use Rattle.std.proofs.Common.{◌≡◌, ◌≢◌, ◌⊎◌, List, [], ◌∷◌, ◌++◌, map, refl, sym, ◌∙◌, ap, subst}
use Rattle.std.proofs.Common.{ℕ, append_assoc, Option, Some, None, Bool, true, false, inl, inr, arith}
use Rattle.std.proofs.Common.{is_some}
use Rattle.std.proofs.Common.{◌||◌}
use Rattle.std.proofs.lemmas.List.{append-nil, map-append}
use Rattle.std.proofs.lemmas.Grind.{flat_map-append}
use Rattle.base_text.specs.Bytes.{Bytes}
use Rattle.base_streams.specs.States.{OutletState}
use Rattle.base_streams.specs.Told.{Told, ToldPrefix}
use Rattle.base_streams.proofs.TellLemmas.{told_on}
use Rattle.dap_search.specs.declared.goal.Goal.{Goal}
use Rattle.dap_session.specs.States.{wants_slice}
use Rattle.dap_record.specs.Recordings.{RecordedState, recorded_before_requests}
use Rattle.dap_record.specs.Represents.{RepresentsRecorded}
use Rattle.dap_record.specs.Slices.{Input, request, slice, slice_told, slice_in, goes_on as wants_more, step}
use Rattle.dap_record.specs.Slices.{play_all, RecordedTold}
use Rattle.dap_debugger.specs.declared.incoming.Incoming.{Incoming}
use Rattle.dap_debugger.specs.declared.incoming.Incoming.TheVariants as incoming
use Rattle.dap_debugger.specs.declared.incoming.StreamEnd.{StreamEnd}
use Rattle.dap_debugger.specs.declared.conversation.ConversationEnd.{ConversationEnd}
use Rattle.dap_debugger.specs.declared.conversation.ConversationEnd.TheVariants as end
use Rattle.dap_messages.specs.declared.message.Message.{Message}
use Rattle.dap_messages.specs.Numbering.{numbering_of}
use Rattle.dap_debugger.specs.declared.sending.Progress.{Progress}
use Rattle.dap_debugger.specs.Sending.{at_start, sent_bytes}
use Rattle.dap_debugger.proofs.SendingLemmas.{numbering_on}
use Rattle.dap_debugger.specs.Given.{Gave}
use Rattle.dap_debugger.specs.KnownFiles.{KnownFiles}
use Rattle.dap_debugger.specs.Debuggers.{DebuggerState, Past, PastSlice}
use Rattle.dap_debugger.specs.Conversations.{Exchange, answered, idle, incoming_of, inputs_in, inputs_of}
use Rattle.dap_debugger.specs.Conversations.{asked_in, session_after, numbering_by}
use Rattle.dap_debugger.specs.Conversations.{bytes_for, FindsIn, FindsFiles, Ports, ports, Converses}
use Rattle.dap_debugger.specs.Conversations.{HasConversed, HasAnswered, Answers, Writes, WritesPrefix}
use Rattle.dap_debugger.specs.Conversations.{FailsToWrite}
use Rattle.dap_debugger.proofs.DebuggerLemmas.{played_messages, played_state}

-- ---- lists

-- a prefix of a list with one element more is the whole, or a prefix of the list
split_last : {X : Type 0} (xs front rest : List X) (x : X) → xs ++ x ∷ [] ≡ front ++ rest
    → (rest ≡ []) ⊎ ((less : List X) × (xs ≡ front ++ less) × (rest ≡ less ++ x ∷ []))
split_last xs [] rest x e = inr (xs, refl, sym e)
split_last [] (y ∷ []) rest x e = let none : rest ≡ [] = cc in inl none
split_last [] (y ∷ z ∷ ys) rest x e = absurd cc
split_last (z ∷ zs) (y ∷ ys) rest x e =
    let tails : zs ++ x ∷ [] ≡ ys ++ rest = cc in
    let heads : z ≡ y = cc in
    elim (split_last zs ys rest x tails) [
      | inl none ↦ inl none
      | inr some ↦ inr (some.0, cc, some.2)
    ]

gave_on : (a b c : Option (List Incoming)) (x y : List Incoming) → Gave a b x → Gave b c y → Gave a c (x ++ y)
gave_on None b c x y p q = tt
gave_on (Some v) None c x y p q = absurd cc
gave_on (Some v) (Some w) c x y p q =
    q ∙ ap Some (let e : w ≡ v ++ x = cc in (ap (λ l. l ++ y) e ∙ append_assoc v x y))

inputs_more : (exchanges : List Exchange) (x : Exchange)
    → inputs_of (exchanges ++ x ∷ []) ≡ inputs_of exchanges ++ inputs_in x
inputs_more exchanges x =
    flat_map-append inputs_in exchanges (x ∷ [])
    ∙ ap (λ l. inputs_of exchanges ++ l) (append-nil (inputs_in x))

front_on : (a b c : Option (List ℕ)) (x y : List ℕ) → Told a b x → ToldPrefix b c y → ToldPrefix a c (x ++ y)
front_on a b c x y p q = record {
  front = x ++ q.front;
  others = q.others;
  told = told_on a b c x q.front p q.told;
  whole = ap (λ l. x ++ l) q.whole ∙ sym (append_assoc x q.front q.others);
}

-- ---- a debugger

-- a slice changes nothing if none is wanted
quiet_run : (o : Option Goal) (v : RecordedState) → (is_some o || wants_slice v.session) ≡ false
    → slice_in o false v ≡ record { messages = []; state = v }
quiet_run None v e = rw e refl
quiet_run (Some goal) v e = refl

quiet_step : (v : RecordedState) → wants_more v ≡ false → step (slice false) v ≡ record {
  messages = [];
  state = v;
}
unfolding slice_told
quiet_step v e = quiet_run v.search v e

pub past_quiet : (d : DebuggerState) (inputs : List Input) (bytes : Bytes) → Past d inputs bytes
    → wants_more (play_all inputs recorded_before_requests).state ≡ false → PastSlice d inputs bytes
past_quiet d inputs bytes p e =
    let before = play_all inputs recorded_before_requests in
    let quiet = quiet_step before.state e in (
      false,
      record {
        session = subst (RepresentsRecorded d.session)
            (sym (played_state inputs (slice false) recorded_before_requests
            ∙ ap (λ (t : RecordedTold). t.state) quiet))
            p.session;
        before = p.before;
        messages = played_messages inputs (slice false) recorded_before_requests
            ∙ (ap (λ (t : RecordedTold). before.messages ++ t.messages) quiet
            ∙ (append-nil before.messages ∙ p.messages));
        progress = p.progress;
        wrote = p.wrote;
      },
    )

-- if nothing waits to be sent, all was
past_whole : (d : DebuggerState) (inputs : List Input) (bytes : Bytes) → Past d inputs bytes → d.told ≡ []
    → bytes ≡ sent_bytes at_start (play_all inputs recorded_before_requests).messages
past_whole d inputs bytes p sent =
    p.wrote ∙ ap (sent_bytes at_start)
    (sym (p.messages ∙ (ap (λ m. p.before ++ m) sent ∙ append-nil p.before)))

-- and then the editor counts by all of it
past_counts : (d : DebuggerState) (inputs : List Input) (bytes : Bytes) → Past d inputs bytes → d.told ≡ []
    → d.progress.numbering ≡ numbering_by inputs
past_counts d inputs bytes p sent =
    ap (λ (q : Progress). q.numbering) p.progress
    ∙ (numbering_on at_start p.before
    ∙ ap numbering_of (sym (p.messages ∙ (ap (λ m. p.before ++ m) sent ∙ append-nil p.before))))

-- ---- an exchange more

finds_last : (known : KnownFiles) (exchanges before less after : List Exchange)
    (x y : Exchange) → FindsFiles known exchanges → FindsIn known x exchanges
    → exchanges ≡ before ++ less → y ∷ after ≡ less ++ x ∷ [] → FindsIn known y before
finds_last known exchanges before [] after x y all here front last =
    let same : y ≡ x = cc in
    let whole : exchanges ≡ before = front ∙ append-nil before in
    subst (λ (z : Exchange). FindsIn known z before) (sym same)
    (subst (λ (l : List Exchange). FindsIn known x l) whole here)
finds_last known exchanges before (z ∷ less) after x y all here front last =
    let same : y ≡ z = cc in
    subst (λ (w : Exchange). FindsIn known w before) (sym same) (all before less z front)

finds_more : (known : KnownFiles) (exchanges : List Exchange) (x : Exchange)
    → FindsFiles known exchanges → FindsIn known x exchanges
    → FindsFiles known (exchanges ++ x ∷ [])
finds_more known exchanges x all here before after y e =
    elim (split_last exchanges before (y ∷ after) x e) [
      | inl none ↦ absurd cc
      | inr some ↦ finds_last known exchanges before some.0 after x y all here some.1 some.2
    ]

answered_more : (known : KnownFiles) (start now : Ports) (d e : DebuggerState)
    (given : Option (List Incoming)) (h : HasConversed known start now d) (x : Exchange)
    → Gave now.given given (incoming_of x ∷ []) → FindsIn known x h.exchanges
    → Past e (inputs_of h.exchanges ++ inputs_in x) (bytes_for h.exchanges)
    → HasAnswered known start (ports given now.outlet) e
answered_more known start now d e given h x gave found past = record {
  exchanges = h.exchanges;
  x = x;
  came = subst (λ l. Gave start.given given l) (sym (map-append incoming_of h.exchanges (x ∷ [])))
      (gave_on start.given now.given given (map incoming_of h.exchanges) (incoming_of x ∷ []) h.came gave);
  found = finds_more known h.exchanges x h.found found;
  past = subst (λ l. Past e l (bytes_for h.exchanges)) (sym (inputs_more h.exchanges x)) past;
  took = h.took;
  goes_on = h.goes_on;
}

-- the request in a body is answered
pub answered_body : (known : KnownFiles) (start now : Ports) (d m e : DebuggerState)
    (given : Option (List Incoming)) (came : Incoming) (body shown : Bytes)
    (h : HasConversed known start now d) → Gave now.given given (came ∷ []) → came ≡ incoming.Body body
    → shown ≡ body → Answers known shown d m
    → ((inputs : List Input) (bytes : Bytes) → Past m inputs bytes → PastSlice e inputs bytes)
    → HasAnswered known start (ports given now.outlet) e
answered_body known start now d m e given came body shown h gave came_is shown_is a runs =
    let before = inputs_of h.exchanges in
    let each = a.each before (bytes_for h.exchanges) h.past in
    let canonical = each.0 in
    let found = each.1 in
    let numbering = d.progress.numbering in
    let asked = request (asked_in numbering shown canonical) found ∷ [] in
    let gave' : Gave now.given given (incoming.Body shown ∷ []) =
    subst (λ i. Gave now.given given (i ∷ [])) (came_is ∙ ap (λ b. incoming.Body b) (sym shown_is)) gave in
    let on = runs (before ++ asked) (bytes_for h.exchanges) each.3 in
    answered_more known start now d e given h (answered numbering shown canonical found on.0) gave'
    (past_counts d before (bytes_for h.exchanges) h.past h.sent, each.2)
    (subst (λ l. Past e l (bytes_for h.exchanges)) (append_assoc before asked (slice on.0 ∷ [])) on.1)

-- no body came
pub answered_nothing : (known : KnownFiles) (start now : Ports) (d e : DebuggerState)
    (given : Option (List Incoming)) (came : Incoming) (h : HasConversed known start now d)
    → Gave now.given given (came ∷ []) → came ≡ incoming.Nothing
    → ((inputs : List Input) (bytes : Bytes) → Past d inputs bytes → PastSlice e inputs bytes)
    → HasAnswered known start (ports given now.outlet) e
answered_nothing known start now d e given came h gave came_is runs =
    let on = runs (inputs_of h.exchanges) (bytes_for h.exchanges) h.past in
    answered_more known start now d e given h (idle on.0) (subst (λ i. Gave now.given given
    (i ∷ [])) came_is gave) tt on.1

-- ---- how it begins

finds_none : (known : KnownFiles) → FindsFiles known []
finds_none known [] after x e = absurd cc
finds_none known (y ∷ before) after x e = absurd cc

gave_none : (given : Option (List Incoming)) → Gave given given []
gave_none None = tt
gave_none (Some given) = ap Some (sym (append-nil given))

took_none : (taken : Option (List ℕ)) → Told taken taken []
took_none None = tt
took_none (Some taken) = ap Some (sym (append-nil taken))

-- nothing waits to be sent before the first request
none_told : (before told : List Message) → [] ≡ before ++ told → told ≡ []
none_told [] told e = sym e
none_told (m ∷ before) told e = absurd cc

-- before the first exchange the session hasn't ended
before_first : (before after : List Exchange) → [] ≡ before ++ after
    → (session_after before).settings.has_ended ≡ false
before_first [] after e = refl
before_first (y ∷ before) after e = absurd cc

pub starts : (known : KnownFiles) (p : Ports) (d : DebuggerState) → Past d [] []
    → HasConversed known p p d
starts known p d past = record {
  exchanges = [];
  came = gave_none p.given;
  found = finds_none known;
  past = past;
  sent = none_told past.before d.told past.messages;
  took = took_none p.outlet.taken;
  goes_on = λ before after e. before_first before after e;
}

pub ends_at_once : (known : KnownFiles) (p : Ports) → Converses known p p end.OutOfMemory
ends_at_once known p = record {
  exchanges = [];
  last = [];
  came = gave_none p.given;
  found = finds_none known;
  ends = (omega arith, took_none p.outlet.taken);
  goes_on = λ before after e some. before_first before after e;
}

-- ---- how it ends

pub ends_with : (known : KnownFiles) (start now : Ports) (d : DebuggerState)
    (given : Option (List Incoming)) (how : StreamEnd) → HasConversed known start now d
    → Gave now.given given (incoming.End how ∷ [])
    → Converses known start (ports given now.outlet) (end.Stream how)
ends_with known start now d given how h gave = record {
  exchanges = h.exchanges;
  last = incoming.End how ∷ [];
  came = gave_on start.given now.given given (map incoming_of h.exchanges)
      (incoming.End how ∷ []) h.came gave;
  found = h.found;
  ends = (refl, h.took);
  goes_on = λ before after e some. h.goes_on before after e;
}

pub ends_without_memory : (known : KnownFiles) (start now : Ports) (d : DebuggerState)
    (given : Option (List Incoming)) (i : Incoming) → HasConversed known start now d
    → Gave now.given given (i ∷ []) → Converses known start (ports given now.outlet) end.OutOfMemory
ends_without_memory known start now d given i h gave = record {
  exchanges = h.exchanges;
  last = i ∷ [];
  came = gave_on start.given now.given given (map incoming_of h.exchanges) (i ∷ []) h.came gave;
  found = h.found;
  ends = (omega arith, h.took);
  goes_on = λ before after e some. h.goes_on before after e;
}

-- ---- the messages of an exchange

abbrev all_of : {known : KnownFiles} {start now : Ports} {d : DebuggerState}
    → HasAnswered known start now d → List Exchange
all_of h = h.exchanges ++ h.x ∷ []

-- the exchanges before the last don't end the conversation
before_last : (known : KnownFiles) (start now : Ports) (d : DebuggerState)
    (h : HasAnswered known start now d) (before after : List Exchange) → all_of h ≡ before ++ after
    → (after ≢ [] → (session_after before).settings.has_ended ≡ false)
before_last known start now d h before after e some =
    elim (split_last h.exchanges before after h.x e) [
      | inl none ↦ absurd (some none)
      | inr less ↦ h.goes_on before less.0 less.1
    ]

pub goes_on_with : (known : KnownFiles) (start now : Ports) (d e : DebuggerState)
    (outlet : OutletState) (has_ended : Bool) (h : HasAnswered known start now d)
    → Writes d e now.outlet outlet
    → ((v : RecordedState) → RepresentsRecorded e.session v → has_ended ≡ v.session.settings.has_ended)
    → has_ended ≡ false → HasConversed known start (ports now.given outlet) e
goes_on_with known start now d e outlet has_ended h w told live =
    let all = all_of h in
    let each = w.each (inputs_of all) (bytes_for h.exchanges) h.past in
    let whole = past_whole e (inputs_of all) (bytes_for h.exchanges ++ each.0) each.1 w.sent in
    let goes_on = sym (told _ each.1.session) ∙ live in
    record {
      exchanges = all;
      came = h.came;
      found = h.found;
      past = subst (λ b. Past e (inputs_of all) b) whole each.1;
      sent = w.sent;
      took = subst (λ b. Told start.outlet.taken outlet.taken b) whole
          (told_on start.outlet.taken now.outlet.taken outlet.taken (bytes_for h.exchanges) each.0 h.took
          each.2);
      goes_on = λ before after is. elim (split_last h.exchanges before after h.x is) [
        | inl none ↦ subst (λ (l : List Exchange). (session_after l).settings.has_ended ≡ false)
            (is ∙ (ap (λ l. before ++ l) none ∙ append-nil before)) goes_on
        | inr less ↦ h.goes_on before less.0 less.1
      ];
    }

pub disconnects : (known : KnownFiles) (start now : Ports) (d e : DebuggerState)
    (outlet : OutletState) (has_ended : Bool) (h : HasAnswered known start now d)
    → Writes d e now.outlet outlet
    → ((v : RecordedState) → RepresentsRecorded e.session v → has_ended ≡ v.session.settings.has_ended)
    → has_ended ≡ true → Converses known start (ports now.given outlet) end.Disconnected
disconnects known start now d e outlet has_ended h w told over =
    let all = all_of h in
    let each = w.each (inputs_of all) (bytes_for h.exchanges) h.past in
    let whole = past_whole e (inputs_of all) (bytes_for h.exchanges ++ each.0) each.1 w.sent in
    let took = subst (λ b. Told start.outlet.taken outlet.taken b) whole
    (told_on start.outlet.taken now.outlet.taken outlet.taken (bytes_for h.exchanges) each.0 h.took each.2) in
    record {
      exchanges = all;
      last = [];
      came = subst (λ l. Gave start.given now.given l) (sym (append-nil (map incoming_of all))) h.came;
      found = h.found;
      ends = (refl, sym (told _ each.1.session) ∙ over, took);
      goes_on = before_last known start now d h;
    }

fails_to_write : (known : KnownFiles) (start now : Ports) (d e : DebuggerState)
    (outlet : OutletState) (h : HasAnswered known start now d) → outlet.failed ≡ true
    → WritesPrefix d e now.outlet outlet → Converses known start (ports now.given outlet) end.WriteFailed
fails_to_write known start now d e outlet h failed w =
    let all = all_of h in
    let each = w.each (inputs_of all) (bytes_for h.exchanges) h.past in
    let whole = past_whole e (inputs_of all) (bytes_for h.exchanges ++ each.0) each.1 w.sent in
    let took = subst (λ b. ToldPrefix start.outlet.taken outlet.taken b) whole
    (front_on start.outlet.taken now.outlet.taken outlet.taken
    (bytes_for h.exchanges) each.0 h.took each.2) in
    record {
      exchanges = all;
      last = [];
      came = subst (λ l. Gave start.given now.given l) (sym (append-nil (map incoming_of all))) h.came;
      found = h.found;
      ends = (refl, failed, took);
      goes_on = before_last known start now d h;
    }

runs_out_of_memory : (known : KnownFiles) (start now : Ports) (d : DebuggerState)
    → HasAnswered known start now d → Converses known start now end.OutOfMemory
runs_out_of_memory known start now d h = record {
  exchanges = h.exchanges;
  last = incoming_of h.x ∷ [];
  came = subst (λ l. Gave start.given now.given l) (map-append incoming_of h.exchanges (h.x ∷ [])) h.came;
  found = λ before after y e. h.found before (after ++ h.x ∷ []) y
      (ap (λ l. l ++ h.x ∷ []) e ∙ append_assoc before (y ∷ after) (h.x ∷ []));
  ends = (omega arith, h.took);
  goes_on = λ before after e some. h.goes_on before after e;
}

pub fails_with : (known : KnownFiles) (start now : Ports) (d e : DebuggerState)
    (outlet : OutletState) (how : ConversationEnd) → HasAnswered known start now d
    → FailsToWrite d e now.outlet outlet how → Converses known start (ports now.given outlet) how
fails_with known start now d e outlet end.OutOfMemory h f =
    subst (λ (o : OutletState). Converses known start (ports now.given o) end.OutOfMemory) (sym f)
    (runs_out_of_memory known start now d h)
fails_with known start now d e outlet end.WriteFailed h f =
    fails_to_write known start now d e outlet h f.0 f.1
fails_with known start now d e outlet _ h f = absurd f
