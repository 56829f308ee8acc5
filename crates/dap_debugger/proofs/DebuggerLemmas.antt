use Rattle.std.proofs.Common.{◌≡◌, ℕ, List, [], ◌∷◌, ◌++◌, refl, sym, ◌∙◌, ap, subst}
use Rattle.std.proofs.Common.{append_assoc}
use Rattle.std.proofs.lemmas.List.{append-nil}
use Rattle.dap_messages.specs.declared.message.Message.{Message}
use Rattle.dap_record.specs.Recordings.{RecordedState, recorded_before_requests}
use Rattle.dap_record.specs.Slices.{Input, step, play_all}
use Rattle.dap_record.specs.Represents.{RepresentsRecorded, Tells}
use Rattle.dap_debugger.specs.Sending.{at_start, after_messages, sent_bytes, concat_messages}
use Rattle.dap_debugger.specs.Debuggers.{DebuggerState, Past}
use Rattle.dap_debugger.proofs.SendingLemmas.{after_messages-append, sent_bytes-append}

-- one input more
pub played_messages : (inputs : List Input) (input : Input) (s : RecordedState)
    → (play_all (inputs ++ input ∷ []) s).messages
    ≡ (play_all inputs s).messages ++ (step input (play_all inputs s).state).messages
played_messages [] input s = append-nil (step input s).messages
played_messages (i ∷ inputs) input s =
    let first = step i s in
    ap (λ m. first.messages ++ m) (played_messages inputs input first.state)
    ∙ sym (append_assoc first.messages (play_all inputs first.state).messages
    (step input (play_all inputs first.state).state).messages)

pub played_state : (inputs : List Input) (input : Input) (s : RecordedState)
    → (play_all (inputs ++ input ∷ []) s).state ≡ (step input (play_all inputs s).state).state
played_state [] input s = refl
played_state (i ∷ inputs) input s = played_state inputs input (step i s).state

joined_push : (lists : List (List Message)) (messages : List Message)
    → concat_messages (lists ++ messages ∷ []) ≡ concat_messages lists ++ messages
joined_push [] messages = append-nil messages
joined_push (list ∷ lists) messages =
    ap (λ m. list ++ m) (joined_push lists messages)
    ∙ sym (append_assoc list (concat_messages lists) messages)

-- one request or slice more
pub past_more : (old new : DebuggerState) (inputs : List Input) (bytes : List ℕ) (input : Input)
    (messages : List Message) (lists all : List (List Message)) → Past old inputs bytes
    → Tells (step input (play_all inputs recorded_before_requests).state) messages new.session
    → new.progress ≡ old.progress
    → old.told ≡ concat_messages lists → all ≡ lists ++ messages ∷ [] → new.told ≡ concat_messages all
    → Past new (inputs ++ input ∷ []) bytes
past_more old new inputs bytes input messages lists all p tells same old_is all_is new_is =
    let before = (play_all inputs recorded_before_requests).messages in
    let told : new.told ≡ old.told ++ messages =
    new_is ∙ (ap concat_messages all_is ∙
    (joined_push lists messages ∙ ap (λ m. m ++ messages) (sym old_is))) in
    record {
      session = subst (RepresentsRecorded new.session)
          (sym (played_state inputs input recorded_before_requests)) tells.represents;
      before = p.before;
      messages = played_messages inputs input recorded_before_requests
          ∙ (ap (λ m. before ++ m) (sym tells.messages_are) ∙ (ap (λ m. m ++ messages) p.messages
          ∙ (append_assoc p.before old.told messages ∙ ap (λ m. p.before ++ m) (sym told))));
      progress = same ∙ p.progress;
      wrote = p.wrote;
    }

-- all that waits is sent
pub past_sent : (old new : DebuggerState) (inputs : List Input) (bytes more : List ℕ) → Past old inputs bytes
    → new.session ≡ old.session → new.told ≡ [] → new.progress ≡ after_messages old.progress old.told
    → more ≡ sent_bytes old.progress old.told → Past new inputs (bytes ++ more)
past_sent old new inputs bytes more p session told on is = record {
  session = subst (λ v. RepresentsRecorded v (play_all inputs recorded_before_requests).state) (sym session)
      p.session;
  before = p.before ++ old.told;
  messages = p.messages ∙ (sym (append-nil (p.before ++ old.told))
      ∙ ap (λ m. (p.before ++ old.told) ++ m) (sym told));
  progress = on ∙ (ap (λ q. after_messages q old.told) p.progress
      ∙ sym (after_messages-append at_start p.before old.told));
  wrote = ap (λ b. b ++ more) p.wrote ∙ (ap (λ b. sent_bytes at_start p.before ++ b) (is
      ∙ ap (λ q. sent_bytes q old.told) p.progress)
      ∙ sym (sent_bytes-append at_start p.before old.told));
}
