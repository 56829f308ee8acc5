use Rattle.std.proofs.Common.{◌≡◌, ℕ, List, [], ◌∷◌, ◌++◌, length, refl, sym, ◌∙◌, ap}
use Rattle.std.proofs.Common.{append_assoc}
use Rattle.std.specs.Prelude.{fold}
use Rattle.std.proofs.lemmas.List.{append-nil, nil_from_length}
use Rattle.dap_stream.specs.Writing.{message_bytes}
use Rattle.dap_messages.specs.declared.message.Message.{Message}
use Rattle.dap_messages.specs.Numbering.{numbering_after}
use Rattle.dap_debugger.specs.declared.sending.Progress.{Progress}
use Rattle.dap_debugger.specs.Sending.{text_of, after_message, after_messages, sent_bytes, concat_messages}

-- how far writing has come
pub record HasPut (here from : Progress) (rest messages : List Message) (out before : List ℕ) : Type 0 where
  pub progress : after_messages here rest ≡ after_messages from messages
  pub bytes : out ++ sent_bytes here rest ≡ before ++ sent_bytes from messages

pub put_more : (here from next : Progress) (message : Message) (rest others messages : List Message)
    (out before new : List ℕ) → rest ≡ message ∷ others → next ≡ after_message here message
    → new ≡ out ++ message_bytes (text_of here message)
    → HasPut here from rest messages out before → HasPut next from others messages new before
put_more here from next message rest others messages out before new e on is h = record {
  progress = ap (λ p. after_messages p others) on ∙ (ap (after_messages here) (sym e) ∙ h.progress);
  bytes = ap (λ l. l ++ sent_bytes next others) is
      ∙ (ap (λ p. (out ++ message_bytes (text_of here message)) ++ sent_bytes p others) on
      ∙ (append_assoc out (message_bytes (text_of here message))
      (sent_bytes (after_message here message) others)
      ∙ (ap (λ l. out ++ sent_bytes here l) (sym e) ∙ h.bytes)));
}

pub put_on : (here from : Progress) (rest messages : List Message) (out before : List ℕ) → length rest ≡ 0
    → HasPut here from rest messages out before → here ≡ after_messages from messages
put_on here from rest messages out before none h =
    sym (ap (after_messages here) (nil_from_length rest none)) ∙ h.progress

pub put_all : (here from : Progress) (rest messages : List Message) (out before : List ℕ) → length rest ≡ 0
    → HasPut here from rest messages out before → out ≡ before ++ sent_bytes from messages
put_all here from rest messages out before none h =
    sym (ap (λ l. out ++ sent_bytes here l) (nil_from_length rest none) ∙ append-nil out) ∙ h.bytes

-- messages after others
pub after_messages-append : (p : Progress) (a b : List Message)
    → after_messages p (a ++ b) ≡ after_messages (after_messages p a) b
after_messages-append p [] b = refl
after_messages-append p (m ∷ a) b = after_messages-append (after_message p m) a b

pub sent_bytes-append : (p : Progress) (a b : List Message)
    → sent_bytes p (a ++ b) ≡ sent_bytes p a ++ sent_bytes (after_messages p a) b
sent_bytes-append p [] b = refl
sent_bytes-append p (m ∷ a) b =
    ap (λ l. message_bytes (text_of p m) ++ l) (sent_bytes-append (after_message p m) a b)
    ∙ sym (append_assoc (message_bytes (text_of p m)) (sent_bytes (after_message p m) a)
    (sent_bytes (after_messages p (m ∷ a)) b))

-- how an editor counts after messages
pub numbering_on : (p : Progress) (messages : List Message)
    → (after_messages p messages).numbering ≡ fold numbering_after p.numbering messages
numbering_on p [] = refl
numbering_on p (m ∷ messages) = numbering_on (after_message p m) messages

-- how far writing of lists has come
pub record HasPutLists (here from : Progress) (rest lists : List (List Message))
    (out before : List ℕ) : Type 0 where
  pub progress : after_messages here (concat_messages rest) ≡ after_messages from (concat_messages lists)
  pub bytes : out ++ sent_bytes here (concat_messages rest)
      ≡ before ++ sent_bytes from (concat_messages lists)

pub lists_more : (here from next : Progress) (messages : List Message)
    (rest others lists : List (List Message))
    (out before new : List ℕ) → rest ≡ messages ∷ others → next ≡ after_messages here messages
    → new ≡ out ++ sent_bytes here messages → HasPutLists here from rest lists out before
    → HasPutLists next from others lists new before
lists_more here from next messages rest others lists out before new e on is h =
    let left = concat_messages others in
    let k : concat_messages rest ≡ messages ++ left = ap concat_messages e in
    record {
      progress = ap (λ p. after_messages p left) on ∙ (sym (after_messages-append here messages left)
          ∙ (ap (after_messages here) (sym k) ∙ h.progress));
      bytes = ap (λ b. b ++ sent_bytes next left) is
          ∙ (append_assoc out (sent_bytes here messages) (sent_bytes next left)
          ∙ (ap (λ p. out ++ (sent_bytes here messages ++ sent_bytes p left)) on
          ∙ (ap (λ b. out ++ b) (sym (sent_bytes-append here messages left))
          ∙ (ap (λ m. out ++ sent_bytes here m) (sym k) ∙ h.bytes))));
    }

pub lists_on : (here from : Progress) (rest lists : List (List Message)) (out before : List ℕ)
    → length rest ≡ 0 → HasPutLists here from rest lists out before
    → here ≡ after_messages from (concat_messages lists)
lists_on here from rest lists out before none h =
    sym (ap (λ l. after_messages here (concat_messages l)) (nil_from_length rest none)) ∙ h.progress

pub lists_all : (here from : Progress) (rest lists : List (List Message)) (out before : List ℕ)
    → length rest ≡ 0 → HasPutLists here from rest lists out before
    → out ≡ before ++ sent_bytes from (concat_messages lists)
lists_all here from rest lists out before none h =
    sym (ap (λ l. out ++ sent_bytes here (concat_messages l)) (nil_from_length rest none)
    ∙ append-nil out) ∙ h.bytes
