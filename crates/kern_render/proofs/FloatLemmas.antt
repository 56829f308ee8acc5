-- No number in a content is a float.
use Rattle.std.proofs.Common.{◌≡◌, ℕ, false, List, refl}
use Rattle.serde_json.specs.Written.{has_float}
use Rattle.dap_answers.specs.declared.answer.Outcome.{Outcome}
use Rattle.dap_answers.specs.declared.answer.Outcome.TheVariants.{Success, Refused}
use Rattle.dap_answers.specs.Json.{outcome_json}
use Rattle.dap_answers.proofs.FloatLemmas.{body_has_no_float, event_has_no_float}
use Rattle.kern_post.specs.declared.content.Ending.{Ending}
use Rattle.kern_post.specs.declared.content.Ending.TheVariants as ending
use Rattle.kern_post.specs.declared.content.Completeness.{Completeness}
use Rattle.kern_post.specs.declared.content.Completeness.TheVariants as completeness
use Rattle.kern_post.specs.declared.content.Content.{Content}
use Rattle.kern_post.specs.declared.content.Content.TheVariants as content
use Rattle.kern_render.specs.Json.{execute_reply_json, is_complete_json, content_json}

in_outcome : (seq request_seq : ℕ) (command : List ℕ) (o : Outcome)
    → has_float (outcome_json seq request_seq command o) ≡ false
in_outcome seq request_seq command (Success b) = rw (body_has_no_float b) refl
in_outcome seq request_seq command (Refused message) = refl

in_execute_reply : (count : ℕ) (e : Ending) → has_float (execute_reply_json count e) ≡ false
in_execute_reply count ending.Done = refl
in_execute_reply count (ending.Failed c) = refl

in_completeness : (c : Completeness) → has_float (is_complete_json c) ≡ false
in_completeness completeness.Complete = refl
in_completeness _ = refl

pub content_has_no_float : (number : ℕ) (c : Content) → has_float (content_json number c) ≡ false
content_has_no_float number (content.DebugEvent e) = event_has_no_float number e
content_has_no_float number (content.ExecuteReply count e) = in_execute_reply count e
content_has_no_float number (content.IsCompleteReply c) = in_completeness c
content_has_no_float number (content.DebugReply r) =
    in_outcome number r.request_seq r.command r.outcome
content_has_no_float number _ = refl
