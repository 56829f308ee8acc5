-- How deep contents nest: at most 6.
use Rattle.std.proofs.Common.{◌≤◌, ℕ, List, refl, arith}
use Rattle.serde_json.specs.Data.{depth}
use Rattle.dap_answers.specs.declared.answer.Outcome.{Outcome}
use Rattle.dap_answers.specs.declared.answer.Outcome.TheVariants.{Success, Refused}
use Rattle.dap_answers.specs.Json.{outcome_json}
use Rattle.dap_answers.proofs.DepthLemmas.{fits, body_is_shallow, event_is_shallow}
use Rattle.kern_post.specs.declared.content.Ending.{Ending}
use Rattle.kern_post.specs.declared.content.Ending.TheVariants as ending
use Rattle.kern_post.specs.declared.content.Completeness.{Completeness}
use Rattle.kern_post.specs.declared.content.Completeness.TheVariants as completeness
use Rattle.kern_post.specs.declared.content.Content.{Content}
use Rattle.kern_post.specs.declared.content.Content.TheVariants as content
use Rattle.kern_render.specs.Json.{execute_reply_json, is_complete_json, content_json}

in_outcome : (seq request_seq : ℕ) (command : List ℕ) (o : Outcome)
    → depth (outcome_json seq request_seq command o) ≤ 6
in_outcome seq request_seq command (Success b) = let h = body_is_shallow b in omega (arith, h)
in_outcome seq request_seq command (Refused message) = fits _ 6 refl

in_execute_reply : (count : ℕ) (e : Ending) → depth (execute_reply_json count e) ≤ 6
in_execute_reply count ending.Done = fits _ 6 refl
in_execute_reply count (ending.Failed c) = fits _ 6 refl

in_completeness : (c : Completeness) → depth (is_complete_json c) ≤ 6
in_completeness completeness.Complete = fits _ 6 refl
in_completeness _ = fits _ 6 refl

pub content_is_shallow : (number : ℕ) (c : Content) → depth (content_json number c) ≤ 6
content_is_shallow number (content.DebugEvent e) = event_is_shallow number e
content_is_shallow number (content.ExecuteReply count e) = in_execute_reply count e
content_is_shallow number (content.IsCompleteReply c) = in_completeness c
content_is_shallow number (content.DebugReply r) =
    in_outcome number r.request_seq r.command r.outcome
content_is_shallow number _ = fits _ 6 refl
