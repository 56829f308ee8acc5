-- What a request did, by its reply.
use Rattle.std.proofs.Common.{◌≡◌, ◌∙◌, Bool, true, false, Option, if◌then◌else◌, refl, ap}
use Rattle.dap_history.specs.declared.input.Input.{Input}
use Rattle.dap_messages.specs.declared.message.EditorOutcome.{EditorOutcome}
use Rattle.dap_run.specs.declared.messages.RequestId.{RequestId}
use Rattle.dap_run.specs.Messages.{events_of, turn_messages}
use Rattle.dap_prompt.specs.Inputs.{is_success}
use Rattle.dap_prompt.specs.declared.outcome.Effect.{Effect}
use Rattle.dap_prompt.specs.declared.outcome.Effect.TheVariants.{Refused}
use Rattle.dap_prompt.specs.declared.outcome.InputReply.{InputReply}
use Rattle.dap_prompt.specs.declared.outcome.RequestOutcome.{RequestOutcome}
use Rattle.dap_prompt.specs.Effects.{effect_by, effect_with}
use Rattle.dap_session.specs.Effects.{outcome_told}
use Rattle.dap_session.specs.Represents.{SessionFields, Makes, Takes}
use Rattle.dap_session.specs.Turns.{Replied, turn_of}

same_effect : (done : Bool) (i j : Option Input) → (done ≡ true → i ≡ j)
    → (if done then effect_by i else Refused) ≡ (if done then effect_by j else Refused)
same_effect true i j same = ap effect_by (same refl)
same_effect false i j same = refl

-- what is told of a reply, and what its request did
pub made_taken : (c : RequestId) (r : Replied) (i : Option Input) (made : InputReply) (o : RequestOutcome)
    (new : SessionFields)
    → Makes r i made new → o.messages ≡ turn_messages c made.reply.outcome (events_of made.reply.follow)
    → o.effect ≡ effect_with made.reply.outcome made.input
    → Takes (outcome_told c (turn_of r) (effect_by i)) o new
made_taken c r i made o new makes told did = record {
  messages = told ∙ (λ k. turn_messages c (makes.replies.outcome k) (events_of (makes.replies.follow k)));
  effect =
      did ∙ (ap (λ (x : EditorOutcome). effect_with x made.input)
      makes.replies.outcome
      ∙ same_effect (is_success r.outcome) made.input i makes.input);
  represents = makes.replies.represents;
}
