use Rattle.std.proofs.Common.{◌∙◌, [], ◌∷◌, ap}
use Rattle.dap_answers.specs.declared.answer.Outcome.{Outcome}
use Rattle.kern_exec.specs.Letters.{between_busy_and_idle}
use Rattle.kern_core.specs.Requests.{debug_reply}
use Rattle.kern_core.proofs.state.debug.refusal_letters.Goals as goal

pub returns-in-Ok-clause-letters : goal.returns-in-Ok-clause-letters
returns-in-Ok-clause-letters c = λ connections n r d prepared.
    c.debug_letters.ensures connections n r d prepared
    ∙ ap (λ (o : Outcome). between_busy_and_idle connections r.header
    (debug_reply n r d o ∷ [])) c.in-Ok.ensures
