use Rattle.std.proofs.Common.{◌∙◌, sym}
use Rattle.std.proofs.lemmas.Bool.{false≢true}
use Rattle.kern_net.proofs.SubmitLemmas.{refused_message}
use Rattle.kern_net.proofs.submitting.message_in.Goals as goal

pub returns-else-eq-clause-none : goal.returns-else-eq-clause-none
returns-else-eq-clause-none c =
    refused_message _ _ _ (λ e. let same = rw e at c.eq.ensures in false≢true (sym c.if-eq.false ∙ same))
    c.in-Err.ensures.only
