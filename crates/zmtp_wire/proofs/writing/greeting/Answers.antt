use Rattle.zmtp_wire.proofs.WritingLemmas.{greeting_is}
use Rattle.zmtp_wire.proofs.writing.greeting.Goals as goal

pub returns-clause-accepted : goal.returns-clause-accepted
returns-clause-accepted c = greeting_is
