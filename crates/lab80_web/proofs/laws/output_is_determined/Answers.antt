use Rattle.lab80_web.proofs.LawLemmas.{one_spelling, one_stream}
use Rattle.lab80_web.proofs.laws.output_is_determined.Goals as goal

pub returns-clause-messages : goal.returns-clause-messages
returns-clause-messages c = one_spelling

pub returns-clause-stream : goal.returns-clause-stream
returns-clause-stream c = one_stream
