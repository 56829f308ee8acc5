use Rattle.kern_laws.specs.Laws.{reply_at_once, due_at_once}
use Rattle.kern_core.specs.Turns.{state_after}
use Rattle.kern_laws.proofs.HistoryLemmas.{found_in_posts}
use Rattle.kern_laws.proofs.ReplyLemmas.{call_prompts}
use Rattle.kern_laws.proofs.laws.requests_are_answered.Goals as goal

pub returns-clause-all : goal.returns-clause-all
returns-clause-all c = found_in_posts reply_at_once due_at_once (λ call s h. call_prompts call s)

pub returns-clause-each : goal.returns-clause-each
returns-clause-each c = λ calls call. call_prompts call (state_after calls)
