use Rattle.kern_core.specs.States.{kernel_before_calls}
use Rattle.lab80_web.proofs.LawLemmas.{calls_fold, all_posts}
use Rattle.lab80_web.proofs.laws.session_is_a_kernel.Goals as goal

pub returns-clause-calls : goal.returns-clause-calls
returns-clause-calls c = λ messages. calls_fold messages kernel_before_calls

pub returns-clause-posts : goal.returns-clause-posts
returns-clause-posts c = all_posts
