use Rattle.lab_core.proofs.LawLemmas.{runs_once}
use Rattle.lab_core.proofs.laws.one_answer.Goals as goal

pub returns : goal.returns
returns c = runs_once
