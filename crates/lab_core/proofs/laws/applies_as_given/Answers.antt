use Rattle.lab_core.proofs.LawLemmas.{applies-given, given-applies}
use Rattle.lab_core.proofs.laws.applies_as_given.Goals as goal

pub returns-clause-only : goal.returns-clause-only
returns-clause-only c = applies-given

pub returns-clause-all : goal.returns-clause-all
returns-clause-all c = given-applies
