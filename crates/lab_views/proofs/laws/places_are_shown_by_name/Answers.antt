use Rattle.lab_views.proofs.NameLemmas.{shown_in_upper_case}
use Rattle.lab_views.proofs.laws.places_are_shown_by_name.Goals as goal

pub returns-clause-name : goal.returns-clause-name
returns-clause-name c = shown_in_upper_case
