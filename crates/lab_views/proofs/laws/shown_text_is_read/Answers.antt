use Rattle.lab_views.proofs.ValueLemmas.{shown_is_read}
use Rattle.lab_views.proofs.laws.shown_text_is_read.Goals as goal

pub returns : goal.returns
returns c = shown_is_read
