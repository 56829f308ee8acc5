use Rattle.std.proofs.lemmas.Bool.{leb-true}
use Rattle.lab_image.proofs.SpanLemmas.{between_beyond}
use Rattle.lab_image.proofs.spans.lie_beyond.Goals as goal

pub returns : goal.returns
returns c = λ yes. between_beyond c.args.spans.now c.args.address c.requires (leb-true _ _ yes)
