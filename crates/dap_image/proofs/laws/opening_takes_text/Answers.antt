use Rattle.dap_image.proofs.Loaded.{opening_takes_text}
use Rattle.dap_image.proofs.laws.opening_takes_text.Goals as goal

pub returns : goal.returns
returns c = opening_takes_text
