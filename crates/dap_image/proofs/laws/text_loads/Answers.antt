use Rattle.dap_image.proofs.Loaded.{text_loads}
use Rattle.dap_image.proofs.laws.text_loads.Goals as goal

pub returns : goal.returns
returns c = text_loads
