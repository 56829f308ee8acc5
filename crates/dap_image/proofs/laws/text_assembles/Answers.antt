use Rattle.dap_image.proofs.Assembled.{text_assembles}
use Rattle.dap_image.proofs.laws.text_assembles.Goals as goal

pub returns : goal.returns
returns c = text_assembles
