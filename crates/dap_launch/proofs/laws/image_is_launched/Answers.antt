use Rattle.dap_launch.proofs.Launched.{image_is_launched}
use Rattle.dap_launch.proofs.laws.image_is_launched.Goals as goal

pub returns : goal.returns
returns c = image_is_launched
