use Rattle.kern_render.proofs.RenderLemmas.{one_rendering}
use Rattle.kern_render.proofs.laws.has_one_rendering.Goals as goal

pub returns : goal.returns
returns c = one_rendering
