use Rattle.std.proofs.Common.{◌∙◌, sym}
use Rattle.dap_scopes.proofs.FrameLemmas.{has_age}
use Rattle.dap_scopes.proofs.frame.frame_at.Goals as goal

pub unreachable-requires : goal.unreachable-requires
unreachable-requires c = has_age c.args.frames.now c.args.age c.requires (sym c.get.ensures ∙ c.in-None.is)
