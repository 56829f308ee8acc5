use Rattle.std.proofs.Common.{take}
use Rattle.std.specs.List.{concat}
use Rattle.jup_wire.specs.Keyed.{HasTaken}
use Rattle.jup_wire.proofs.signature.code_of.Given as goal

abbrev pub invariant-loop-frame : goal.invariant-loop-frame
invariant-loop-frame l = HasTaken l.hasher l.key (concat (take l.frame-index l.frames))
