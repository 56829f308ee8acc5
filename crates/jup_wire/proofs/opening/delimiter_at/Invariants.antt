use Rattle.std.proofs.Common.{take}
use Rattle.jup_wire.specs.Wire.{NoDelimiter}
use Rattle.jup_wire.proofs.opening.delimiter_at.Given as goal

abbrev pub invariant-loop-at : goal.invariant-loop-at
invariant-loop-at l = NoDelimiter (take l.at l.frames)
