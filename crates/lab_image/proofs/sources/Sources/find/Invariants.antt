use Rattle.std.proofs.Common.{◌≡◌, drop}
use Rattle.lab_image.specs.Sources.{source_from}
use Rattle.lab_image.proofs.sources.Sources.find.Given as goal

abbrev pub invariant-loop-number : goal.invariant-loop-number
invariant-loop-number l =
    source_from 0 l.fn.self l.path ≡ source_from l.number (drop l.number l.fn.self) l.path
