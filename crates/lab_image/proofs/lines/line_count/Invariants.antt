use Rattle.std.proofs.Common.{◌≡◌, ◌+◌, ◌≤◌, take}
use Rattle.lab_image.specs.Sources.{line_count}
use Rattle.lab_image.proofs.lines.line_count.Given as goal

abbrev pub invariant-loop-index : goal.invariant-loop-index
invariant-loop-index l = (l.count ≡ line_count (take l.index l.text)) × (l.count ≤ l.index + 1)
