use Rattle.std.proofs.Common.{◌≡◌, ◌++◌, drop}
use Rattle.lab_image.specs.Spans.{overlay}
use Rattle.lab_image.proofs.spans.push_overlaid.Given as goal

-- what is appended, with what the new spans ahead make of the old ones, is what all of them make
abbrev pub invariant-loop-span : goal.invariant-loop-span
invariant-loop-span l =
    l.all.items ++ overlay l.low l.old (drop l.span-index l.new)
    ≡ l.initial.all.items ++ overlay 0 l.old l.new
