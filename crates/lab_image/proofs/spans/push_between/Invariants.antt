use Rattle.std.proofs.Common.{◌≡◌, ◌++◌, drop}
use Rattle.lab_image.specs.Spans.{between}
use Rattle.lab_image.proofs.spans.push_between.Given as goal

-- what is appended, with what the spans ahead have, is what all have
abbrev pub invariant-loop-span : goal.invariant-loop-span
invariant-loop-span l =
    l.all.items ++ between l.low l.high (drop l.span-index l.rest) ≡ l.initial.all.items
    ++ between l.low l.high l.rest
