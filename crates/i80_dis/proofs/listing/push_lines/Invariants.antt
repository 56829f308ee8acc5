use Rattle.std.proofs.Common.{◌≡◌, ◌++◌, length, string_bytes}
use Rattle.i80_dis.specs.Shown.{lines_of}
use Rattle.i80_dis.specs.Text.{text_of_lines}
use Rattle.i80_dis.proofs.listing.push_lines.Given as goal

abbrev pub invariant-loop-rest : goal.invariant-loop-rest
invariant-loop-rest l =
    string_bytes l.text ++ text_of_lines (lines_of l.rest)
    ≡ string_bytes l.fn.text ++ text_of_lines (lines_of l.bytes)

abbrev pub decreases-loop-rest : goal.decreases-loop-rest
decreases-loop-rest l = length l.rest
