use Rattle.std.proofs.Common.{◌≡◌, ◌++◌, drop, string_bytes}
use Rattle.cli_engines.specs.Image.{lines_from}
use Rattle.cli_engines.proofs.image.push_lines.Given as goal

-- the text lacks the lines of the rest of the cells
abbrev pub invariant-loop-address : goal.invariant-loop-address
invariant-loop-address l =
    string_bytes l.text ++ lines_from l.address l.printed (drop l.address l.cells) ≡ string_bytes l.fn.text
    ++ lines_from 0 0 l.cells
