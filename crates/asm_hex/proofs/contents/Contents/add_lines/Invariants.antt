use Rattle.std.proofs.Common.{◌≡◌, ◌+◌, ◌≤◌, length}
use Rattle.asm_hex.specs.Contents.{with_lines, lines_of}
use Rattle.asm_hex.proofs.contents.Contents.add_lines.Given as goal

-- the lines that are left still have to be added
abbrev pub invariant-loop-rest : goal.invariant-loop-rest
invariant-loop-rest l = record {
  lines : with_lines (l.count + 1) l.self (lines_of l.rest) ≡ with_lines 1 l.fn.self (lines_of l.text);
  count : l.count + length (lines_of l.rest) ≡ length (lines_of l.text);
  few : l.count + length l.rest ≤ length l.text;
}

abbrev pub decreases-loop-rest : goal.decreases-loop-rest
decreases-loop-rest l = length l.rest
