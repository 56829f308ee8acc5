use Rattle.std.proofs.Common.{◌≡◌}
use Rattle.lab_core.specs.Board.{Board}
use Rattle.lab_core.specs.Labs.{RepresentsBoard}
use Rattle.dap_disassembly.specs.CodeLines.{lines_among}
use Rattle.dap_disassembly.proofs.code_lines.line_set.Given as goal

abbrev pub invariant-loop-address : goal.invariant-loop-address
invariant-loop-address l = (b : Board) → RepresentsBoard l.fn.lab b
    → l.lines.keys ≡ lines_among l.address b
