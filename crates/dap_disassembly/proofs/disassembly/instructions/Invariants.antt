use Rattle.std.proofs.Common.{◌≡◌, ◌-◌, ◌++◌}
use Rattle.lab_core.specs.Board.{Board}
use Rattle.lab_core.specs.Labs.{RepresentsBoard}
use Rattle.dap_disassembly.specs.Disassembly.{instructions_from}
use Rattle.dap_disassembly.proofs.disassembly.instructions.Given as goal

abbrev pub invariant-loop : goal.invariant-loop
invariant-loop l =
    (b : Board) → RepresentsBoard l.fn.lab b
    → l.lines ++ instructions_from b l.path l.operands l.next (l.count - l.counter)
    ≡ instructions_from b l.path l.operands l.fn.address l.count
