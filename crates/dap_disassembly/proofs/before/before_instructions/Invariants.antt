use Rattle.std.proofs.Common.{◌≡◌, ◌-◌}
use Rattle.lab_core.specs.Board.{Board}
use Rattle.lab_core.specs.Labs.{RepresentsBoard}
use Rattle.dap_disassembly.specs.Instructions.{before_instructions}
use Rattle.dap_disassembly.proofs.before.before_instructions.Given as goal

abbrev pub invariant-loop : goal.invariant-loop
invariant-loop l =
    (b : Board) → RepresentsBoard l.fn.lab b
    → before_instructions b l.first (l.count - l.counter) ≡ before_instructions b l.fn.address l.count
