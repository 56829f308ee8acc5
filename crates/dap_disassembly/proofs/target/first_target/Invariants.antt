use Rattle.std.proofs.Common.{◌≡◌}
use Rattle.lab_core.specs.Board.{Board}
use Rattle.lab_core.specs.Labs.{RepresentsBoard}
use Rattle.dap_disassembly.specs.Targets.{target_among}
use Rattle.dap_disassembly.proofs.target.first_target.Given as goal

abbrev pub invariant-loop-address : goal.invariant-loop-address
invariant-loop-address l = (b : Board) → RepresentsBoard l.fn.lab b
    → l.best ≡ target_among l.address b l.line
