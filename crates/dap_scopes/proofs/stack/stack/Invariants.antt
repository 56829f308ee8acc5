use Rattle.std.proofs.Common.{◌≡◌, map}
use Rattle.std.specs.List.{range_with_len}
use Rattle.lab_core.specs.Board.{Board}
use Rattle.lab_core.specs.Labs.{RepresentsBoard}
use Rattle.dap_scopes.specs.Stack.{stack_address, word_row}
use Rattle.dap_scopes.proofs.stack.stack.Given as goal

abbrev pub invariant-loop-offset : goal.invariant-loop-offset
invariant-loop-offset l =
    (b : Board) → RepresentsBoard l.fn.lab b
    → l.rows
    ≡ map (λ index. word_row l.format b (stack_address b.machine.regs.sp index)) (range_with_len l.start
    l.offset)
