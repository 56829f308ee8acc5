use Rattle.std.proofs.Common.{◌≡◌, drop, length}
use Rattle.dap_reading.specs.EditorArgument.{instruction_of}
use Rattle.dap_reading.proofs.ListLemmas.{all_in, then_all}
use Rattle.dap_reading.proofs.editor_arguments.instructions_of.Given as goal

abbrev pub invariant-loop-breakpoint : goal.invariant-loop-breakpoint
invariant-loop-breakpoint l = record {
  so_far : then_all l.list (all_in instruction_of (drop l.breakpoint-index l.breakpoints))
      ≡ all_in instruction_of l.breakpoints;
  count : length l.list ≡ l.breakpoint-index;
}
