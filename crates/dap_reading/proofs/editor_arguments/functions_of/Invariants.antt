use Rattle.std.proofs.Common.{◌≡◌, drop, length}
use Rattle.dap_reading.specs.EditorArgument.{function_of}
use Rattle.dap_reading.proofs.ListLemmas.{all_in, then_all}
use Rattle.dap_reading.proofs.editor_arguments.functions_of.Given as goal

abbrev pub invariant-loop-breakpoint : goal.invariant-loop-breakpoint
invariant-loop-breakpoint l = record {
  so_far : then_all l.functions (all_in function_of (drop l.breakpoint-index l.breakpoints))
      ≡ all_in function_of l.breakpoints;
  count : length l.functions ≡ l.breakpoint-index;
}
