use Rattle.std.proofs.Common.{◌≡◌, drop, length}
use Rattle.dap_reading.specs.EditorArgument.{data_breakpoint_of}
use Rattle.dap_reading.proofs.ListLemmas.{all_in, then_all}
use Rattle.dap_reading.proofs.editor_arguments.data_breakpoints_of.Given as goal

abbrev pub invariant-loop-breakpoint : goal.invariant-loop-breakpoint
invariant-loop-breakpoint l = record {
  so_far : then_all l.list (all_in data_breakpoint_of (drop l.breakpoint-index l.breakpoints))
      ≡ all_in data_breakpoint_of l.breakpoints;
  count : length l.list ≡ l.breakpoint-index;
}
