use Rattle.std.proofs.Common.{◌≡◌, drop, length}
use Rattle.dap_reading.specs.EditorArgument.{line_of}
use Rattle.dap_reading.proofs.ListLemmas.{all_in, then_all}
use Rattle.dap_reading.proofs.editor_arguments.lines_of.Given as goal

abbrev pub invariant-loop-breakpoint : goal.invariant-loop-breakpoint
invariant-loop-breakpoint l = record {
  so_far : then_all l.lines (all_in (line_of l.numbering) (drop l.breakpoint-index l.breakpoints))
      ≡ all_in (line_of l.numbering) l.breakpoints;
  count : length l.lines ≡ l.breakpoint-index;
}
