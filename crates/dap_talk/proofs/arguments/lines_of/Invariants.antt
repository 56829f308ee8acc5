use Rattle.std.proofs.Common.{◌≡◌, drop}
use Rattle.dap_talk.proofs.LineLemmas.{all_lines, then_lines}
use Rattle.dap_talk.proofs.arguments.lines_of.Given as goal

abbrev pub invariant-loop-breakpoint : goal.invariant-loop-breakpoint
invariant-loop-breakpoint l = then_lines l.lines.items (all_lines
    (drop l.breakpoint-index l.breakpoints)) ≡ all_lines l.breakpoints
