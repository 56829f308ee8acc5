use Rattle.std.proofs.Common.{◌≡◌, drop, is_some}
use Rattle.dap_talk.proofs.LineLemmas.{all_lines}
use Rattle.dap_talk.proofs.arguments.have_lines.Given as goal

abbrev pub invariant-loop-breakpoint : goal.invariant-loop-breakpoint
invariant-loop-breakpoint l = is_some (all_lines (drop l.breakpoint-index l.breakpoints))
    ≡ is_some (all_lines l.breakpoints)
