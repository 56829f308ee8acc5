use Rattle.std.proofs.Common.{◌≡◌, find, nat_le}
use Rattle.dap_breakpoints.proofs.lines.first_from.Given as goal

abbrev pub invariant-loop-found : goal.invariant-loop-found
invariant-loop-found l = find (nat_le l.line) l.found-iterator ≡ find (nat_le l.line) l.lines.keys
