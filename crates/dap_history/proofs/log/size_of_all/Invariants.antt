use Rattle.std.proofs.Common.{◌≡◌, take}
use Rattle.dap_history.specs.Logs.{log_size}
use Rattle.dap_history.proofs.log.size_of_all.Given as goal

abbrev pub invariant-loop-entry : goal.invariant-loop-entry
invariant-loop-entry l = l.size ≡ log_size (take l.entry-index l.entries)
