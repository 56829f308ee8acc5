use Rattle.std.proofs.Common.{◌≡◌, ◌++◌}
use Rattle.dap_run.specs.Messages.{as_messages}
use Rattle.dap_run.specs.Slices.{log_events}
use Rattle.dap_run.proofs.logs.log_messages.Given as goal

-- those so far, and those of the lines that are left
abbrev pub invariant-loop-line : goal.invariant-loop-line
invariant-loop-line l =
    l.messages.items ++ as_messages (log_events l.line-iterator.rest.items)
    ≡ as_messages (log_events l.fn.lines)
