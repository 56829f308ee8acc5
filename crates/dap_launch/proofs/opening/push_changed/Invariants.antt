use Rattle.std.proofs.Common.{◌≡◌, ◌++◌}
use Rattle.dap_run.specs.Messages.{as_messages}
use Rattle.dap_launch.specs.Openings.{changed_events}
use Rattle.dap_launch.proofs.opening.push_changed.Given as goal

-- what was told so far, and what is told of the breakpoints that are left
abbrev pub invariant-loop-point : goal.invariant-loop-point
invariant-loop-point l =
    l.messages ++ as_messages (changed_events l.point-iterator.rest.items)
    ≡ l.fn.messages ++ as_messages (changed_events l.fn.points)
