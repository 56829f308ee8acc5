use Rattle.std.proofs.Common.{◌≡◌, ◌≤◌, ◌+◌, ◌++◌, length, vec_capacity}
use Rattle.dap_run.proofs.logs.with_more.Given as goal

-- those so far, and those that are left, for which there is room
abbrev pub invariant-loop-message : goal.invariant-loop-message
invariant-loop-message l =
    (l.messages.items ++ l.message-iterator.rest.items ≡ l.fn.messages.items ++ l.fn.more)
    × (length l.messages.items + length l.message-iterator.rest.items ≤ vec_capacity l.messages)
