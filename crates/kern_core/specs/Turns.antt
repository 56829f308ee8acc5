-- The turn of each call, and the kernel after a list of calls.
use Rattle.std.specs.Prelude.{List, Result}
use Rattle.std.specs.List.{fold}
use Rattle.kern_calls.specs.declared.call.Call.{Call}
use Rattle.kern_calls.specs.declared.call.Call.TheVariants as call
use Rattle.kern_calls.specs.declared.call.Reply.{Reply}
use Rattle.kern_calls.specs.declared.fault.KernelFault.{KernelFault}
use Rattle.kern_core.specs.States.{KernelState, Turn, kernel_before_calls, after}
use Rattle.kern_core.specs.Connections.{join_turn, leave_turn, subscribing, fetch_turn}
use Rattle.kern_core.specs.Requests.{arriving}
use Rattle.kern_core.specs.Slices.{slicing}

unfoldable pub turn : Call → KernelState → Turn
turn (call.Join channel identity) s = join_turn channel identity s
turn (call.Leave n) s = leave_turn n s
turn (call.Subscribe n c) s = subscribing n c.wants c.prefix c.unix_seconds s
turn (call.Arrive n c) s = arriving n c.request c.unix_seconds s
turn (call.Slice unix_seconds) s = slicing unix_seconds s
turn (call.Fetch n from) s = fetch_turn n from s

abbrev pub next : KernelState → Call → KernelState
next s call = after (turn call s)

-- the kernel after these calls, in their order
abbrev pub state_after : List Call → KernelState
state_after calls = fold next kernel_before_calls calls

-- the answer to a call after these
abbrev pub answer_after : List Call → Call → Result Reply KernelFault
answer_after calls call = (turn call (state_after calls)).answer
