use Rattle.std.proofs.Common.{length}
use Rattle.dap_debugger.proofs.SendingLemmas.{HasPut}
use Rattle.dap_debugger.proofs.sending.put_messages.Given as goal

abbrev pub invariant-loop-message : goal.invariant-loop-message
invariant-loop-message l = HasPut l.progress l.fn.from l.rest l.messages l.out.items l.fn.out.items

abbrev pub decreases-loop-message : goal.decreases-loop-message
decreases-loop-message l = length l.rest
