use Rattle.std.proofs.Common.{length}
use Rattle.dap_debugger.proofs.SendingLemmas.{HasPutLists}
use Rattle.dap_debugger.proofs.sending.put_all.Given as goal

abbrev pub invariant-loop-messages : goal.invariant-loop-messages
invariant-loop-messages l = HasPutLists l.progress l.fn.from l.rest l.lists l.out.items l.fn.out.items

abbrev pub decreases-loop-messages : goal.decreases-loop-messages
decreases-loop-messages l = length l.rest
