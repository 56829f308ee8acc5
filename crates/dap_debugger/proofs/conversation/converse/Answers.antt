use Rattle.dap_debugger.proofs.ConversationLemmas.{starts, ends_at_once}
use Rattle.dap_debugger.proofs.conversation.converse.Goals as goal

pub returns-in_default : goal.returns-in_default
returns-in_default g c = ends_at_once _ _

pub loop-init : goal.loop-init
loop-init g c = record { conversed = starts _ _ _ c.in-Ok.ensures }
