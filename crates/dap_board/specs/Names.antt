-- The names of refusals, and the events that follow commands.
use Rattle.std.specs.Prelude.{Option, Some, None, codes}
use Rattle.base_text.specs.Bytes.{Text}
use Rattle.lab_core.specs.declared.answer.Stop.{Stop}
use Rattle.lab_core.specs.declared.answer.Stop.TheVariants as stop
use Rattle.lab_core.specs.declared.fault.EventFault.{EventFault}
use Rattle.lab_core.specs.declared.fault.EventFault.TheVariants as fault
use Rattle.dap_answers.specs.declared.answer.Event.{Event}
use Rattle.dap_answers.specs.declared.answer.Event.TheVariants as event
use Rattle.dap_answers.specs.declared.answer.StopReason.{StopReason}
use Rattle.dap_answers.specs.declared.answer.StopReason.TheVariants as reason
use Rattle.dap_talk.specs.declared.command.DapCommand.{DapCommand}
use Rattle.dap_talk.specs.declared.command.DapCommand.TheVariants as command

-- the message of a response that refuses (Debug Adapter Protocol, "Base Protocol": Response)
abbrev pub refusal_name : EventFault → Text
refusal_name fault.OutOfMemory = codes "OutOfMemory"
refusal_name fault.NotRunning = codes "NotRunning"
refusal_name fault.NotStopped = codes "NotStopped"
refusal_name fault.Busy = codes "Busy"
refusal_name fault.SourceNameTaken = codes "SourceNameTaken"
refusal_name fault.NoSource = codes "NoSource"
refusal_name fault.Latched = codes "Latched"
refusal_name fault.BadFrame = codes "BadFrame"
refusal_name fault.BadReference = codes "BadReference"
refusal_name (fault.Assembly cell_fault) = codes "Assembly"
refusal_name fault.NotAttached = codes "NotAttached"
refusal_name fault.Vector = codes "Vector"
refusal_name fault.SourcesFull = codes "SourcesFull"
refusal_name fault.UnknownName = codes "UnknownName"
refusal_name fault.BadValue = codes "BadValue"

-- the event that follows the response once a command is done (Debug Adapter Protocol, "Events")
abbrev pub event_after : DapCommand → Option Event
event_after command.Initialize = Some event.Initialized
event_after command.Continue = Some event.Continued
event_after (command.Step kind granularity) = Some event.Continued
event_after command.Pause = Some (event.Stopped reason.Pause)
event_after other = None

-- the reason of a `stopped` event for a stop of the board
abbrev pub reason_of : Stop → StopReason
reason_of stop.Breakpoint = reason.Breakpoint
reason_of stop.Step = reason.Step
