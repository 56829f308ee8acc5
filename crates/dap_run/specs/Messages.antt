-- Messages to an editor (Debug Adapter Protocol, "Base Protocol").
use Rattle.std.specs.Prelude.{ℕ, List, [], ◌∷◌, ◌++◌, map, Bool, if◌then◌else◌}
use Rattle.dap_messages.specs.declared.message.EditorEvent.{EditorEvent}
use Rattle.dap_messages.specs.declared.message.EditorEvent.TheVariants as event
use Rattle.dap_messages.specs.declared.message.EditorOutcome.{EditorOutcome}
use Rattle.dap_messages.specs.declared.message.Message.{Message}
use Rattle.dap_messages.specs.declared.message.Message.TheVariants as message
use Rattle.dap_requests.specs.declared.request.SupportedEvents.{SupportedEvents}
use Rattle.dap_run.specs.declared.messages.RequestId.{RequestId}
use Rattle.dap_run.specs.declared.messages.FollowUp.{FollowUp}
use Rattle.dap_run.specs.declared.messages.FollowUp.TheVariants as follow

abbrev pub as_messages : List EditorEvent → List Message
as_messages events = map (λ e. message.Event e) events

-- the response to the request with this number and command
abbrev pub response : RequestId → EditorOutcome → Message
response c outcome =
    message.Response (record { request_seq = c.seq; command = c.command; outcome = outcome })

-- the response comes first, and then the events that the request causes
abbrev pub turn_messages : RequestId → EditorOutcome → List EditorEvent → List Message
turn_messages c outcome events = response c outcome ∷ as_messages events

-- The run has ended, and with it the program.
abbrev pub end_events : ℕ → List EditorEvent
end_events code = event.Exited code ∷ event.Terminated ∷ []

abbrev pub event_if : Bool → EditorEvent → List EditorEvent
event_if is_told e = if is_told then e ∷ [] else []

-- what is told of a change by hand to an editor that understands these events
abbrev pub change_events : SupportedEvents → List EditorEvent
change_events supported =
    event_if supported.invalidated event.Invalidated ++ event_if supported.memory event.Memory

-- what follows a response
abbrev pub events_of : FollowUp → List EditorEvent
events_of follow.Nothing = []
events_of follow.Continued = event.Continued ∷ []
events_of (follow.Stopped reason) = event.Stopped reason ∷ []
events_of (follow.Changed supported) = change_events supported
events_of (follow.Ended code) = end_events code
