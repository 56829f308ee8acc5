-- The messages about a program that was loaded (Debug Adapter Protocol, `launch` and `restart`).
use Rattle.std.specs.Prelude.{List, [], ◌∷◌, ◌++◌, map}
use Rattle.dap_answers.specs.declared.answer.Body.TheVariants.{Empty}
use Rattle.dap_messages.specs.declared.message.EditorBody.TheVariants.{Board}
use Rattle.dap_messages.specs.declared.message.EditorEvent.{EditorEvent}
use Rattle.dap_messages.specs.declared.message.EditorEvent.TheVariants as event
use Rattle.dap_messages.specs.declared.message.EditorOutcome.{EditorOutcome}
use Rattle.dap_messages.specs.declared.message.EditorOutcome.TheVariants.{Success}
use Rattle.dap_messages.specs.declared.message.PlacedBreakpoint.{PlacedBreakpoint}
use Rattle.dap_run.specs.declared.messages.FollowUp.{FollowUp}
use Rattle.dap_launch.specs.declared.opening.LoadReason.{LoadReason}
use Rattle.dap_launch.specs.declared.opening.LoadReason.TheVariants.{Launch, Restart}
use Rattle.dap_run.specs.Messages.{events_of}

-- done, with an empty body
abbrev pub accepted_outcome : EditorOutcome
accepted_outcome = Success (Board Empty)

-- an event for each breakpoint that isn't what it was
abbrev pub changed_events : List PlacedBreakpoint → List EditorEvent
changed_events points = map event.Breakpoint points

-- A launch asks for the configuration; a restart keeps it.
abbrev pub first_events : LoadReason → List EditorEvent
first_events Launch = event.Initialized ∷ []
first_events Restart = []

abbrev pub opening_events : LoadReason → List PlacedBreakpoint → FollowUp → List EditorEvent
opening_events cause changed follow = first_events cause ++ (changed_events changed ++ events_of follow)
