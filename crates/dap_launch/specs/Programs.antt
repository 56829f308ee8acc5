-- How a launched program begins (Debug Adapter Protocol, `launch` and `restart`).
use Rattle.std.specs.Prelude.{[], ◌∷◌, Bool, ◌&&◌, if◌then◌else◌}
use Rattle.base_text.specs.Bytes.{Text}
use Rattle.base_text.specs.Latin.{latin_bytes}
use Rattle.lab_core.specs.declared.event.Event.TheVariants.{Typed}
use Rattle.lab_core.specs.Board.{Board}
use Rattle.dap_messages.specs.declared.message.EditorStop.TheVariants.{Entry}
use Rattle.dap_requests.specs.declared.request.Launch.{Launch as LaunchOf}
use Rattle.dap_run.specs.declared.messages.FollowUp.{FollowUp}
use Rattle.dap_run.specs.declared.messages.FollowUp.TheVariants.{Nothing, Continued, Stopped}
use Rattle.dap_launch.specs.declared.opening.LoadReason.{LoadReason}
use Rattle.dap_launch.specs.declared.opening.LoadReason.TheVariants.{Launch, Restart}
use Rattle.dap_run.specs.Boards.{after, begin_run}
use Rattle.dap_run.specs.declared.program.Phase.TheVariants as phase
use Rattle.dap_run.specs.declared.program.Program.{Program}
use Rattle.dap_run.specs.Lives.{in_phase}

-- it is stopped before its first step
abbrev pub pauses : LaunchOf → Bool
pauses l = l.stops_on_entry && l.is_debugged

-- what is typed before its first step
abbrev pub with_input : Text → Board → Board
with_input [] b = b
with_input (character ∷ input) b = after (Typed (latin_bytes (character ∷ input))) b

-- the board after it began
abbrev pub begun_board : Program → Board → Board
begun_board p b = begin_run p.start (pauses p.launch) (with_input p.launch.input b)

-- where it begins at once
abbrev pub begun_if : Bool → Program → Program
begun_if begins p = if begins then in_phase phase.Begun p else p

abbrev pub board_if : Bool → Program → Board → Board
board_if begins p b = if begins then begun_board p b else b

-- A restart may follow a stop, so it tells that the run goes on.
abbrev pub going_follow : LoadReason → FollowUp
going_follow Launch = Nothing
going_follow Restart = Continued

abbrev pub begun_follow : LoadReason → LaunchOf → FollowUp
begun_follow cause l = if pauses l then Stopped Entry else going_follow cause
