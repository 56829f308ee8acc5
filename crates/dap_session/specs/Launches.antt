-- How a program comes to the board (Debug Adapter Protocol, `launch` and `restart`), and begins.
use Rattle.std.specs.Prelude.{ℕ, Option, Some, None, unwrap_or, Result, Ok, Err, codes, option_to_list}
use Rattle.std.specs.Prelude.{if◌then◌else◌}
use Rattle.base_text.specs.Bytes.{Text}
use Rattle.lab_core.specs.Board.{Board}
use Rattle.dap_requests.specs.declared.request.Launch.{Launch as LaunchOf}
use Rattle.dap_launch.specs.declared.file.FileText.{FileText}
use Rattle.dap_run.specs.declared.program.Phase.{Phase}
use Rattle.dap_run.specs.declared.program.Phase.TheVariants as phase
use Rattle.dap_run.specs.declared.program.Program.{Program}
use Rattle.dap_launch.specs.Files.{program_text}
use Rattle.dap_run.specs.Lives.{in_phase}
use Rattle.dap_run.specs.Programs.{program_of}
use Rattle.dap_launch.specs.Programs.{begun_follow}
use Rattle.dap_breakpoints.specs.Reports.{all_changed}
use Rattle.dap_breakpoints.specs.Arming.{program_board, program_conditions}
use Rattle.dap_launch.specs.Programs.{begun_board, board_if, begun_if}
use Rattle.dap_launch.specs.declared.load.LoadFault.{LoadFault}
use Rattle.dap_run.specs.declared.messages.FollowUp.{FollowUp}
use Rattle.dap_run.specs.declared.messages.FollowUp.TheVariants.{Nothing}
use Rattle.dap_launch.specs.declared.opening.LoadReason.{LoadReason}
use Rattle.dap_launch.specs.declared.opening.LoadReason.TheVariants.{Launch, Restart}
use Rattle.dap_launch.specs.Failures.{load_refusal, load_event}
use Rattle.dap_launch.specs.Loading.{load_result}
use Rattle.dap_launch.specs.Openings.{opening_events, accepted_outcome}
use Rattle.dap_session.specs.States.{SessionState, with_board, with_program, with_conditional}
use Rattle.dap_session.specs.Turns.{Turn, Replied, turn_of, refusing, accepting}

-- ---- how it begins

-- when the configuration is done
abbrev pub beginning : Program → SessionState → Replied
beginning p s = accepting (begun_follow Launch p.launch)
    (with_board (begun_board p s.board)
    (with_program (Some (in_phase phase.Begun p)) s))

-- it begins once
abbrev pub beginning_in : Phase → Program → SessionState → Replied
beginning_in phase.Loaded p s = beginning p s
beginning_in phase.Begun p s = accepting Nothing s
beginning_in (phase.Held how) p s = accepting Nothing s
beginning_in phase.Over p s = accepting Nothing s

abbrev pub beginning_where : Option Program → SessionState → Replied
beginning_where None s = accepting Nothing s
beginning_where (Some p) s = beginning_in p.phase p s

-- ---- how it is loaded

abbrev pub started_follow : LoadReason → Program → SessionState → FollowUp
started_follow cause p s =
    if s.settings.is_configured then begun_follow cause p.launch else Nothing

-- A loaded program, on its board, takes the place of what was there. It begins if the configuration is done.
abbrev pub installing : LoadReason → Program → Board → SessionState → Turn
installing cause p b s =
    let kept = s.settings.points in
    let begins = s.settings.is_configured in
    let follow = started_follow cause p s in
    record {
      outcome = accepted_outcome;
      events = opening_events cause (all_changed s.settings.program s.board p kept b) follow;
      state =
          with_board (board_if begins p (program_board p kept b))
          (with_conditional (program_conditions p kept b) (with_program (Some (begun_if begins p)) s));
    }

-- it can't be loaded
abbrev pub failing : Text → Text → LoadFault → SessionState → Turn
failing path text f s = record (turn_of (refusing (load_refusal text f) s)) {
  events =
      option_to_list (load_event path text f);
}

abbrev pub loading_as : Result (Board × ℕ) LoadFault → LoadReason → LaunchOf → Text → SessionState → Turn
loading_as (Ok (b, start)) cause l text s = installing cause (program_of l start) b s
loading_as (Err f) cause l text s = failing l.program text f s

-- a program's text is loaded
abbrev pub loading : LoadReason → LaunchOf → Text → SessionState → Turn
loading cause l text s = loading_as (load_result l text) cause l text s

-- unless its file has no text
abbrev pub by_text : Result Text Text → LoadReason → LaunchOf → SessionState → Turn
by_text (Ok text) cause l s = loading cause l text s
by_text (Err message) cause l s = turn_of (refusing message s)

-- the program in a file is loaded
abbrev pub loading_file : LoadReason → LaunchOf → Option FileText → SessionState → Turn
loading_file cause l found s = by_text (program_text l found) cause l s

-- ---- the requests

abbrev pub launching_over : Option Program → LaunchOf → Option FileText → SessionState → Turn
launching_over None l found s = loading_file Launch l found s
launching_over (Some p) l found s = turn_of (refusing (codes "launched already") s)

abbrev pub launching : LaunchOf → Option FileText → SessionState → Turn
launching l found s = launching_over s.settings.program l found s

-- by the launch of the program, or another one
abbrev pub restarting_of : Option Program → Option LaunchOf → Option FileText → SessionState → Turn
restarting_of None l found s = turn_of (refusing (codes "nothing is launched") s)
restarting_of (Some p) l found s = loading_file Restart (unwrap_or l p.launch) found s

abbrev pub restarting : Option LaunchOf → Option FileText → SessionState → Turn
restarting l found s = restarting_of s.settings.program l found s
