-- Lines to which PC can be set (Debug Adapter Protocol, `gotoTargets` and `goto`).
use Rattle.std.specs.Prelude.{ℕ, Option, Some, None, if◌then◌else◌}
use Rattle.base_text.specs.Bytes.{Text}
use Rattle.lab_core.specs.declared.fault.EventFault.TheVariants.{NotStopped}
use Rattle.lab_core.specs.Board.{Board}
use Rattle.dap_messages.specs.declared.message.EditorBody.TheVariants as body
use Rattle.dap_messages.specs.declared.message.EditorStop.TheVariants.{Goto}
use Rattle.dap_messages.specs.declared.message.GotoTarget.{GotoTarget}
use Rattle.dap_run.specs.declared.messages.FollowUp.TheVariants.{Nothing, Stopped}
use Rattle.dap_run.specs.Boards.{after_goto}
use Rattle.dap_run.specs.Refusals.{board_refusal}
use Rattle.dap_disassembly.specs.Targets.{first_target}
use Rattle.dap_run.specs.declared.program.Program.{Program}
use Rattle.dap_session.specs.States.{SessionState, with_board, program_released}
use Rattle.dap_session.specs.Turns.{Replied, refusing, succeeding, accepting}
use Rattle.dap_run.specs.Programs.{program_at}
use Rattle.dap_session.specs.Memory.{is_stopped}

-- only in the program
abbrev pub target_in : Option Program → ℕ → Board → Option GotoTarget
target_in None line b = None
target_in (Some p) line b = first_target b line

abbrev pub finding_target : Text → ℕ → SessionState → Replied
finding_target path line s =
    succeeding (body.Targets (target_in (program_at path s.settings.program) line s.board)) Nothing s

-- PC is set, only while a run is stopped; one that is held at its end can go on from there
abbrev pub going_to : ℕ → SessionState → Replied
going_to target s =
    if is_stopped s.board.run
    then accepting (Stopped Goto) (program_released (with_board (after_goto target s.board) s))
    else refusing (board_refusal NotStopped) s
