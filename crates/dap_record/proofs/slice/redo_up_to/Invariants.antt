use Rattle.std.proofs.Common.{take}
use Rattle.dap_history.specs.Logs.{up_to}
use Rattle.dap_session.specs.States.{SessionState, with_board}
use Rattle.dap_session.specs.Represents.{RepresentsSession}
use Rattle.dap_record.specs.Recordings.{after_inputs}
use Rattle.dap_record.proofs.slice.redo_up_to.Given as goal

abbrev pub invariant-loop-recorded : goal.invariant-loop-recorded
invariant-loop-recorded l = (s : SessionState) → RepresentsSession l.initial.session s
    → RepresentsSession l.session
    (with_board (after_inputs (up_to l.count (take l.recorded-index l.inputs)) s.board) s)
