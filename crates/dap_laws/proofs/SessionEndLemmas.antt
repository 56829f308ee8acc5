-- What is told of the end of a run.
use Rattle.std.proofs.Common.{◌≡◌, ◌∙◌, ℕ, List, ◌++◌, Bool, true, false, not, ◌||◌, Option, Some}
use Rattle.std.proofs.Common.{None, true≢false, codes, if◌then◌else◌, option_map, refl, sym, ap}
use Rattle.std.proofs.Common.{subst, append_assoc, filter_map}
use Rattle.i80_devs.specs.Console.{written_to_console}
use Rattle.lab_core.specs.declared.answer.End.{End}
use Rattle.lab_core.specs.declared.answer.SliceOutcome.{SliceOutcome}
use Rattle.lab_core.specs.declared.answer.SliceOutcome.TheVariants as outcome
use Rattle.lab_core.specs.declared.run_state.RunState.TheVariants.{Stopped}
use Rattle.lab_core.specs.Board.{Board}
use Rattle.lab_core.specs.Slices.{traffic_of, after_steps, left_by}
use Rattle.dap_session.specs.Slices.{slice_end_in, after_slice_in}
use Rattle.dap_requests.specs.declared.request.BoardCommand.TheVariants as command
use Rattle.dap_board.specs.Commands.{command_result}
use Rattle.dap_messages.specs.declared.message.EditorEvent.{EditorEvent}
use Rattle.dap_requests.specs.declared.request.RequestContent.TheVariants as asked
use Rattle.dap_run.specs.declared.end.EndPolicy.{EndPolicy}
use Rattle.dap_run.specs.declared.end.EndPolicy.TheVariants.{Exit, Hold}
use Rattle.dap_run.specs.declared.messages.FollowUp.TheVariants as follow
use Rattle.dap_run.specs.Ends.{exit_code, policy_at, left_at_end}
use Rattle.dap_run.specs.Messages.{as_messages, end_events, events_of}
use Rattle.dap_run.specs.Slices.{log_events, console_events, line_events, exception_events, policy_events}
use Rattle.dap_slice.specs.Logs.{logs_before}
use Rattle.dap_run.specs.Slices.{asks_line}
use Rattle.dap_run.proofs.SliceLemmas.{told-append}
use Rattle.dap_run.specs.declared.program.Program.{Program}
use Rattle.dap_run.specs.Lives.{held_for, policy_of, ended_phase, ended_program, end_in, end_of}
use Rattle.dap_requests.specs.declared.request.ExceptionFilters.{ExceptionFilters}
use Rattle.lab_core.specs.declared.answer.End.TheVariants as end
use Rattle.dap_session.specs.States.{SessionState, wants_slice}
use Rattle.dap_session.specs.Requests.{resuming_from, asking_unless, turn}
use Rattle.dap_session.specs.Slices.{slicing, slice_told}
use Rattle.dap_session.specs.Laws.{SameParts, EndIsTold}

same_left : (policy : EndPolicy) (b : Board) → SameParts b (left_at_end policy b)
same_left Exit b = record { machine = refl; past = refl; trace = refl }
same_left Hold b = record { machine = refl; past = refl; trace = refl }

stopped_left : (policy : EndPolicy) (b : Board) → policy ≡ Hold → (left_at_end policy b).run ≡ Stopped
stopped_left Exit b is = absurd cc
stopped_left Hold b is = refl

end_in_phase : (policy : EndPolicy) (how : End) → policy ≡ Hold → end_in (ended_phase policy how) ≡ Some how
end_in_phase Exit how is = absurd cc
end_in_phase Hold how is = refl

end_held : (f : ExceptionFilters) (o : Option Program) (how : End) → policy_of f o how ≡ Hold
    → end_of (option_map (ended_program f how) o) ≡ Some how
end_held f None end.Halted is = absurd cc
end_held f None (end.Undefined opcode pc) is = absurd cc
end_held f (Some p) how is = end_in_phase (policy_at (held_for f p.launch) how) how is

resumed : (o : Option End) (how : End) (s : SessionState) → o ≡ Some how → s.board.run ≡ Stopped
    → (resuming_from o command.Continue s).follow ≡ follow.Ended (exit_code how)
unfolding command_result
resumed o how s is stopped = rw (is, stopped) refl

no_objection : (b : Bool) → b ≡ true
    → (if not (b || false) then Some (codes "not initialized") else
    if not true then Some (codes "bad arguments") else None) ≡ None
no_objection true is = refl
no_objection false is = absurd (true≢false (sym is))

continued : (how : End) (s : SessionState) → s.settings.is_initialized ≡ true
    → end_of s.settings.program ≡ Some how → s.board.run ≡ Stopped
    → (turn (asked.Board command.Continue) None s).events ≡ end_events (exit_code how)
unfolding turn
continued how s initialized is stopped =
    ap (λ o. (asking_unless o (asked.Board command.Continue) None s).events)
    (no_objection s.settings.is_initialized initialized)
    ∙ ap events_of (resumed (end_of s.settings.program) how s is stopped)

told_last : (first second third last : List EditorEvent)
    → as_messages (first ++ (second ++ (third ++ last)))
    ≡ as_messages (first ++ (second ++ third)) ++ as_messages last
told_last first second third last =
    ap as_messages (sym (append_assoc first (second ++ third) last
    ∙ ap (λ rest. first ++ rest) (append_assoc second third last)))
    ∙ told-append (first ++ (second ++ third)) last

-- and with others before them
told_behind : (first front last all : List EditorEvent)
    → as_messages all ≡ as_messages front ++ as_messages last
    → as_messages (first ++ all) ≡ (as_messages first ++ as_messages front) ++ as_messages last
told_behind first front last all is =
    told-append first all
    ∙ (ap (λ rest. as_messages first ++ rest) is
    ∙ sym (append_assoc (as_messages first) (as_messages front) (as_messages last)))

ended_by : (k : ℕ) (how : End) (s : SessionState) → s.settings.is_initialized ≡ true
    → EndIsTold how s (left_by (outcome.End how) (after_steps k s.board)) (slicing (k, outcome.End how) s)
ended_by k how s initialized =
    let policy = policy_of s.settings.filters s.settings.program how in
    let b = left_by (outcome.End how) (after_steps k s.board) in
    let console = console_events (filter_map written_to_console (traffic_of k s.board)) in
    let line = line_events (asks_line s.settings.has_asked k (traffic_of k s.board)) in
    let logs = log_events (logs_before s.settings.conditional k s.board) in
    let front = console ++ (line ++ exception_events how) in
    record {
      parts = same_left policy b;
      before = as_messages logs ++ as_messages front;
      told = told_behind logs front (policy_events policy how) _
          (told_last console line (exception_events how) (policy_events policy how));
      later = λ is.
          continued how (slicing (k, outcome.End how) s).state initialized
          (end_held s.settings.filters s.settings.program how is) (stopped_left policy b is);
    }

pub ended_so : (p : ℕ × SliceOutcome) (how : End) (s : SessionState) → s.settings.is_initialized ≡ true
    → p.1 ≡ outcome.End how → EndIsTold how s (left_by p.1 (after_steps p.0 s.board)) (slicing p s)
ended_so (k, ending) how s initialized is =
    subst (λ o. EndIsTold how s (left_by o (after_steps k s.board)) (slicing (k, o) s)) (sym is)
    (ended_by k how s initialized)

pub end_told_so : (how : End) (s : SessionState) → wants_slice s ≡ true → s.settings.is_initialized ≡ true
    → (slice_end_in 4096 s).1 ≡ outcome.End how → EndIsTold how s (after_slice_in 4096 s) (slice_told s)
unfolding slice_told
end_told_so how s wants initialized is = rw wants (ended_so (slice_end_in 4096 s) how s initialized is)
