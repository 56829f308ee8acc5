-- A session's board represents some board after each change.
use Rattle.std.proofs.Common.{◌≡◌, ◌∙◌, ℕ, List, ◌&&◌, Bool, true, not, Result, Ok, Err, refl}
use Rattle.std.proofs.Common.{sym, ap, subst, true≢false}
use Rattle.lab_core.specs.declared.fault.EventFault.{EventFault}
use Rattle.lab_core.specs.declared.fault.EventFault.TheVariants.{OutOfMemory}
use Rattle.lab_core.specs.declared.run_state.RunState.{RunState}
use Rattle.lab_core.specs.declared.run_state.RunState.TheVariants.{NoRun, Running, Stopped}
use Rattle.lab_core.specs.Board.{Board}
use Rattle.lab_core.specs.Slices.{after_steps, left_by}
use Rattle.lab_core.specs.Labs.{LabState, RepresentsBoard, MatchesResult}
use Rattle.dap_slice.specs.declared.conditions.ConditionalBreakpoint.{ConditionalBreakpoint}
use Rattle.dap_slice.specs.SliceEnds.{slice_end_within}
use Rattle.dap_answers.specs.declared.answer.Body.{Body}
use Rattle.dap_board.specs.Commands.{Performed, Performs}
use Rattle.dap_run.specs.Boards.{RepresentsSomeBoard}
use Rattle.dap_run.specs.declared.slice.Slice.{Slice}
use Rattle.dap_requests.specs.declared.request.ExceptionFilters.{ExceptionFilters}
use Rattle.dap_run.specs.Ends.{held_at_end}
use Rattle.dap_run.specs.Slices.{IsSliceOf}
use Rattle.dap_messages.specs.declared.message.EditorBody.TheVariants.{Board as OfBoard}
use Rattle.dap_messages.specs.declared.message.EditorOutcome.TheVariants.{Success}
use Rattle.dap_run.specs.declared.messages.FollowUp.TheVariants.{Ended}
use Rattle.dap_run.specs.Boards.{after}
use Rattle.lab_core.specs.declared.event.Event.TheVariants.{Interrupt}
use Rattle.dap_run.specs.declared.reply.Reply.{Reply}
use Rattle.dap_session.specs.Requests.{finish_done}
use Rattle.dap_session.specs.States.{SessionState, with_board, program_over, is_running, wants_slice}
use Rattle.dap_session.specs.Represents.{SessionFields, RepresentsSession, Replies}

-- a command
pub stands_performed : (f : Board → Performed) (old new : LabState) (r : Result Body EventFault)
    → Performs f old r new → RepresentsSomeBoard old → RepresentsSomeBoard new
stands_performed f old new (Ok x) done (b, represents) =
    by (f b) (done.0 b represents (λ (e : Ok x ≡ Err OutOfMemory). cc))
  where
    by : (p : Performed) → MatchesResult b p (Ok x) new → RepresentsSomeBoard new
    by (Ok (x', b')) did = (b', did.1)
    by (Err fault) did = (b, did.1)
stands_performed f old new (Err fault) done some = subst RepresentsSomeBoard (sym done.1) some

running_is : (r : RunState) (w : Bool) → (is_running r && w) ≡ true → r ≡ Running
running_is NoRun w is = absurd (true≢false (sym is))
running_is Running w is = refl
running_is Stopped w is = absurd (true≢false (sym is))

-- a slice of a run that goes on
pub stands_sliced : (points : List ConditionalBreakpoint) (n : ℕ) (held : ExceptionFilters) (asked : Bool)
    (old : SessionFields) (lab new : LabState) (slice : Slice)
    → lab ≡ old.lab → ((s : SessionState) → RepresentsSession old s → wants_slice s ≡ true)
    → ((b : Board) → RepresentsBoard lab b → b.run ≡ Running
    → IsSliceOf (slice_end_within points n b)
    (record { points = points; held = held; has_asked = asked }) b slice new)
    → RepresentsSomeBoard lab → RepresentsSomeBoard new
stands_sliced points n held asked old lab new slice same wants made (b, represents) =
    let end = slice_end_within points n b in
    let s : SessionState = record { board = b; settings = old.settings } in
    let viewed : RepresentsSession old s =
    record { board = subst (λ l. RepresentsBoard l b) same represents; settings = refl } in
    let running : b.run ≡ Running = running_is b.run (not old.settings.waits) (wants s viewed) in (
      held_at_end held end.1 (left_by end.1 (after_steps end.0 b)),
      (made b represents
          running).represents,
    )

abbrev pub Interrupts : SessionFields → SessionFields → Type 0
Interrupts mid new = (t : SessionState) → RepresentsSession mid t
    → RepresentsSession new (program_over (with_board (after Interrupt t.board) t))

-- a command after which the program is over
pub stands_finished : (code : ℕ) (x : Body) (f : Board → Performed) (s : SessionState) (old : LabState)
    (r : Result Body EventFault) (mid new : SessionFields) (reply : Reply)
    → r ≡ Ok x → Performs f old r mid.lab → RepresentsBoard old s.board → mid.settings ≡ s.settings
    → Interrupts mid new → reply ≡ record { outcome = Success (OfBoard x); follow = Ended code }
    → Replies (finish_done (f s.board) code s) reply new
stands_finished code x f s old (Ok y) mid new reply is done represents same ends said =
    by (f s.board) (done.0 s.board represents (λ (e : Ok y ≡ Err OutOfMemory). cc))
  where
    by : (p : Performed) → MatchesResult s.board p (Ok y) mid.lab → Replies (finish_done p code s) reply new
    by (Ok (z, b)) did =
        let first = did.0 in
        let e : x ≡ z = cc in
        record {
          outcome = ap (λ (q : Reply). q.outcome) said ∙ ap (λ (w : Body). Success (OfBoard w)) e;
          follow = ap (λ (q : Reply). q.follow) said;
          represents = ends (with_board b s) (record { board = did.1; settings = same });
        }
    by (Err fault) did = let first = did.0 in absurd cc
stands_finished code x f s old (Err fault) mid new reply is done represents same ends said = absurd cc
