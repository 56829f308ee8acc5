-- Where going back leads, and what the session, its recording and its search represent there.
use Rattle.std.proofs.Common.{◌≡◌, ◌∙◌, ℕ, List, Bool, true, false, ◌&&◌, Option, Some, None, Result}
use Rattle.std.proofs.Common.{IfOk, option_map, nat_lt, refl, sym, ap, subst, true≢false}
use Rattle.std.specs.declared.alloc.AllocError.{AllocError}
use Rattle.lab_core.specs.declared.run_state.RunState.{RunState}
use Rattle.lab_core.specs.Board.{Board}
use Rattle.dap_search.specs.declared.goal.Goal.{Goal}
use Rattle.dap_history.specs.Histories.{HistoryState, KeepsHistory}
use Rattle.dap_history.specs.declared.input.Recorded.{Recorded}
use Rattle.dap_search.specs.Searches.{SearchState, IsSearchOf}
use Rattle.dap_search.proofs.SearchLemmas.{held_search}
use Rattle.dap_history.specs.Runs.{board_at, after_rewind}
use Rattle.dap_run.specs.declared.program.Phase.TheVariants as phase
use Rattle.dap_run.specs.declared.program.Phase.{Phase}
use Rattle.dap_run.specs.declared.program.Program.{Program}
use Rattle.dap_run.specs.Lives.{released_phase, released_program}
use Rattle.dap_run.specs.declared.reply.Reply.{Reply}
use Rattle.dap_run.specs.declared.messages.FollowUp.TheVariants.{Nothing, Stopped}
use Rattle.dap_messages.specs.declared.message.EditorBody.{EditorBody}
use Rattle.dap_messages.specs.declared.message.EditorOutcome.TheVariants.{Success}
use Rattle.dap_session.specs.States.{SessionState}
use Rattle.dap_session.specs.Memory.{is_stopped}
use Rattle.dap_session.specs.Represents as sessions
use Rattle.dap_session.specs.Represents.{SessionFields, RepresentsSession}
use Rattle.dap_slice.specs.declared.conditions.ConditionalBreakpoint.{ConditionalBreakpoint}
use Rattle.dap_slice.specs.Counts.{without_hits}
use Rattle.dap_session.specs.Rewinds.{can_go_back, is_debugged, held_at, put_to, rewound, BeginsSearch}
use Rattle.dap_session.specs.Rewinds.{target_for}
use Rattle.dap_session.specs.Laws.{has_run, has_begun, is_begun}
use Rattle.dap_record.specs.declared.back.Back.{Back}
use Rattle.dap_record.specs.declared.back.Back.TheVariants as back
use Rattle.dap_record.specs.declared.travel.Departure.{Departure}
use Rattle.dap_record.specs.Recordings.{Recording, RecordedState}
use Rattle.dap_record.specs.Backward.{goal_of, count_to, stop_at_count, body_for, leaving}
use Rattle.dap_record.specs.Backward.{going_back_from, going_back_if, going_back}
use Rattle.dap_record.specs.Fields.{RecordingFields, GoalSearchFields, RecordedFields}
use Rattle.dap_record.specs.Represents.{RepresentsRecording, RepresentsRecordingIf}
use Rattle.dap_record.specs.Represents.{RepresentsSome, IsRecorded, GoesBack, Replies}
use Rattle.dap_record.specs.Represents.{RepliesFrom, Tells}
use Rattle.dap_record.specs.Slices.{RecordedTold}
use Rattle.dap_messages.specs.declared.message.Message.{Message}

-- ---- a run that was put back

begun_released : (x : Phase) → is_begun x ≡ true → is_begun (released_phase x) ≡ true
begun_released phase.Loaded is = absurd (true≢false (sym is))
begun_released phase.Begun is = refl
begun_released (phase.Held how) is = refl
begun_released phase.Over is = absurd (true≢false (sym is))

both : (x y : Bool) → (x && y) ≡ true → (x ≡ true) × (y ≡ true)
both true true is = (refl, refl)
both true false is = absurd (true≢false (sym is))
both false y is = absurd (true≢false (sym is))

can_released : (o : Option Program) (run : RunState) → (has_run run && (has_begun o && is_debugged o)) ≡ true
    → (has_begun (option_map released_program o) && is_debugged (option_map released_program o)) ≡ true
can_released None run can = absurd (true≢false (sym (both (has_run run) false can).1))
can_released (Some p) run can =
    let known = both (has_run run) (is_begun p.phase && p.launch.is_debugged) can in
    let parts = both (is_begun p.phase) p.launch.is_debugged known.1 in
    rw (begun_released p.phase parts.0, parts.1) refl

-- it can still go back there
pub can_put : (was : Board) (points : List ConditionalBreakpoint) (s : SessionState) → can_go_back s ≡ true
    → can_go_back (put_to was points s) ≡ true
can_put was points s can = can_released s.settings.program s.board.run can

pub can_held : (was : Board) (s : SessionState) → can_go_back s ≡ true → can_go_back (held_at was s) ≡ true
can_held was s can = can_released s.settings.program s.board.run can

-- the recording of a run that was put to this count
pub recorded_at : (v v' : RecordingFields) (r : Recording) (s : SessionState) (count : ℕ)
    (points : List ConditionalBreakpoint) → RepresentsRecording v r s
    → KeepsHistory r.start v.history v'.history → v'.count ≡ count
    → v'.told ≡ v.told
    → RepresentsRecording v' (record r { count = count }) (put_to (board_at r.start r.log count) points s)
recorded_at v v' r s count points recording keeps count_is told_is = record {
  history = keeps.history;
  log = keeps.log ∙ recording.log;
  count = count_is;
  told = told_is ∙ recording.told;
  parts = record { machine = refl; past = refl; trace = refl };
  can = can_put (board_at r.start r.log count) points s recording.can;
}

-- ---- where it leads

pub arrives : (c : Back) (r : Recording) (s : SessionState) (v v' : RecordingFields) (session : SessionFields)
    (body : EditorBody) (h : HistoryState)
    → goal_of c r.count s ≡ None → RepresentsRecording v r s → KeepsHistory r.start v.history v'.history
    → v'.count ≡ count_to c v.count → v'.told ≡ v.told → body ≡ body_for c → h ≡ v.history
    → RepresentsSession session (rewound (board_at r.start h.log (count_to c v.count)) s)
    → GoesBack c r s
    (record { reply = record { outcome = Success body; follow = Stopped (stop_at_count c) }; search = None })
    v' session
arrives c r s v v' session body h none recording keeps count_is told_is body_is h_is represents =
    let there : count_to c v.count ≡ count_to c r.count = ap (count_to c) recording.count in
    let log_is : h.log ≡ r.log = ap (λ (k : HistoryState). k.log) h_is ∙ recording.log in
    let at : RepresentsSession session (rewound (board_at r.start r.log (count_to c r.count)) s) =
    subst (λ l. RepresentsSession session (rewound (board_at r.start l (count_to c r.count)) s)) log_is
    (subst (λ n. RepresentsSession session (rewound (board_at r.start h.log n) s)) there represents) in
    rw none (record {
      outcome = ap Success body_is;
      follow = refl;
      represents =
          record {
            session = at;
            recording = recorded_at v v' r s (count_to c r.count) (without_hits s.settings.conditional)
                recording keeps (count_is ∙ there) told_is;
            search = tt;
          };
    })

-- the search is the same on a board that was put back, since all but the run is the same there
searches_held : (goal : Goal) (r : Recording) (s : SessionState) (v : SearchState)
    → IsSearchOf r.start r.log s.board (target_for goal s) r.count v
    → IsSearchOf r.start r.log (after_rewind (board_at r.start r.log r.count) s.board) (target_for goal s)
    r.count v
searches_held goal r s v search =
    held_search r.start (board_at r.start r.log r.count) s.board r.log (target_for goal s) r.count v search

pub departs : (c : Back) (goal : Goal) (r : Recording) (s : SessionState) (v : RecordingFields)
    (log : List Recorded) (count : ℕ) (search : SearchState)
    (session : SessionFields) (body : EditorBody)
    → goal_of c r.count s ≡ Some goal → RepresentsRecording v r s → log ≡ r.log → count ≡ r.count
    → body ≡ body_for c → BeginsSearch goal r.start log count s search session
    → GoesBack c r s (record {
      reply = record { outcome = Success body; follow = Nothing };
      search = Some (record { goal = goal; search = search });
    }) v session
departs c goal r s v log count search session body is recording log_is count_is body_is begins =
    let at : BeginsSearch goal r.start r.log r.count s search session =
    subst (λ l. BeginsSearch goal r.start l r.count s search session) log_is
    (subst (λ n. BeginsSearch goal r.start log n s search session) count_is begins) in
    rw is (record {
      outcome = ap Success body_is;
      follow = refl;
      represents =
          record {
            session = at.represents;
            recording =
                record {
                  history = recording.history;
                  log = recording.log;
                  count = recording.count;
                  told = recording.told;
                  parts = record { machine = refl; past = refl; trace = refl };
                  can = can_held (board_at r.start r.log r.count) s recording.can;
                };
            search =
                record {
                  goal_is = refl;
                  search = searches_held goal r s search at.search;
                  rewound = refl;
                };
          };
    })

-- ---- recorded sessions that represent some state

pub some_with : (v : RecordingFields) (session : SessionFields) (o : Option GoalSearchFields) → o ≡ None
    → IsRecorded v session → RepresentsSome (record { session = session; recording = Some v; search = o })
some_with v session o none is =
    subst (λ k. RepresentsSome (record { session = session; recording = Some v; search = k })) (sym none) (
      record { session = is.1; recording = Some is.0; search = None },
      record { session = is.2; recording = is.3; search = tt },
    )

pub some_without : (session : SessionFields) (o : Option RecordingFields) (p : Option GoalSearchFields)
    → sessions.RepresentsSome session → o ≡ None → p ≡ None
    → RepresentsSome (record { session = session; recording = o; search = p })
some_without session o p is none ends =
    subst (λ k. RepresentsSome (record { session = session; recording = k; search = p })) (sym none)
    (subst (λ k. RepresentsSome (record { session = session; recording = None; search = k })) (sym ends) (
      record { session = is.0; recording = None; search = None },
      record { session = is.1; recording = tt; search = tt },
    ))

-- its recording was taken out, where no search goes on
pub some_taken : (session : SessionFields) (o o' : Option RecordingFields) (p p' : Option GoalSearchFields)
    → RepresentsSome (record { session = session; recording = o; search = p }) → o' ≡ None → p' ≡ None
    → RepresentsSome (record { session = session; recording = o'; search = p' })
some_taken session o o' p p' is none ends =
    some_without session o' p' (is.0.session, is.1.session) none ends

-- a session in which no search goes on
pub some_unsearched : (session : SessionFields) (o : Option RecordingFields) (p : Option GoalSearchFields)
    → p ≡ None → RepresentsSome (record { session = session; recording = o; search = None })
    → RepresentsSome (record { session = session; recording = o; search = p })
some_unsearched session o p none some =
    subst (λ k. RepresentsSome (record { session = session; recording = o; search = k })) (sym none) some

pub told_unsearched : {t : RecordedTold} {messages : List Message} (session : SessionFields)
    (o : Option RecordingFields) (p : Option GoalSearchFields) → p ≡ None
    → Tells t messages (record { session = session; recording = o; search = None })
    → Tells t messages (record { session = session; recording = o; search = p })
told_unsearched {t} {messages} session o p none told =
    subst (λ k. Tells t messages (record { session = session; recording = o; search = k })) (sym none) told

-- a search that ended leaves the rest
pub some_ended : (session : SessionFields) (o : Option RecordingFields) (p : Option GoalSearchFields)
    → RepresentsSome (record { session = session; recording = o; search = p })
    → RepresentsSome (record { session = session; recording = o; search = None })
some_ended session o p is = (
  record { session = is.0.session; recording = is.0.recording; search = None },
  record { session = is.1.session; recording = is.1.recording; search = tt },
)

recorded_as : (v : RecordingFields) (session : SessionFields) (o : Option Recording) (s : SessionState)
    → RepresentsSession session s → RepresentsRecordingIf (Some v) o s → IsRecorded v session
recorded_as v session (Some r) s represents recording = (r, s, represents, recording)
recorded_as v session None s represents recording = absurd recording

pub recorded_in : (v : RecordingFields) (session : SessionFields) (o : Option RecordingFields)
    (p : Option GoalSearchFields) → Some v ≡ o
    → RepresentsSome (record { session = session; recording = o; search = p }) → IsRecorded v session
recorded_in v session o p is some =
    let at = subst (λ k. RepresentsSome (record { session = session; recording = k; search = p })) (sym is)
    some in
    recorded_as v session at.0.recording at.0.session at.1.session at.1.recording

-- ---- the reply

pub some_back : (c : Back) (r : Recording) (s : SessionState) (d : Departure) (v : RecordingFields)
    (session : SessionFields) → GoesBack c r s d v session
    → RepresentsSome (record { session = session; recording = Some v; search = d.search })
some_back c r s d v session goes =
    let x = leaving (goal_of c r.count s) c r s in
    (record { session = x.reply.state; recording = x.recording; search = x.search }, goes.represents)

pub replies_back : (c : Back) (r : Recording) (s : SessionState) (d : Departure) (v : RecordingFields)
    (session : SessionFields) → nat_lt 0 r.count ≡ true → GoesBack c r s d v session
    → Replies (going_back_from (Some r) c s) d.reply
    (record { session = session; recording = Some v; search = d.search })
replies_back c r s d v session some goes = rw some goes

pub replies_recorded : (c : Back) (v : RecordingFields) (session : SessionFields) (o : Option Recording)
    (s : SessionState) (result : Result Reply AllocError) (new : RecordedFields)
    → RepresentsSession session s → RepresentsRecordingIf (Some v) o s → RepliesFrom c v session result new
    → IfOk result (λ reply. Replies (going_back_from o c s) reply new)
replies_recorded c v session (Some r) s result new represents recording replies =
    replies r s represents recording
replies_recorded c v session None s result new represents recording replies = absurd recording

pub replies_if : (c : Back) (v : RecordedState) (result : Result Reply AllocError) (new : RecordedFields)
    → can_go_back v.session ≡ true → is_stopped v.session.board.run ≡ true
    → IfOk result (λ reply. Replies (going_back_from v.recording c v.session) reply new)
    → IfOk result (λ reply. Replies (going_back_if c v) reply new)
replies_if c v result new can stopped replies = rw (can, stopped) replies

pub going_back_clear : (c : Back) (v : RecordedState) → (c ≡ back.Unclear → ⊥)
    → going_back_if c v ≡ going_back c v
going_back_clear back.Unclear v clear = absurd (clear refl)
going_back_clear (back.Step by) v clear = refl
going_back_clear back.Continue v clear = refl
going_back_clear (back.Steps n) v clear = refl
going_back_clear back.Start v clear = refl
