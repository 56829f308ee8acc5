-- Which states a recorded session represents.
use Rattle.std.specs.Prelude.{◌≡◌, Bool, true, List, Option, Some, None, Result, IfOk}
use Rattle.std.specs.declared.alloc.AllocError.{AllocError}
use Rattle.dap_session.specs.Slices.{slice_end_in}
use Rattle.dap_messages.specs.declared.message.Message.{Message}
use Rattle.dap_history.specs.Histories.{IsHistoryOf}
use Rattle.dap_history.specs.Runs.{board_at, after_rewind}
use Rattle.dap_search.specs.Searches.{IsSearchOf}
use Rattle.dap_search.specs.declared.goal.Goal.{Goal}
use Rattle.dap_run.specs.declared.reply.Reply.{Reply}
use Rattle.dap_session.specs.States.{SessionState}
use Rattle.dap_session.specs.Represents.{SessionFields, RepresentsSession}
use Rattle.dap_session.specs.Rewinds.{can_go_back, target_for}
use Rattle.dap_session.specs.Laws.{SameParts}
use Rattle.dap_record.specs.declared.back.Back.{Back}
use Rattle.dap_record.specs.declared.slice.RecordedSlice.{RecordedSlice}
use Rattle.dap_record.specs.declared.search.SearchPart.{SearchPart}
use Rattle.dap_record.specs.declared.travel.Departure.{Departure}
use Rattle.dap_record.specs.Fields.{RecordingFields, GoalSearchFields, RecordedFields}
use Rattle.dap_record.specs.Recordings.{Recording, RecordedState}
use Rattle.dap_record.specs.Backward.{RecordedReply, goal_of, leaving, going_back_from}
use Rattle.dap_record.specs.Slices.{RecordedTold, slice_limit, recorded_slice, search_told, slice_told}

-- The history is that of the recorded run, and the run is where it is after so many steps: machine, devices
-- and trace are the same.
pub record RepresentsRecording (v : RecordingFields) (r : Recording) (s : SessionState) : Type 0 where
  pub history : IsHistoryOf r.start v.history
  pub log : v.history.log ≡ r.log
  pub count : v.count ≡ r.count
  pub told : v.told ≡ r.told
  pub parts : SameParts (board_at r.start r.log r.count) s.board
  pub can : can_go_back s ≡ true

abbrev pub RepresentsRecordingIf : Option RecordingFields → Option Recording → SessionState → Type 0
RepresentsRecordingIf None None s = Unit {0}
RepresentsRecordingIf (Some v) (Some r) s = RepresentsRecording v r s
RepresentsRecordingIf None (Some r) s = ⊥
RepresentsRecordingIf (Some v) None s = ⊥

-- The search is for this goal, below where the run is; the run was put there when it began.
pub record IsSearchFor (goal : Goal) (r : Recording) (s : SessionState) (v : GoalSearchFields) : Type 0 where
  pub goal_is : v.goal ≡ goal
  pub search : IsSearchOf r.start r.log s.board (target_for goal s) r.count v.search
  pub rewound : s.board ≡ after_rewind (board_at r.start r.log r.count) s.board

abbrev pub RepresentsSearchIf : Option GoalSearchFields → Option Goal → Option Recording → SessionState →
    Type 0
RepresentsSearchIf None None recording s = Unit {0}
RepresentsSearchIf (Some v) (Some goal) (Some r) s = IsSearchFor goal r s v
RepresentsSearchIf v goal recording s = ⊥

pub record RepresentsRecorded (v : RecordedFields) (s : RecordedState) : Type 0 where
  pub session : RepresentsSession v.session s.session
  pub recording : RepresentsRecordingIf v.recording s.recording s.session
  pub search : RepresentsSearchIf v.search s.search s.recording s.session

-- these messages go out, and the session represents the state after them
pub record Tells (t : RecordedTold) (messages : List Message) (new : RecordedFields) : Type 0 where
  pub messages_are : messages ≡ t.messages
  pub represents : RepresentsRecorded new t.state

-- The messages are those of `f` for each state that the session represents. Without memory nothing is said.
abbrev pub TellsAs : (RecordedState → RecordedTold) → RecordedFields → Result (List Message) AllocError
    → RecordedFields → Type 0
TellsAs f old result new =
    (v : RecordedState) → RepresentsRecorded old v → IfOk result (λ messages. Tells (f v) messages new)

-- the same of a slice, in which a search may come to its end
abbrev pub TellsSlice : RecordedFields → Result (List Message) AllocError → RecordedFields → Type 0
TellsSlice old result new = (v : RecordedState) → RepresentsRecorded old v
    → IfOk result (λ messages. (finds : Bool) × Tells (slice_told finds v) messages new)

-- it represents some state
abbrev pub RepresentsSome : RecordedFields → Type 0
RepresentsSome v = (s : RecordedState) × RepresentsRecorded v s

-- the reply is this one, and the session represents the state after it
pub record Replies (rr : RecordedReply) (reply : Reply) (new : RecordedFields) : Type 0 where
  pub outcome : reply.outcome ≡ rr.reply.outcome
  pub follow : reply.follow ≡ rr.reply.follow
  pub represents : RepresentsRecorded new (record {
    session = rr.reply.state;
    recording = rr.recording;
    search = rr.search;
  })

abbrev pub RepliesAs : (RecordedState → RecordedReply) → RecordedFields → Result Reply AllocError
    → RecordedFields → Type 0
RepliesAs f old result new =
    (v : RecordedState) → RepresentsRecorded old v → IfOk result (λ reply. Replies (f v) reply new)

-- ---- parts of the calls

-- it goes back from where this recording is
abbrev pub RepliesFrom : Back → RecordingFields → SessionFields → Result Reply AllocError → RecordedFields
    → Type 0
RepliesFrom c v session result new =
    (r : Recording) (s : SessionState) → RepresentsSession session s → RepresentsRecording v r s
    → IfOk result (λ reply. Replies (going_back_from (Some r) c s) reply new)

-- the recording is of this session's run
abbrev pub IsRecorded : RecordingFields → SessionFields → Type 0
IsRecorded v session = (r : Recording) × (s : SessionState) × RepresentsSession session s
    × RepresentsRecording v r s

-- the reply to a request that goes back, and what the recording, the search and the session represent then
abbrev pub GoesBack : Back → Recording → SessionState → Departure → RecordingFields → SessionFields → Type 0
GoesBack c r s d v session =
    Replies (leaving (goal_of c r.count s) c r s) d.reply
    (record { session = session; recording = Some v; search = d.search })

-- the search of a recorded run
abbrev pub IsSearched : RecordingFields → GoalSearchFields → SessionFields → Type 0
IsSearched v search session = (goal : Goal) × (r : Recording) × (s : SessionState)
    × RepresentsSession session s × RepresentsRecording v r s × IsSearchFor goal r s search

-- a part of a search was made
abbrev pub MakesSearchPart : Goal → Recording → SessionState → SearchPart → RecordingFields → SessionFields
    → Type 0
MakesSearchPart goal r s part v session = (finds : Bool) × Tells
    (search_told finds goal (record { session = s; recording = Some r; search = Some goal })) part.messages
    (record { session = session; recording = Some v; search = part.search })

-- it was told of such a part
abbrev pub TellsPart : RecordingFields → GoalSearchFields → SessionFields → Result (List Message) AllocError
    → RecordedFields
    → Type 0
TellsPart v search session result new =
    (goal : Goal) (r : Recording) (s : SessionState) → RepresentsSession session s
    → RepresentsRecording v r s → IsSearchFor goal r s search
    → IfOk result (λ messages. (finds : Bool) × Tells
    (search_told finds goal (record { session = s; recording = Some r; search = Some goal })) messages new)

-- a slice of a recorded run was made
pub record MakesRecordedSlice (r : Recording) (s : SessionState) (slice : RecordedSlice)
    (session : SessionFields) : Type 0 where
  pub messages : slice.messages ≡ (recorded_slice (slice_end_in (slice_limit r) s) r s).messages
  pub represents : RepresentsRecorded
      (record { session = session; recording = slice.recording; search = None })
      (recorded_slice (slice_end_in (slice_limit r) s) r s).state

-- as RepresentsRecording, of a run that may not go back any more
pub record IsAt (v : RecordingFields) (r : Recording) (s : SessionState) : Type 0 where
  pub history : IsHistoryOf r.start v.history
  pub log : v.history.log ≡ r.log
  pub count : v.count ≡ r.count
  pub told : v.told ≡ r.told
  pub parts : SameParts (board_at r.start r.log r.count) s.board
