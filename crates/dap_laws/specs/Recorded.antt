-- What the laws say of a session whose run is recorded.
use Rattle.std.specs.Prelude.{◌≡◌, ◌≤◌, ◌<◌, ◌+◌, ◌-◌, ◌⊎◌, ℕ, List, [], ◌∷◌, ◌++◌, Bool, true, false}
use Rattle.std.specs.Prelude.{Option, Some, None, if◌then◌else◌}
use Rattle.std.specs.List.{filter_map}
use Rattle.base_text.specs.Bytes.{Bytes, Text}
use Rattle.lab_core.specs.declared.answer.End.{End}
use Rattle.lab_core.specs.declared.answer.SliceOutcome.TheVariants as outcome
use Rattle.lab_core.specs.Slices.{after_steps}
use Rattle.dap_session.specs.Slices.{slice_end_in}
use Rattle.dap_messages.specs.declared.message.EditorOutcome.TheVariants.{Refused}
use Rattle.dap_search.specs.declared.goal.Goal.{Goal}
use Rattle.dap_history.specs.Logs.{Ascends, up_to}
use Rattle.dap_history.specs.Runs.{board_at}
use Rattle.dap_search.specs.Goals.{passes}
use Rattle.dap_run.specs.Lives.{is_live}
use Rattle.dap_run.specs.declared.messages.RequestId.{RequestId}
use Rattle.dap_run.specs.Messages.{as_messages}
use Rattle.dap_session.specs.States.{SessionState, wants_slice, with_waits, has_watch_commands}
use Rattle.dap_session.specs.Rewinds.{can_go_back, after_search, target_for}
use Rattle.dap_session.specs.Slices.{Told, caller_of}
use Rattle.dap_session.specs.Laws.{SameParts, LeavesAll, written_in, asks_to_load, has_run, has_begun}
use Rattle.dap_session.specs.Laws.{events_in, ends_told, ends_between}
use Rattle.dap_record.specs.Recordings.{Recording, RecordedState, recorded_before_requests, inputs_ahead}
use Rattle.dap_record.specs.Backward.{found_event}
use Rattle.dap_record.specs.Turns.{RecordedTurn}
use Rattle.dap_record.specs.Slices.{RecordedTold, Input, request, slice, step, play_all, slice_limit}

-- the session after these inputs
abbrev pub after_all : List Input → RecordedState
after_all inputs = (play_all inputs recorded_before_requests).state

-- ---- the board

-- The recording is of this session's run: the board is the one that the recorded run has after so many steps,
-- with its inputs in the order in which they came. The run can go back, and what it wrote so far was told.
pub record IsRecordingOf (r : Recording) (s : SessionState) : Type 0 where
  pub parts : SameParts (board_at r.start r.log r.count) s.board
  pub ordered : Ascends 0 r.log
  pub can : can_go_back s ≡ true
  pub told : r.count ≤ r.told

abbrev pub IsRecordingOfIf : Option Recording → SessionState → Type 0
IsRecordingOfIf None s = Unit {0}
IsRecordingOfIf (Some r) s = IsRecordingOf r s

-- Two runs are at the same place: they began on the same board, and have made as many steps with the same
-- inputs so far.
pub record IsSamePlace (r r' : Recording) : Type 0 where
  pub start : r'.start ≡ r.start
  pub count : r'.count ≡ r.count
  pub inputs : up_to r.count r'.log ≡ up_to r.count r.log

abbrev pub IsSamePlaceIf : Option Recording → Option Recording → Type 0
IsSamePlaceIf (Some r) (Some r') = IsSamePlace r r'
IsSamePlaceIf r r' = ⊥

-- ---- searches

-- it is the last count below n that passes the test, or 0 if none passes
pub record IsLastBelow (test : ℕ → Bool) (n count : ℕ) : Type 0 where
  pub found : ((count < n) × (test count ≡ true)) ⊎ (count ≡ 0)
  pub missed : (m : ℕ) → count < m → m < n → test m ≡ false

-- The run was put to the last count below this recording's at which it passes, or to its start, and the
-- editor is told why it is stopped there.
pub record MeetsGoal (goal : Goal) (r : Recording) (s : SessionState) (t : RecordedTold) : Type 0 where
  pub count : ℕ
  pub last : IsLastBelow (passes (target_for goal s) r.start r.log s.board) r.count count
  pub messages : t.messages ≡ as_messages (found_event goal t.state.session ∷ [])
  pub state : t.state ≡ record {
    session = after_search r.start r.log r.count count s;
    recording = Some (record r { count = count });
    search = None;
  }

-- ---- responses

-- the request of an input
abbrev pub request_in : Input → Option RequestId
request_in (request r found) = Some (caller_of r)
request_in (slice finds) = None

abbrev pub callers_asking : List Input → List RequestId
callers_asking inputs = filter_map request_in inputs

-- ---- the console

-- The bytes that the new steps of a slice write by OUT 1. A run that went back first makes again the steps
-- whose output was told.
abbrev pub written_of : Option Recording → SessionState → Bytes
written_of None s = written_in (slice_end_in 4096 s) s.board
written_of (Some r) s =
    let again = r.told - r.count in
    let end = slice_end_in (slice_limit r) s in
    written_in (end.0 - again, end.1) (after_steps again s.board)

-- a search writes nothing
abbrev pub written_while : Option Goal → RecordedState → Bytes
written_while None v = if wants_slice v.session then written_of v.recording v.session else []
written_while (Some goal) v = []

abbrev pub written_by : Input → RecordedState → Bytes
written_by (request r found) v = []
written_by (slice finds) v = written_while v.search v

-- the bytes that the steps of all slices write, in order, but for those that are made again
abbrev pub all_written : List Input → RecordedState → Bytes
all_written [] v = []
all_written (input ∷ inputs) v = written_by input v ++ all_written inputs (step input v).state

-- ---- requests that change nothing

pub record LeavesRecorded (v v' : RecordedState) : Type 0 where
  pub session : LeavesAll v.session v'.session
  pub recording : v'.recording ≡ v.recording
  pub search : v'.search ≡ v.search

-- what is refused leaves the board, the program, the breakpoints, the recording and the search
abbrev pub RefusalLeaves : RecordedState → RecordedTurn → Type 0
RefusalLeaves v t = (text : Text) → t.outcome ≡ Refused text → LeavesRecorded v t.state

-- the same session; a run that waits is tried again
abbrev pub tried_again : RecordedState → RecordedState
tried_again v = record v { session = with_waits false v.session }

-- the launch doesn't let a watch be a line of the prompt
abbrev pub WatchesOnlyLook : RecordedState → Type 0
WatchesOnlyLook v = has_watch_commands v.session.settings.program ≡ false

-- ---- the ends of programs

-- a request that loads a program
abbrev pub loads : Input → Bool
loads (request r found) = asks_to_load r.asked
loads (slice finds) = false

-- from this state on
pub record EndsAreTold (v : RecordedState) : Type 0 where
  -- a run is there exactly while a program has begun and isn't over
  pub run : has_run v.session.board.run ≡ has_begun v.session.settings.program
  -- without a live program only a launch or a restart tells more than its response
  pub quiet : (input : Input) → is_live v.session.settings.program ≡ false → loads input ≡ false
      → events_in (step input v).messages ≡ []
  -- where a live program ends `terminated` goes out once, and nowhere else
  pub end : (input : Input) → let after = (step input v).state.session in
      ends_told (step input v).messages ≡ ends_between v.session.settings.program after.settings.program

-- ---- the end of a run

-- the next slice of the recorded run is where it ends so, and no input comes there
pub record EndsNext (how : End) (r : Recording) (v : RecordedState) : Type 0 where
  pub recording : v.recording ≡ Some r
  pub search : v.search ≡ None
  pub goes_on : wants_slice v.session ≡ true
  pub is_initialized : v.session.settings.is_initialized ≡ true
  pub ends : (slice_end_in (slice_limit r) v.session).1 ≡ outcome.End how
  pub alone : up_to (r.count + (slice_end_in (slice_limit r) v.session).0) (inputs_ahead r) ≡ []

-- the messages, and the session after them
abbrev pub session_told : RecordedTold → Told
session_told t = record { messages = t.messages; state = t.state.session }
