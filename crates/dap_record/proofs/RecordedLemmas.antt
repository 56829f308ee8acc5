-- Requests to recorded sessions, and the states that they represent.
use Rattle.std.proofs.Common.{◌≡◌, ◌∙◌, List, Bool, true, false, Option, Some, None, Result, Ok, Err, refl}
use Rattle.std.proofs.Common.{ap, sym, subst, is_some, true≢false, IfOk, ◌||◌}
use Rattle.std.specs.declared.alloc.AllocError.{AllocError}
use Rattle.base_text.specs.Bytes.{Text}
use Rattle.lab_shown.specs.declared.shown.Shown.{Shown}
use Rattle.lab_views.specs.declared.fault.ViewFault.{ViewFault}
use Rattle.lab_views.specs.declared.view.View.TheVariants as view
use Rattle.lab_core.specs.Events.{as_answer, parts_of}
use Rattle.lab_views.specs.Views.{view_of}
use Rattle.dap_requests.specs.declared.request.BoardCommand.{BoardCommand}
use Rattle.dap_requests.specs.declared.request.BoardCommand.TheVariants as command
use Rattle.dap_requests.specs.declared.request.SourceCommand.{SourceCommand}
use Rattle.dap_requests.specs.declared.request.SourceCommand.TheVariants as source
use Rattle.dap_requests.specs.declared.request.BreakpointsCommand.{BreakpointsCommand}
use Rattle.dap_requests.specs.declared.request.BreakpointsCommand.TheVariants as breakpoints
use Rattle.dap_requests.specs.declared.request.MemoryCommand.{MemoryCommand}
use Rattle.dap_requests.specs.declared.request.MemoryCommand.TheVariants as memory
use Rattle.dap_requests.specs.declared.request.VariablesCommand.{VariablesCommand}
use Rattle.dap_requests.specs.Traits.{mid_search, board_traits, source_traits, breakpoints_traits}
use Rattle.dap_requests.specs.Traits.{memory_traits, variables_traits, editor_traits}
use Rattle.dap_board.specs.Bodies.{body_of}
use Rattle.dap_board.specs.Commands.{with_body, command_result}
use Rattle.dap_requests.specs.declared.request.VariablesCommand.TheVariants as variables
use Rattle.dap_messages.specs.declared.message.Message.{Message}
use Rattle.dap_messages.specs.declared.message.UndefinedOpcode.{UndefinedOpcode}
use Rattle.dap_requests.specs.declared.request.EditorCommand.{EditorCommand}
use Rattle.dap_requests.specs.declared.request.EditorCommand.TheVariants as editor
use Rattle.dap_requests.specs.declared.request.EvaluateContext.TheVariants as context
use Rattle.dap_requests.specs.declared.request.RequestContent.{RequestContent}
use Rattle.dap_requests.specs.declared.request.RequestContent.TheVariants as asked
use Rattle.dap_search.specs.declared.goal.Goal.{Goal}
use Rattle.dap_launch.specs.declared.file.FileText.{FileText}
use Rattle.dap_run.specs.Lives.{exception_of}
use Rattle.dap_run.specs.declared.messages.FollowUp.TheVariants.{Nothing}
use Rattle.dap_run.specs.declared.messages.RequestId.{RequestId}
use Rattle.dap_prompt.specs.Inputs.{ends_question}
use Rattle.dap_session.specs.States.{SessionState, with_waits, after_answer}
use Rattle.dap_session.specs.Turns.{Replied}
use Rattle.dap_session.specs.Requests as session
use Rattle.dap_session.specs.Requests.{board_done, explaining, on_board, on_source, on_breakpoints, on_memory}
use Rattle.dap_session.specs.Requests.{on_editor, asking, asking_unless, objection}
use Rattle.dap_session.specs.Evaluations.{handling}
use Rattle.dap_session.specs.Represents as sessions
use Rattle.dap_session.specs.Represents.{RepresentsSession, SessionFields}
use Rattle.dap_session.specs.Slices.{told_in as sessions_told_in}
use Rattle.dap_session.proofs.ShownLemmas.{handled_shown}
use Rattle.dap_record.specs.Fields.{RecordingFields, GoalSearchFields, RecordedFields}
use Rattle.dap_record.specs.declared.back.Back.{Back}
use Rattle.dap_requests.specs.declared.traits.MidSearch.TheVariants as mid
use Rattle.dap_record.specs.Backward.{going_back}
use Rattle.dap_record.specs.Turns.{turn, turn_in, turn_by, turn_searching, turn_of, recorded_turn, back_in}
use Rattle.dap_record.specs.Turns.{looking}
use Rattle.dap_record.specs.Slices.{slice_told, slice_in, run_told, search_told, told_in}
use Rattle.dap_record.specs.Recordings.{Recording, RecordedState}
use Rattle.dap_record.specs.Represents.{RepresentsRecorded, RepresentsRecordingIf, RepresentsSearchIf}
use Rattle.dap_record.specs.Represents.{RepresentsRecording, RepresentsSome, IsSearchFor, IsSearched, Tells}
use Rattle.dap_record.specs.Represents.{TellsPart}

-- ---- requests

pub turn_recorded : (a : RequestContent) (found : Option FileText) (v : RecordedState)
    → back_in a v.session ≡ None
    → turn_by (back_in a v.session) a found v ≡ recorded_turn a v (session.turn a found v.session)
turn_recorded a found v is = ap (λ o. turn_by o a found v) is

pub turn_back : (a : RequestContent) (found : Option FileText) (v : RecordedState) (c : Back)
    → back_in a v.session ≡ Some c → turn_by (back_in a v.session) a found v ≡ turn_of (going_back c v)
turn_back a found v c is = ap (λ o. turn_by o a found v) is

-- ---- looks while a search goes on

left_shown : (o : Result Shown ViewFault) (s : SessionState)
    → (board_done (with_body body_of (as_answer o s.board)) Nothing s).state ≡ s
left_shown (Ok x) s = refl
left_shown (Err fault) s = refl

left_explained : (o : Option UndefinedOpcode) (s : SessionState) → (explaining o s).state ≡ s
left_explained None s = refl
left_explained (Some undefined) s = refl

left_command : (c : BoardCommand) (s : SessionState) → (board_traits c).mid_search ≡ mid.Look
    → (on_board c s).state ≡ s
unfolding command_result
left_command command.Threads s is = refl
left_command (command.StackTrace start levels) s is = left_shown (view_of (view.Frames start levels)
    (parts_of s.board)) s
left_command (command.Source path) s is = left_shown (view_of (view.Source path) (parts_of s.board)) s
left_command other s is = absurd cc

left_source : (path : Text) (c : SourceCommand) (s : SessionState) → (source_traits c).mid_search ≡ mid.Look
    → (on_source path c s).state ≡ s
left_source path (source.BreakpointLocations first last) s is = refl
left_source path (source.GotoTargets line) s is = refl
left_source path (source.SetBreakpoints lines) s is = absurd cc

left_breakpoints : (c : BreakpointsCommand) (s : SessionState) → (breakpoints_traits c).mid_search ≡ mid.Look
    → (on_breakpoints c s).state ≡ s
left_breakpoints (breakpoints.DataBreakpointInfo query) s is = refl
left_breakpoints other s is = absurd cc

left_memory : (c : MemoryCommand) (s : SessionState) → (memory_traits c).mid_search ≡ mid.Look
    → (on_memory c s).state ≡ s
left_memory (memory.ReadMemory address offset count) s is = refl
left_memory (memory.Disassemble address offset instruction_offset count operands) s is = refl
left_memory (memory.WriteMemory address offset bytes) s is = absurd cc

left_variables : (c : VariablesCommand) (s : SessionState) → (variables_traits c).mid_search ≡ mid.Look
    → (handling c s).state ≡ s
left_variables (variables.Scopes frame) s is =
    ap (λ (r : Replied). r.state) (handled_shown (variables.Scopes frame) s tt).1
left_variables (variables.Variables reference start count format) s is =
    ap (λ (r : Replied). r.state) (handled_shown (variables.Variables reference start count format) s tt).1
left_variables (variables.Completions text column) s is = refl
left_variables other s is = absurd cc

left_editor : (c : EditorCommand) (s : SessionState) → (editor_traits c).mid_search ≡ mid.Look
    → (on_editor c s).state ≡ s
left_editor (editor.Evaluate expression context.Watch format) s is = refl
left_editor (editor.Evaluate expression context.Other format) s is = refl
left_editor editor.ExceptionInfo s is = left_explained (exception_of s.settings.program) s
left_editor editor.LoadedSources s is = refl
left_editor (editor.OnSource path c) s is = left_source path c s is
left_editor (editor.Breakpoints c) s is = left_breakpoints c s is
left_editor (editor.Memory c) s is = left_memory c s is
left_editor (editor.Variables c) s is = left_variables c s is
left_editor other s is = absurd cc

left_asking : (a : RequestContent) (found : Option FileText) (s : SessionState) → mid_search a ≡ mid.Look
    → (asking a found s).state ≡ s
left_asking (asked.Load c) found s is = absurd cc
left_asking (asked.Board c) found s is = left_command c s is
left_asking (asked.Editor c) found s is = left_editor c s is
left_asking (asked.Faulty fault) found s is = refl

left_unless : (o : Option Text) (a : RequestContent) (found : Option FileText) (s : SessionState)
    → mid_search a ≡ mid.Look → (asking_unless o a found s).state ≡ s
left_unless (Some text) a found s is = refl
left_unless None a found s is = left_asking a found s is

-- no look ends a question
command_ends_none : (c : BoardCommand) → (board_traits c).mid_search ≡ mid.Look
    → (board_traits c).ends_question ≡ false
command_ends_none command.Threads is = refl
command_ends_none (command.StackTrace start levels) is = refl
command_ends_none (command.Source path) is = refl
command_ends_none other is = absurd cc

board_ends_none : (c : BoardCommand) → (board_traits c).ends_question ≡ false
    → ends_question (asked.Board c) ≡ false
board_ends_none c is = ap (λ b. b || false) is

source_ends_none : (c : SourceCommand) → (source_traits c).ends_question ≡ false
source_ends_none (source.SetBreakpoints lines) = refl
source_ends_none (source.BreakpointLocations first last) = refl
source_ends_none (source.GotoTargets line) = refl

breakpoints_end_none : (c : BreakpointsCommand) → (breakpoints_traits c).ends_question ≡ false
breakpoints_end_none (breakpoints.SetFunctionBreakpoints functions) = refl
breakpoints_end_none (breakpoints.SetExceptionBreakpoints filters) = refl
breakpoints_end_none (breakpoints.DataBreakpointInfo query) = refl
breakpoints_end_none (breakpoints.SetDataBreakpoints on_data) = refl
breakpoints_end_none (breakpoints.SetInstructionBreakpoints instructions) = refl

memory_ends_none : (c : MemoryCommand) → (memory_traits c).ends_question ≡ false
memory_ends_none (memory.ReadMemory address offset count) = refl
memory_ends_none (memory.WriteMemory address offset bytes) = refl
memory_ends_none (memory.Disassemble address offset instruction_offset count operands) = refl

variables_end_none : (c : VariablesCommand) → (variables_traits c).ends_question ≡ false
variables_end_none (variables.Scopes frame) = refl
variables_end_none (variables.Variables reference start count format) = refl
variables_end_none (variables.SetVariable reference name value format) = refl
variables_end_none (variables.SetExpression expression value format) = refl
variables_end_none (variables.Completions text column) = refl

editor_ends_none : (c : EditorCommand) → (editor_traits c).mid_search ≡ mid.Look
    → ends_question (asked.Editor c) ≡ false
editor_ends_none (editor.Evaluate expression context.Watch format) is = refl
editor_ends_none (editor.Evaluate expression context.Other format) is = refl
editor_ends_none editor.ExceptionInfo is = refl
editor_ends_none editor.LoadedSources is = refl
editor_ends_none (editor.OnSource path c) is = ap (λ b. b || false) (source_ends_none c)
editor_ends_none (editor.Breakpoints c) is = ap (λ b. b || false) (breakpoints_end_none c)
editor_ends_none (editor.Memory c) is = ap (λ b. b || false) (memory_ends_none c)
editor_ends_none (editor.Variables c) is = ap (λ b. b || false) (variables_end_none c)
editor_ends_none other is = absurd cc

look_ends_none : (a : RequestContent) → mid_search a ≡ mid.Look → ends_question a ≡ false
look_ends_none (asked.Load c) is = absurd cc
look_ends_none (asked.Board c) is = board_ends_none c (command_ends_none c is)
look_ends_none (asked.Editor c) is = editor_ends_none c is
look_ends_none (asked.Faulty fault) is = refl

-- a look leaves the board and the program
pub look_leaves : (a : RequestContent) (found : Option FileText) (s : SessionState) → mid_search a ≡ mid.Look
    → (session.turn a found s).state ≡ with_waits false s
unfolding session.turn
look_leaves a found s is =
    ap (after_answer (ends_question a)) (left_unless (objection a s) a found s is)
    ∙ ap (λ ends. after_answer ends s) (look_ends_none a is)

recording_waits : (o : Option RecordingFields) (m : Option Recording) (s : SessionState)
    → RepresentsRecordingIf o m s → RepresentsRecordingIf o m (with_waits false s)
recording_waits None None s is = tt
recording_waits (Some v) (Some r) s is = record {
  history = is.history;
  log = is.log;
  count = is.count;
  told = is.told;
  parts = is.parts;
  can = is.can;
}
recording_waits None (Some r) s is = absurd is
recording_waits (Some v) None s is = absurd is

search_waits : (o : Option GoalSearchFields) (g : Option Goal) (m : Option Recording) (s : SessionState)
    → RepresentsSearchIf o g m s → RepresentsSearchIf o g m (with_waits false s)
search_waits None None m s is = tt
search_waits (Some v) (Some goal) (Some r) s is = record {
  goal_is = is.goal_is;
  search = is.search;
  rewound = is.rewound;
}
search_waits None (Some goal) m s is = absurd is
search_waits (Some v) None m s is = absurd is
search_waits (Some v) (Some goal) None s is = absurd is

-- the recording and the search are those of the session after a look
pub looked : (a : RequestContent) (found : Option FileText) (v : RecordedState) (old : RecordedFields)
    (new : SessionFields) → mid_search a ≡ mid.Look → RepresentsRecorded old v
    → RepresentsSession new (session.turn a found v.session).state
    → RepresentsRecorded (record { session = new; recording = old.recording; search = old.search })
    (record v { session = (session.turn a found v.session).state })
looked a found v old new is represents now =
    let same = look_leaves a found v.session is in
    record {
      session = now;
      recording =
          subst (λ s. RepresentsRecordingIf old.recording v.recording s) (sym same)
          (recording_waits old.recording v.recording v.session represents.recording);
      search =
          subst (λ s. RepresentsSearchIf old.search v.search v.recording s) (sym same)
          (search_waits old.search v.search v.recording v.session represents.search);
    }

-- ---- whether a search goes on

pub searching_is : (o : Option GoalSearchFields) (g : Option Goal) (m : Option Recording) (s : SessionState)
    → RepresentsSearchIf o g m s → is_some o ≡ is_some g
searching_is None None m s is = refl
searching_is (Some v) (Some goal) m s is = refl
searching_is None (Some goal) m s is = absurd is
searching_is (Some v) None m s is = absurd is

pub none_searched : {A : Type 0} (g : Option A) → is_some g ≡ false → g ≡ None
none_searched None is = refl
none_searched (Some goal) is = absurd (true≢false is)

some_searched : (g : Option Goal) → is_some g ≡ true → (goal : Goal) × (g ≡ Some goal)
some_searched None is = absurd (true≢false (sym is))
some_searched (Some goal) is = (goal, refl)

pub turn_idle : (a : RequestContent) (found : Option FileText) (v : RecordedState) → is_some v.search ≡ false
    → turn a found v ≡ turn_by (back_in a v.session) a found v
unfolding turn
turn_idle a found v is = ap (λ o. turn_in o a found v) (none_searched v.search is)

pub turn_amid : (a : RequestContent) (found : Option FileText) (v : RecordedState) → is_some v.search ≡ true
    → turn a found v ≡ turn_searching (mid_search a) a found v
unfolding turn
turn_amid a found v is = ap (λ o. turn_in o a found v) (some_searched v.search is).1

pub slice_idle : (finds : Bool) (v : RecordedState) → is_some v.search ≡ false → slice_told finds v ≡
    run_told v
unfolding slice_told
slice_idle finds v is = ap (λ o. slice_in o finds v) (none_searched v.search is)

pub slice_amid : (finds : Bool) (v : RecordedState) (goal : Goal) → v.search ≡ Some goal
    → slice_told finds v ≡ search_told finds goal v
unfolding slice_told
slice_amid finds v goal is = ap (λ o. slice_in o finds v) is

pub told_idle : (v : RecordedState) (result : Result (List Message) AllocError) (new : RecordedFields)
    → is_some v.search ≡ false → IfOk result (λ m. Tells (run_told v) m new)
    → IfOk result (λ m. (finds : Bool) × Tells (slice_told finds v) m new)
told_idle v (Ok m) new is tells = (false, subst (λ t. Tells t m new) (sym (slice_idle false v is)) tells)
told_idle v (Err lack) new is tells = tt

told_amid : (v : RecordedState) (goal : Goal) (r : Recording) (result : Result (List Message) AllocError)
    (new : RecordedFields) → v.search ≡ Some goal → v.recording ≡ Some r
    → IfOk result (λ m. (finds : Bool)
    × Tells (search_told finds goal (record {
      session = v.session;
      recording = Some r;
      search = Some goal;
    })) m new)
    → IfOk result (λ m. (finds : Bool) × Tells (slice_told finds v) m new)
told_amid v goal r (Ok m) new search recording (finds, tells) =
    let same : record { session = v.session; recording = Some r; search = Some goal } ≡ v =
    (λ i. record { session = v.session; recording = sym recording i; search = sym search i }) in (
      finds,
      subst (λ t. Tells t m new) (sym (slice_amid finds v goal search))
          (subst (λ w. Tells (search_told finds goal w) m new) same tells),
    )
told_amid v goal r (Err lack) new search recording tells = tt

-- the search is for some goal of some recording
searched_as : (v : RecordingFields) (u : GoalSearchFields) (m : Option Recording) (g : Option Goal)
    (s : SessionState) → RepresentsRecordingIf (Some v) m s → RepresentsSearchIf (Some u) g m s
    → (goal : Goal) × (r : Recording) × (g ≡ Some goal) × (m ≡ Some r) × RepresentsRecording v r s
    × IsSearchFor goal r s u
searched_as v u (Some r) (Some goal) s recording search = (goal, r, refl, refl, recording, search)
searched_as v u (Some r) None s recording search = absurd search
searched_as v u None g s recording search = absurd recording

pub told_searching : (v : RecordedState) (f : RecordingFields) (u : GoalSearchFields) (old : RecordedFields)
    (result : Result (List Message) AllocError) (new : RecordedFields)
    → RepresentsRecorded old v → old.recording ≡ Some f → old.search ≡ Some u
    → TellsPart f u old.session result new
    → IfOk result (λ m. (finds : Bool) × Tells (slice_told finds v) m new)
told_searching v f u old result new represents recording search tells =
    let is = searched_as f u v.recording v.search v.session
    (subst (λ o. RepresentsRecordingIf o v.recording v.session) recording represents.recording)
    (subst (λ o. RepresentsSearchIf o v.search v.recording v.session) search represents.search) in
    told_amid v is.0 is.1 result new is.2 is.3
    (tells is.0 is.1 v.session represents.session is.4 is.5)

pub is_searched : (f : RecordingFields) (u : GoalSearchFields) (session : SessionFields)
    → RepresentsSome (record { session = session; recording = Some f; search = Some u })
    → IsSearched f u session
is_searched f u session some =
    let is = searched_as f u some.0.recording some.0.search some.0.session some.1.recording some.1.search in
    (is.0, is.1, some.0.session, some.1.session, is.4, is.5)

-- without a recording there is no search
pub never : (u : GoalSearchFields) (g : Option Goal) (m : Option Recording) (s : SessionState)
    → RepresentsRecordingIf None m s → RepresentsSearchIf (Some u) g m s → ⊥
never u (Some goal) None s recording search = search
never u None None s recording search = search
never u g (Some r) s recording search = recording

-- ---- sessions that looked

session_looked : (a : RequestContent) (found : Option FileText) (c : RequestId) (v : RecordedState)
    (old : RecordedFields) (new : SessionFields) (result : Result (List Message) AllocError)
    → mid_search a ≡ mid.Look → RepresentsRecorded old v
    → sessions.TellsAs (λ s. sessions_told_in c (session.turn a found s)) old.session result new
    → (w : RecordedState)
    × RepresentsRecorded (record { session = new; recording = old.recording; search = old.search }) w
session_looked a found c v old new (Ok messages) is represents tells = (
  record v { session = (session.turn a found v.session).state },
  looked a found v old new is represents (tells.0 v.session represents.session).1,
)
session_looked a found c v old new (Err lack) is represents tells = (
  v,
  subst (λ s. RepresentsRecorded (record { session = s; recording = old.recording; search = old.search }) v)
      (sym tells.1) represents,
)

pub some_looked : (a : RequestContent) (found : Option FileText) (c : RequestId) (old : RecordedFields)
    (new : SessionFields) (result : Result (List Message) AllocError)
    → mid_search a ≡ mid.Look → RepresentsSome old
    → sessions.TellsAs (λ s. sessions_told_in c (session.turn a found s)) old.session result new
    → RepresentsSome (record { session = new; recording = old.recording; search = old.search })
some_looked a found c old new result is some tells =
    session_looked a found c some.0 old new result is some.1 tells

pub told_looking : (a : RequestContent) (found : Option FileText) (c : RequestId) (v : RecordedState)
    (old : RecordedFields) (new : SessionFields) (result : Result (List Message) AllocError)
    → mid_search a ≡ mid.Look → RepresentsRecorded old v
    → sessions.TellsAs (λ s. sessions_told_in c (session.turn a found s)) old.session result new
    → IfOk result (λ m. Tells (told_in c (looking v (session.turn a found v.session))) m
    (record { session = new; recording = old.recording; search = old.search }))
told_looking a found c v old new (Ok messages) is represents tells =
    let told = tells.0 v.session represents.session in
    record { messages_are = told.0; represents = looked a found v old new is represents told.1 }
told_looking a found c v old new (Err lack) is represents tells = tt
