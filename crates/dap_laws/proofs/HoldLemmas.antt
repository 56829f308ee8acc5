-- Requests that leave a recorded session as it was, and what is so while a search goes on.
use Rattle.std.proofs.Common.{◌≡◌, ◌∙◌, List, [], ◌∷◌, Bool, true, false, not, ◌&&◌, ◌||◌, Option, Some, None}
use Rattle.std.proofs.Common.{if◌then◌else◌, refl, sym, ap, subst, true≢false}
use Rattle.std.specs.Prelude.{option_and_then}
use Rattle.std.proofs.lemmas.Option.{none-some}
use Rattle.base_text.specs.Bytes.{Text}
use Rattle.i80_exec.specs.declared.registers.Registers.{Registers}
use Rattle.lab_core.specs.declared.run_state.RunState.TheVariants.{Stopped}
use Rattle.lab_core.specs.Board.{Board}
use Rattle.dap_requests.specs.declared.request.BoardCommand.{BoardCommand}
use Rattle.dap_requests.specs.declared.request.BoardCommand.TheVariants as command
use Rattle.dap_messages.specs.declared.message.EditorOutcome.{EditorOutcome}
use Rattle.dap_messages.specs.declared.message.EditorOutcome.TheVariants.{Refused}
use Rattle.dap_messages.specs.declared.message.ValueFormat.{ValueFormat}
use Rattle.dap_requests.specs.declared.request.EditorCommand.{EditorCommand}
use Rattle.dap_requests.specs.declared.request.EditorCommand.TheVariants as editor
use Rattle.dap_requests.specs.declared.request.SourceCommand.{SourceCommand}
use Rattle.dap_requests.specs.declared.request.SourceCommand.TheVariants as source
use Rattle.dap_requests.specs.declared.request.BreakpointsCommand.{BreakpointsCommand}
use Rattle.dap_requests.specs.declared.request.BreakpointsCommand.TheVariants as breakpoints
use Rattle.dap_requests.specs.declared.request.MemoryCommand.{MemoryCommand}
use Rattle.dap_requests.specs.declared.request.MemoryCommand.TheVariants as memory
use Rattle.dap_requests.specs.declared.request.EvaluateContext.TheVariants as context
use Rattle.dap_requests.specs.declared.request.VariablesCommand.TheVariants as variables
use Rattle.dap_requests.specs.declared.request.RequestContent.{RequestContent}
use Rattle.dap_requests.specs.declared.request.RequestContent.TheVariants as asked
use Rattle.dap_search.specs.declared.goal.Goal.{Goal}
use Rattle.dap_history.specs.Runs.{board_at}
use Rattle.dap_launch.specs.declared.file.FileText.{FileText}
use Rattle.dap_requests.specs.declared.request.EditorRequest.{EditorRequest}
use Rattle.dap_prompt.specs.Inputs.{input_of, is_success, as_meant}
use Rattle.dap_session.specs.States.{SessionState, with_waits, has_watch_commands}
use Rattle.dap_session.specs.Turns.{Turn}
use Rattle.dap_session.specs.Requests as session
use Rattle.dap_session.specs.Rewinds.{can_go_back, held_at}
use Rattle.dap_session.specs.Laws.{asks_to_load, LeavesAll}
use Rattle.dap_session.proofs.RefusalLemmas.{refused_turn}
use Rattle.dap_session.proofs.ShownLemmas.{sets_nothing}
use Rattle.dap_requests.specs.declared.traits.MidSearch.TheVariants as mid
use Rattle.dap_record.specs.declared.back.Back.{Back}
use Rattle.dap_record.specs.Recordings.{Recording, RecordedState, recorded_before_requests, new_recording}
use Rattle.dap_record.specs.Recordings.{kept_while, with_input_if, begins, input_made, recording_after}
use Rattle.dap_record.specs.Backward.{back_of}
use Rattle.dap_requests.specs.Traits.{mid_search, board_traits, source_traits, breakpoints_traits}
use Rattle.dap_requests.specs.Traits.{memory_traits, variables_traits, editor_traits}
use Rattle.dap_requests.specs.declared.request.VariablesCommand.{VariablesCommand}
use Rattle.dap_record.specs.Turns.{RecordedTurn, recorded_turn, back_in, turn_of, turn}
use Rattle.dap_record.specs.Slices.{RecordedTold, slice_told, Input, request, slice, step, play_all}
use Rattle.dap_record.specs.Slices.{meant_by, request_told}
use Rattle.dap_record.proofs.RecordedLemmas.{look_leaves}
use Rattle.dap_record.proofs.TravelLemmas.{can_held}
use Rattle.dap_laws.specs.Recorded.{after_all, IsRecordingOfIf, RefusalLeaves, tried_again}
use Rattle.dap_laws.specs.Recorded.{WatchesOnlyLook}
use Rattle.dap_laws.proofs.CaseLemmas.{turn_for, of_turn, of_back, of_slice}
use Rattle.dap_laws.proofs.RecordingLemmas.{recording_is}

-- ---- while a search goes on

-- the run is held where it is, and the session was initialized
pub record IsHeld (s : SessionState) : Type 0 where
  pub can : can_go_back s ≡ true
  pub run : s.board.run ≡ Stopped
  pub is_initialized : s.settings.is_initialized ≡ true

abbrev pub IsHeldIf : Option Goal → SessionState → Type 0
IsHeldIf None s = Unit {0}
IsHeldIf (Some goal) s = IsHeld s

pub held_in : (v : RecordedState) (goal : Goal) → v.search ≡ Some goal → IsHeldIf v.search v.session
    → IsHeld v.session
held_in v goal on held = subst (λ o. IsHeldIf o v.session) on held

held_waits : (o : Option Goal) (s : SessionState) → IsHeldIf o s → IsHeldIf o (with_waits false s)
held_waits None s held = tt
held_waits (Some goal) s held =
    record { can = held.can; run = held.run; is_initialized = held.is_initialized }

held_looked : (a : RequestContent) (found : Option FileText) (v : RecordedState) → mid_search a ≡ mid.Look
    → IsHeldIf v.search v.session → IsHeldIf v.search (turn_for a found v).state
held_looked a found v is held =
    subst (λ s. IsHeldIf v.search s) (sym (look_leaves a found v.session is))
    (held_waits v.search v.session held)

-- only an initialized session goes back
initialized_by : (b : Bool) (a : RequestContent) (c : Back) → (if b then back_of a else None) ≡ Some c
    → b ≡ true
initialized_by true a c is = refl
initialized_by false a c is = absurd cc

begins_held : (a : RequestContent) (c : Back) (r : Recording) (s : SessionState) → back_in a s ≡ Some c
    → can_go_back s ≡ true → IsHeld (held_at (board_at r.start r.log r.count) s)
begins_held a c r s is can = record {
  can = can_held (board_at r.start r.log r.count) s can;
  run = refl;
  is_initialized = initialized_by s.settings.is_initialized a c is;
}

held_turn : (a : RequestContent) (found : Option FileText) (v : RecordedState)
    → IsHeldIf v.search v.session → IsHeldIf (turn a found v).state.search (turn a found v).state.session
held_turn a found v held =
    of_turn (λ (t : RecordedTurn). IsHeldIf t.state.search t.state.session) a found v (record {
      onward = λ none is. tt;
      back = λ c none is. of_back (λ r. IsHeldIf (turn_of r).state.search (turn_of r).state.session) c v
          (record {
            refused = λ text. tt;
            arrives = λ by r count on can within. tt;
            searches = λ goal by r on can stopped. begins_held a c r v.session is can;
          });
      look = λ goal on is. held_looked a found v is held;
      pause = λ goal on is. tt;
      ends = λ goal on is. tt;
      other = λ goal on is. held;
    })

held_slice : (finds : Bool) (v : RecordedState) → IsHeldIf v.search v.session
    → IsHeldIf (slice_told finds v).state.search (slice_told finds v).state.session
held_slice finds v held =
    of_slice (λ (t : RecordedTold). IsHeldIf t.state.search t.state.session) finds v (record {
      idles = λ none is. held;
      plain = λ none is wants. tt;
      recorded = λ r none is wants. tt;
      searches = λ goal on. held;
      finds = λ goal r on is. tt;
    })

pub held_step : (input : Input) (v : RecordedState) → IsHeldIf v.search v.session
    → IsHeldIf (step input v).state.search (step input v).state.session
held_step (request r found) v held = held_turn (meant_by r v) found v held
held_step (slice finds) v held = held_slice finds v held

held_played : (inputs : List Input) (v : RecordedState) → IsHeldIf v.search v.session
    → IsHeldIf (play_all inputs v).state.search (play_all inputs v).state.session
held_played [] v held = held
held_played (input ∷ inputs) v held = held_played inputs (step input v).state (held_step input v held)

held_is : (inputs : List Input) → IsHeldIf (after_all inputs).search (after_all inputs).session
held_is inputs = held_played inputs recorded_before_requests tt

-- ---- the recording after a request that is no input, where no run begins

kept_if : (b : Bool) (o : Option Recording) → b ≡ true → (if b then o else None) ≡ o
kept_if true o is = refl
kept_if false o is = absurd (true≢false (sym is))

either_if : (b : Bool) (o : Option Recording) → (if b then o else o) ≡ o
either_if true o = refl
either_if false o = refl

no_input : (o : Option Recording) → option_and_then (with_input_if None) o ≡ o
no_input None = refl
no_input (Some r) = refl

-- what can go back, is recorded
still_kept : (o : Option Recording) (s s' : SessionState) → IsRecordingOfIf o s
    → can_go_back s' ≡ can_go_back s → kept_while s' o ≡ o
still_kept None s s' of same = either_if (can_go_back s') None
still_kept (Some r) s s' of same = kept_if (can_go_back s') (Some r) (same ∙ of.can)

-- ---- refusals

refused_failed : (o : EditorOutcome) (text : Text) → o ≡ Refused text → is_success o ≡ false
refused_failed o text is = ap is_success is

still_can : (s s' : SessionState) → LeavesAll s s' → can_go_back s' ≡ can_go_back s
still_can s s' leaves = λ i. can_go_back (record {
  board = leaves.board i;
  settings = record s.settings { program = leaves.program i };
})

failed_recording : (success : Bool) (a : RequestContent) (s : SessionState) (t : Turn) (o : Option Recording)
    → success ≡ false
    → (if success && (asks_to_load a || not (can_go_back s)) then Some (new_recording t.state.board)
    else option_and_then (with_input_if (if success then input_of a s.board else None)) o)
    ≡ o
failed_recording false a s t o is = no_input o
failed_recording true a s t o is = absurd (true≢false is)

refused_recording : (a : RequestContent) (found : Option FileText) (v : RecordedState) (text : Text)
    → IsRecordingOfIf v.recording v.session → (turn_for a found v).outcome ≡ Refused text
    → recording_after a v.session (turn_for a found v) v.recording ≡ v.recording
refused_recording a found v text of refused =
    let t = turn_for a found v in
    ap (kept_while t.state) (failed_recording (is_success t.outcome) a v.session t v.recording
    (refused_failed t.outcome text refused))
    ∙ still_kept v.recording v.session t.state of
    (still_can v.session t.state (refused_turn a found v.session text refused))

-- no request of these families ends a search
source_ends_none : (c : SourceCommand) → (source_traits c).mid_search ≡ mid.End → ⊥
source_ends_none (source.SetBreakpoints lines) is = absurd cc
source_ends_none (source.BreakpointLocations first last) is = absurd cc
source_ends_none (source.GotoTargets line) is = absurd cc

breakpoints_end_none : (c : BreakpointsCommand) → (breakpoints_traits c).mid_search ≡ mid.End → ⊥
breakpoints_end_none (breakpoints.SetFunctionBreakpoints functions) is = absurd cc
breakpoints_end_none (breakpoints.SetExceptionBreakpoints filters) is = absurd cc
breakpoints_end_none (breakpoints.DataBreakpointInfo query) is = absurd cc
breakpoints_end_none (breakpoints.SetDataBreakpoints on_data) is = absurd cc
breakpoints_end_none (breakpoints.SetInstructionBreakpoints instructions) is = absurd cc

memory_ends_none : (c : MemoryCommand) → (memory_traits c).mid_search ≡ mid.End → ⊥
memory_ends_none (memory.ReadMemory address offset count) is = absurd cc
memory_ends_none (memory.WriteMemory address offset bytes) is = absurd cc
memory_ends_none (memory.Disassemble address offset instruction_offset count operands) is = absurd cc

variables_end_none : (c : VariablesCommand) → (variables_traits c).mid_search ≡ mid.End → ⊥
variables_end_none (variables.Scopes frame) is = absurd cc
variables_end_none (variables.Variables reference start count format) is = absurd cc
variables_end_none (variables.SetVariable reference name value format) is = absurd cc
variables_end_none (variables.SetExpression expression value format) is = absurd cc
variables_end_none (variables.Completions text column) is = absurd cc

-- what ends a search is never refused
ends_done : (a : RequestContent) (found : Option FileText) (s : SessionState) → mid_search a ≡ mid.End
    → s.settings.is_initialized ≡ true → is_success (session.turn a found s).outcome ≡ true
unfolding session.turn
ends_done (asked.Board command.Disconnect) found s is opened = rw opened refl
ends_done (asked.Editor editor.Terminate) found s is opened = rw opened refl
ends_done (asked.Editor (editor.Evaluate expression context.Repl format)) found s is opened = absurd cc
ends_done (asked.Editor (editor.Evaluate expression context.Watch format)) found s is opened = absurd cc
ends_done (asked.Editor (editor.Evaluate expression context.Other format)) found s is opened = absurd cc
ends_done (asked.Editor (editor.OnSource path c)) found s is opened = absurd (source_ends_none c is)
ends_done (asked.Editor (editor.Breakpoints c)) found s is opened = absurd (breakpoints_end_none c is)
ends_done (asked.Editor (editor.Memory c)) found s is opened = absurd (memory_ends_none c is)
ends_done (asked.Editor (editor.Variables c)) found s is opened = absurd (variables_end_none c is)
ends_done (asked.Load c) found s is opened = absurd cc
ends_done (asked.Board c) found s is opened = absurd cc
ends_done (asked.Editor c) found s is opened = absurd cc
ends_done (asked.Faulty f) found s is opened = absurd cc

refused_onward : (a : RequestContent) (found : Option FileText) (v : RecordedState)
    → IsRecordingOfIf v.recording v.session → v.search ≡ None
    → RefusalLeaves v (recorded_turn a v (turn_for a found v))
refused_onward a found v of none = λ text refused. record {
  session = refused_turn a found v.session text refused;
  recording = refused_recording a found v text of refused;
  search = sym none;
}

refused_end : (a : RequestContent) (found : Option FileText) (v : RecordedState) → mid_search a ≡ mid.End
    → IsHeld v.session → RefusalLeaves v (recorded_turn a v (turn_for a found v))
refused_end a found v is held = λ text refused.
    absurd (true≢false (sym (ends_done a found v.session is held.is_initialized)
    ∙ refused_failed (turn_for a found v).outcome text refused))

same : (s : SessionState) → LeavesAll s s
same s = record { board = refl; program = refl; points = refl }

refused_leaves : (a : RequestContent) (found : Option FileText) (v : RecordedState)
    → IsRecordingOfIf v.recording v.session → IsHeldIf v.search v.session
    → RefusalLeaves v (turn a found v)
refused_leaves a found v of held =
    of_turn (RefusalLeaves v) a found v (record {
      onward = λ none is. refused_onward a found v of none;
      back = λ c none is. of_back (λ r. RefusalLeaves v (turn_of r)) c v (record {
        refused = λ reason text refused.
            record { session = same v.session; recording = refl; search = sym none };
        arrives = λ by r count on can within text refused. absurd cc;
        searches = λ goal by r on can stopped text refused. absurd cc;
      });
      look = λ goal on is text refused.
          record {
            session = refused_turn a found v.session text refused;
            recording = refl;
            search = refl;
          };
      pause = λ goal on is text refused. absurd cc;
      ends = λ goal on is. refused_end a found v is (held_in v goal on held);
      other = λ goal on is text refused.
          record { session = same v.session; recording = refl; search = refl };
    })

pub refused_all : (inputs : List Input) (a : RequestContent) (found : Option FileText)
    → RefusalLeaves (after_all inputs) (turn a found (after_all inputs))
refused_all inputs a found = refused_leaves a found (after_all inputs) (recording_is inputs) (held_is inputs)

-- ---- looks

-- a look loads nothing, makes no input and doesn't go back
pub record IsNoChange (a : RequestContent) : Type 0 where
  pub loads : asks_to_load a ≡ false
  pub input : (b : Board) → input_of a b ≡ None
  pub back : back_of a ≡ None

look_command : (c : BoardCommand) → (board_traits c).mid_search ≡ mid.Look → IsNoChange (asked.Board c)
look_command command.Threads is = record { loads = refl; input = λ b. refl; back = refl }
look_command (command.StackTrace start levels) is = record { loads = refl; input = λ b. refl; back = refl }
look_command (command.Source path) is = record { loads = refl; input = λ b. refl; back = refl }
look_command other is = absurd cc

look_memory : (c : MemoryCommand) → (memory_traits c).mid_search ≡ mid.Look
    → IsNoChange (asked.Editor (editor.Memory c))
look_memory (memory.ReadMemory address offset count) is =
    record { loads = refl; input = λ b. refl; back = refl }
look_memory (memory.Disassemble address offset instruction_offset count operands) is =
    record { loads = refl; input = λ b. refl; back = refl }
look_memory (memory.WriteMemory address offset bytes) is = absurd cc

look_variables : (c : VariablesCommand) → (variables_traits c).mid_search ≡ mid.Look
    → IsNoChange (asked.Editor (editor.Variables c))
look_variables (variables.Scopes frame) is =
    record { loads = refl; input = λ b. sets_nothing (variables.Scopes frame) b tt; back = refl }
look_variables (variables.Variables reference start count format) is = record {
  loads = refl;
  input = λ b. sets_nothing (variables.Variables reference start count format) b tt;
  back = refl;
}
look_variables (variables.Completions text column) is =
    record { loads = refl; input = λ b. refl; back = refl }
look_variables other is = absurd cc

look_editor : (c : EditorCommand) → (editor_traits c).mid_search ≡ mid.Look → IsNoChange (asked.Editor c)
look_editor (editor.Evaluate expression context.Watch format) is =
    record { loads = refl; input = λ b. refl; back = refl }
look_editor (editor.Evaluate expression context.Other format) is =
    record { loads = refl; input = λ b. refl; back = refl }
look_editor editor.ExceptionInfo is = record { loads = refl; input = λ b. refl; back = refl }
look_editor editor.LoadedSources is = record { loads = refl; input = λ b. refl; back = refl }
look_editor (editor.OnSource path c) is = record { loads = refl; input = λ b. refl; back = refl }
look_editor (editor.Breakpoints c) is = record { loads = refl; input = λ b. refl; back = refl }
look_editor (editor.Memory c) is = look_memory c is
look_editor (editor.Variables c) is = look_variables c is
look_editor other is = absurd cc

look_changes : (a : RequestContent) → mid_search a ≡ mid.Look → IsNoChange a
look_changes (asked.Load c) is = absurd cc
look_changes (asked.Board c) is = look_command c is
look_changes (asked.Editor c) is = look_editor c is
look_changes (asked.Faulty f) is = record { loads = refl; input = λ b. refl; back = refl }

-- by whether the request succeeds, and the run can go back
look_recording : (success loads can : Bool) (a : RequestContent) (s : SessionState) (b : Board)
    (o : Option Recording) → loads ≡ false → can ≡ can_go_back s → IsNoChange a → IsRecordingOfIf o s
    → (if can then
    (if success && (loads || not can) then Some (new_recording b)
    else option_and_then (with_input_if (if success then input_of a s.board else None)) o)
    else None)
    ≡ o
look_recording true false true a s b o loads_is can_is none of =
    ap (λ i. option_and_then (with_input_if i) o) (none.input s.board) ∙ no_input o
look_recording false false true a s b o loads_is can_is none of = no_input o
look_recording success false false a s b None loads_is can_is none of = refl
look_recording success false false a s b (Some r) loads_is can_is none of =
    absurd (true≢false (sym of.can ∙ sym can_is))
look_recording success true can a s b o loads_is can_is none of = absurd (true≢false loads_is)

looked_recording : (a : RequestContent) (found : Option FileText) (v : RecordedState)
    → mid_search a ≡ mid.Look → IsRecordingOfIf v.recording v.session
    → recording_after a v.session (turn_for a found v) v.recording ≡ v.recording
looked_recording a found v is of =
    let t = turn_for a found v in
    let s = v.session in
    let none = look_changes a is in
    ap (λ can. if can then
    (if begins a s t then Some (new_recording t.state.board)
    else option_and_then (with_input_if (input_made a s t)) v.recording)
    else None) (ap can_go_back (look_leaves a found s is))
    ∙ look_recording (is_success t.outcome) (asks_to_load a) (can_go_back s) a s t.state.board v.recording
    none.loads refl none of

looked_onward : (a : RequestContent) (found : Option FileText) (v : RecordedState) → v.search ≡ None
    → mid_search a ≡ mid.Look → IsRecordingOfIf v.recording v.session
    → (recorded_turn a v (turn_for a found v)).state ≡ tried_again v
looked_onward a found v none is of = λ i. record {
  session = look_leaves a found v.session is i;
  recording = looked_recording a found v is of i;
  search = sym none i;
}

no_way_back : (b : Bool) (a : RequestContent) (c : Back) → back_of a ≡ None
    → (if b then back_of a else None) ≡ Some c → ⊥
no_way_back true a c none is = absurd (none-some c (sym none ∙ is))
no_way_back false a c none is = absurd (none-some c is)

looks_leave : (a : RequestContent) (found : Option FileText) (v : RecordedState) → mid_search a ≡ mid.Look
    → IsRecordingOfIf v.recording v.session → (turn a found v).state ≡ tried_again v
looks_leave a found v look of =
    of_turn (λ (t : RecordedTurn). t.state ≡ tried_again v) a found v (record {
      onward = λ none is. looked_onward a found v none look of;
      back = λ c none is.
          absurd (no_way_back v.session.settings.is_initialized a c (look_changes a look).back is);
      look = λ goal on is. ap (λ s. record v { session = s }) (look_leaves a found v.session look);
      pause = λ goal on is. absurd cc;
      ends = λ goal on is. absurd cc;
      other = λ goal on is. absurd cc;
    })

pub looks_all : (inputs : List Input) (a : RequestContent) (found : Option FileText)
    → mid_search a ≡ mid.Look → (turn a found (after_all inputs)).state ≡ tried_again (after_all inputs)
looks_all inputs a found look = looks_leave a found (after_all inputs) look (recording_is inputs)

hover_meant : (has_commands : Bool) (inputs : List Input) (found : Option FileText) (line : Text)
    (format : ValueFormat)
    → (turn (as_meant has_commands (asked.Editor (editor.Evaluate line context.Other format))) found
    (after_all inputs)).state ≡ tried_again (after_all inputs)
hover_meant true inputs found line format =
    looks_all inputs (asked.Editor (editor.Evaluate line context.Other format)) found refl
hover_meant false inputs found line format =
    looks_all inputs (asked.Editor (editor.Evaluate line context.Other format)) found refl

pub hover_leaves : (inputs : List Input) (r : EditorRequest) (found : Option FileText) (line : Text)
    (format : ValueFormat)
    → r.asked ≡ asked.Editor (editor.Evaluate line context.Other format)
    → (request_told r found (after_all inputs)).state ≡ tried_again (after_all inputs)
hover_leaves inputs r found line format is =
    let v = after_all inputs in
    let has_commands = has_watch_commands v.session.settings.program in
    subst (λ a. (turn (as_meant has_commands a) found v).state ≡ tried_again v) (sym is)
    (hover_meant has_commands inputs found line format)

pub watch_leaves : (inputs : List Input) (r : EditorRequest) (found : Option FileText) (line : Text)
    (format : ValueFormat)
    → WatchesOnlyLook (after_all inputs) → r.asked ≡ asked.Editor (editor.Evaluate line context.Watch format)
    → (request_told r found (after_all inputs)).state ≡ tried_again (after_all inputs)
watch_leaves inputs r found line format none is =
    let v = after_all inputs in
    let watch = asked.Editor (editor.Evaluate line context.Watch format) in
    subst (λ a. (turn (as_meant (has_watch_commands v.session.settings.program) a) found v).state
    ≡ tried_again v) (sym is)
    (subst (λ b. (turn (as_meant b watch) found v).state ≡ tried_again v) (sym none)
    (looks_all inputs watch found refl))
