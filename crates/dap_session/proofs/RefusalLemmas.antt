-- What is refused leaves the board, the program and the breakpoints.
use Rattle.std.proofs.Common.{ℕ, List, ◌++◌, Bool, true, false, Option, Some, None, Result, Ok, Err}
use Rattle.std.proofs.Common.{codes, if◌then◌else◌, unwrap_or, refl}
use Rattle.base_text.specs.Bytes.{Bytes, Text}
use Rattle.lab_core.specs.declared.answer.End.{End}
use Rattle.lab_core.specs.Board.{Board}
use Rattle.dap_requests.specs.declared.request.BoardCommand.{BoardCommand}
use Rattle.dap_requests.specs.declared.request.BoardCommand.TheVariants as command
use Rattle.dap_board.specs.Commands.{Performed, command_result}
use Rattle.dap_messages.specs.declared.message.UndefinedOpcode.{UndefinedOpcode}
use Rattle.dap_messages.specs.declared.message.ValueFormat.{ValueFormat}
use Rattle.dap_requests.specs.declared.request.EditorCommand.{EditorCommand}
use Rattle.dap_requests.specs.declared.request.EditorCommand.TheVariants as editor
use Rattle.dap_requests.specs.declared.request.LoadCommand.TheVariants as load
use Rattle.dap_requests.specs.declared.request.SourceCommand.{SourceCommand}
use Rattle.dap_requests.specs.declared.request.SourceCommand.TheVariants as source
use Rattle.dap_requests.specs.declared.request.BreakpointsCommand.{BreakpointsCommand}
use Rattle.dap_requests.specs.declared.request.BreakpointsCommand.TheVariants as breakpoints
use Rattle.dap_requests.specs.declared.request.MemoryCommand.{MemoryCommand}
use Rattle.dap_requests.specs.declared.request.MemoryCommand.TheVariants as memory
use Rattle.dap_requests.specs.declared.request.LineBreakpoint.{LineBreakpoint}
use Rattle.dap_requests.specs.declared.request.EvaluateContext.{EvaluateContext}
use Rattle.dap_requests.specs.declared.request.EvaluateContext.TheVariants as context
use Rattle.dap_requests.specs.declared.request.Launch.{Launch as LaunchOf}
use Rattle.dap_requests.specs.declared.request.RequestContent.{RequestContent}
use Rattle.dap_requests.specs.declared.request.RequestContent.TheVariants as asked
use Rattle.dap_requests.specs.declared.offset.SignedOffset.{SignedOffset}
use Rattle.dap_values.specs.declared.assignment.SetValue.{SetValue}
use Rattle.dap_requests.specs.declared.request.VariablesCommand.{VariablesCommand}
use Rattle.dap_prompt.specs.declared.answer.VariablesAnswer.{VariablesAnswer}
use Rattle.dap_prompt.specs.declared.answer.VariablesAnswer.TheVariants.{Outcome, Change}
use Rattle.dap_prompt.specs.Answers.{variables_answer}
use Rattle.dap_points.specs.Points.{has_place}
use Rattle.dap_launch.specs.declared.load.LoadFault.{LoadFault}
use Rattle.dap_run.specs.declared.messages.FollowUp.{FollowUp}
use Rattle.dap_launch.specs.declared.opening.LoadReason.{LoadReason}
use Rattle.dap_launch.specs.declared.opening.LoadReason.TheVariants.{Launch, Restart}
use Rattle.dap_run.specs.Boards.{board_result}
use Rattle.dap_run.specs.Ends.{exit_code}
use Rattle.dap_launch.specs.Loading.{load_result}
use Rattle.dap_values.specs.Distances.{address_at}
use Rattle.dap_launch.specs.declared.file.FileText.{FileText}
use Rattle.dap_run.specs.declared.program.Phase.{Phase}
use Rattle.dap_run.specs.declared.program.Phase.TheVariants as phase
use Rattle.dap_run.specs.declared.program.Program.{Program}
use Rattle.dap_launch.specs.Files.{program_text}
use Rattle.dap_run.specs.Lives.{end_of, exception_of}
use Rattle.dap_session.specs.States.{SessionState}
use Rattle.dap_session.specs.Turns.{Replied, Turn}
use Rattle.dap_session.specs.Breakpoints.{setting_lines}
use Rattle.dap_session.specs.Evaluations.{command_reply}
use Rattle.dap_prompt.specs.Prompt.{behind, byte_spelled, byte_command, command_with}
use Rattle.dap_session.specs.Evaluations.{prompting, evaluating, setting, handling_by}
use Rattle.dap_session.specs.Launches.{beginning_in, beginning_where, loading_as, by_text, loading}
use Rattle.dap_session.specs.Launches.{launching_over, restarting_of}
use Rattle.dap_session.specs.Memory.{is_stopped, writing_from, writing}
use Rattle.dap_session.specs.Targets.{going_to}
use Rattle.dap_session.specs.Requests.{board_done, finish_done, resuming_from, explaining, set_configured}
use Rattle.dap_session.specs.Requests.{resetting, on_board, on_editor, on_source, on_breakpoints, on_memory}
use Rattle.dap_session.specs.Requests.{objection, asking, asking_unless, turn}
use Rattle.dap_session.specs.Laws.{LeavesAll, RefusalLeaves}

abbrev Refuses : SessionState → Replied → Type 0
Refuses s r = RefusalLeaves s r.outcome r.state

abbrev RefusesTurn : SessionState → Turn → Type 0
RefusesTurn s t = RefusalLeaves s t.outcome t.state

same : (s : SessionState) → LeavesAll s s
same s = record { board = refl; program = refl; points = refl }

either : (b : Bool) (s : SessionState) (r r' : Replied) → Refuses s r → Refuses s r'
    → Refuses s (if b then r else r')
either true s r r' one two = one
either false s r r' one two = two

-- ---- commands of a board

done : (p : Performed) (f : FollowUp) (s : SessionState) → Refuses s (board_done p f s)
done (Ok (b, board)) f s = λ text is. absurd cc
done (Err fault) f s = λ text is. same s

finished : (p : Performed) (code : ℕ) (s : SessionState) → Refuses s (finish_done p code s)
finished (Ok (b, board)) code s = λ text is. absurd cc
finished (Err fault) code s = λ text is. same s

resumed : (o : Option End) (c : BoardCommand) (s : SessionState) → Refuses s (resuming_from o c s)
resumed None c s = done (board_result c s.board) _ s
resumed (Some how) c s = finished (board_result c s.board) (exit_code how) s

begun_in : (h : Phase) (p : Program) (s s' : SessionState)
    → RefusalLeaves s (beginning_in h p s').outcome (beginning_in h p s').state
begun_in phase.Loaded p s s' = λ text is. absurd cc
begun_in phase.Begun p s s' = λ text is. absurd cc
begun_in (phase.Held how) p s s' = λ text is. absurd cc
begun_in phase.Over p s s' = λ text is. absurd cc

begun : (o : Option Program) (s s' : SessionState)
    → RefusalLeaves s (beginning_where o s').outcome (beginning_where o s').state
begun None s s' = λ text is. absurd cc
begun (Some p) s s' = begun_in p.phase p s s'

reset_done : (s : SessionState) → Refuses s (resetting s)
unfolding command_result
reset_done s = λ text is. absurd cc

lines : (path : Text) (ls : List LineBreakpoint) (s : SessionState) → Refuses s (setting_lines path ls s)
lines path ls s = either (has_place path s.settings.points.lists) s _ _ (λ text is. absurd cc)
    (λ text is. same s)

command_left : (c : BoardCommand) (s : SessionState) → Refuses s (on_board c s)
command_left command.Attach s = λ text is. same s
command_left command.Disconnect s = λ text is. absurd cc
command_left command.ConfigurationDone s = begun s.settings.program s (set_configured s)
command_left command.BoardReset s = reset_done s
command_left command.Continue s = resumed (end_of s.settings.program) command.Continue s
command_left (command.Step kind granularity) s =
    resumed (end_of s.settings.program) (command.Step kind granularity) s
command_left other s = done (board_result other s.board) _ s

-- ---- evaluations

reply_left : (p : Performed) (s : SessionState) → Refuses s (command_reply p s)
reply_left (Ok (b, board)) s = λ text is. absurd cc
reply_left (Err f) s = λ text is. same s

byte_left : (to : ℕ → BoardCommand) (o : Option ℕ) (expression : Text) (format : ValueFormat)
    (s : SessionState)
    → Refuses s (prompting (byte_command to o) expression format s)
byte_left to None expression format s = λ text is. same s
byte_left to (Some n) expression format s = reply_left (board_result (to n) s.board) s

prompt_left : (switches press line : Option Text) (expression : Text)
    (format : ValueFormat) (s : SessionState)
    → Refuses s (prompting (command_with switches press line) expression format s)
prompt_left (Some n) press line expression format s = byte_left _ (byte_spelled n) expression format s
prompt_left None (Some n) line expression format s = byte_left _ (byte_spelled n) expression format s
prompt_left None None (Some line) expression format s =
    reply_left (board_result (command.BoardType (line ++ codes "\n")) s.board) s
prompt_left None None None expression format s = λ text is. same s

evaluated : (expression : Text) (c : EvaluateContext) (format : ValueFormat) (s : SessionState)
    → Refuses s (evaluating expression c format s)
evaluated expression context.Repl format s =
    prompt_left (behind (codes "switches ") expression) (behind (codes "press ") expression)
    (behind (codes "type ") expression) expression format s
evaluated expression context.Watch format s = λ text is. same s
evaluated expression context.Other format s = λ text is. same s

-- ---- variables

setting_left : (r : Result SetValue Text) (s : SessionState) → Refuses s (setting r s)
setting_left (Ok set) s = λ text is. absurd cc
setting_left (Err message) s = λ text is. same s

handled_by : (a : VariablesAnswer) (s : SessionState) → Refuses s (handling_by a s)
handled_by (Outcome outcome) s = λ text is. same s
handled_by (Change r) s = either (is_stopped s.board.run) s _ _ (setting_left r s) (λ text is. same s)

-- ---- commands of editors

explained : (o : Option UndefinedOpcode) (s : SessionState) → Refuses s (explaining o s)
explained None s = λ text is. same s
explained (Some undefined) s = λ text is. absurd cc

written_from : (o : Option ℕ) (bytes : Bytes) (s : SessionState) → Refuses s (writing_from o bytes s)
written_from None bytes s = λ text is. same s
written_from (Some start) bytes s = λ text is. absurd cc

written : (address : ℕ) (offset : SignedOffset) (bytes : Bytes) (s : SessionState)
    → Refuses s (writing address offset bytes s)
written address offset bytes s =
    either (is_stopped s.board.run) s _ _ (written_from (address_at address offset) bytes s)
    (λ text is. same s)

gone : (target : ℕ) (s : SessionState) → Refuses s (going_to target s)
gone target s = either (is_stopped s.board.run) s _ _ (λ text is. absurd cc) (λ text is. same s)

source_left : (path : Text) (c : SourceCommand) (s : SessionState) → Refuses s (on_source path c s)
source_left path (source.SetBreakpoints ls) s = lines path ls s
source_left path (source.BreakpointLocations first last) s = λ text is. absurd cc
source_left path (source.GotoTargets line) s = λ text is. absurd cc

breakpoints_left : (c : BreakpointsCommand) (s : SessionState) → Refuses s (on_breakpoints c s)
breakpoints_left (breakpoints.SetFunctionBreakpoints functions) s = λ text is. absurd cc
breakpoints_left (breakpoints.SetExceptionBreakpoints filters) s = λ text is. absurd cc
breakpoints_left (breakpoints.DataBreakpointInfo query) s = λ text is. absurd cc
breakpoints_left (breakpoints.SetDataBreakpoints on_data) s = λ text is. absurd cc
breakpoints_left (breakpoints.SetInstructionBreakpoints instructions) s = λ text is. absurd cc

memory_left : (c : MemoryCommand) (s : SessionState) → Refuses s (on_memory c s)
memory_left (memory.ReadMemory address offset count) s = λ text is. absurd cc
memory_left (memory.WriteMemory address offset bytes) s = written address offset bytes s
memory_left (memory.Disassemble address offset instruction_offset count operands) s = λ text is. absurd cc

edit_left : (c : EditorCommand) (s : SessionState) → Refuses s (on_editor c s)
edit_left (editor.Initialize supported numbering) s =
    either s.settings.is_initialized s _ _ (λ text is. same s) (λ text is. absurd cc)
edit_left editor.Terminate s = λ text is. absurd cc
edit_left editor.ExceptionInfo s = explained (exception_of s.settings.program) s
edit_left (editor.Evaluate expression c format) s = evaluated expression c format s
edit_left editor.LoadedSources s = λ text is. absurd cc
edit_left (editor.StepBack by) s = λ text is. same s
edit_left editor.ReverseContinue s = λ text is. same s
edit_left (editor.Goto target) s = gone target s
edit_left (editor.OnSource path c) s = source_left path c s
edit_left (editor.Breakpoints c) s = breakpoints_left c s
edit_left (editor.Memory c) s = memory_left c s
edit_left (editor.Variables c) s = handled_by (variables_answer c s.board) s

-- ---- programs that are loaded

loaded : (r : Result (Board × ℕ) LoadFault) (o : LoadReason) (l : LaunchOf) (text : Text) (s : SessionState)
    → RefusesTurn s (loading_as r o l text s)
loaded (Ok (b, start)) o l text s = λ message is. absurd cc
loaded (Err f) o l text s = λ message is. same s

text_left : (t : Result Text Text) (o : LoadReason) (l : LaunchOf) (s : SessionState)
    → RefusesTurn s (by_text t o l s)
text_left (Ok text) o l s = loaded (load_result l text) o l text s
text_left (Err message) o l s = λ text is. same s

launched : (p : Option Program) (l : LaunchOf) (found : Option FileText) (s : SessionState)
    → RefusesTurn s (launching_over p l found s)
launched None l found s = text_left (program_text l found) Launch l s
launched (Some p) l found s = λ text is. same s

restarted : (p : Option Program) (l : Option LaunchOf) (found : Option FileText) (s : SessionState)
    → RefusesTurn s (restarting_of p l found s)
restarted None l found s = λ text is. same s
restarted (Some p) l found s =
    let launch = unwrap_or l p.launch in text_left (program_text launch found) Restart launch s

-- ---- all requests

asked_left : (a : RequestContent) (found : Option FileText) (s : SessionState)
    → RefusesTurn s (asking a found s)
asked_left (asked.Load (load.Launch l)) found s = launched s.settings.program l found s
asked_left (asked.Load (load.Restart l)) found s = restarted s.settings.program l found s
asked_left (asked.Board c) found s = command_left c s
asked_left (asked.Faulty f) found s = λ text is. same s
asked_left (asked.Editor c) found s = edit_left c s

unless_left : (o : Option Text) (a : RequestContent) (found : Option FileText) (s : SessionState)
    → RefusesTurn s (asking_unless o a found s)
unless_left (Some text) a found s = λ text is. same s
unless_left None a found s = asked_left a found s

pub refused_turn : (a : RequestContent) (found : Option FileText) (s : SessionState)
    → RefusalLeaves s (turn a found s).outcome (turn a found s).state
unfolding turn
refused_turn a found s = λ text is.
    let left = unless_left (objection a s) a found s text is in
    record { board = left.board; program = left.program; points = left.points }
