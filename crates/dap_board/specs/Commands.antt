-- What each debug command makes of a board (Debug Adapter Protocol, "Requests"; Jupyter messaging,
-- "Debug request").
use Rattle.std.specs.Prelude.{ℕ, ◌+◌, ◌≤◌, length, Result, Ok, Err, OnErr, ◌≡◌, Bool, true, false}
use Rattle.base_text.specs.Bytes.{Text}
use Rattle.base_text.specs.Latin.{latin_bytes}
use Rattle.i80_base.specs.declared.board.Board.{Board as BoardOption}
use Rattle.i80_base.specs.declared.board.Board.TheVariants.{Strict, Aliases}
use Rattle.i80_exec.specs.State.{MachineState, modulo_65536}
use Rattle.lab_views.specs.declared.view.View.TheVariants as view
use Rattle.lab_views.specs.Code.{after_instructions}
use Rattle.lab_core.specs.declared.answer.Answer.{Answer}
use Rattle.lab_core.specs.declared.event.Event.{Event}
use Rattle.lab_core.specs.declared.event.Event.TheVariants as event
use Rattle.lab_core.specs.declared.event.StepRequest.{StepRequest}
use Rattle.lab_core.specs.declared.fault.EventFault.{EventFault}
use Rattle.lab_core.specs.Board.{Board}
use Rattle.lab_core.specs.Events.{EventResult, result_of}
use Rattle.lab_core.specs.Labs.{LabState, CarriesOut}
use Rattle.dap_answers.specs.declared.answer.Body.{Body}
use Rattle.dap_answers.specs.declared.answer.Body.TheVariants as body
use Rattle.dap_answers.specs.Murmur.{cell_path}
use Rattle.lab_shown.specs.declared.step.StepKind.{StepKind}
use Rattle.lab_shown.specs.declared.step.Granularity.{Granularity}
use Rattle.dap_talk.specs.declared.command.DapCommand.{DapCommand}
use Rattle.dap_talk.specs.declared.command.DapCommand.TheVariants as command
use Rattle.dap_board.specs.Bodies.{body_of}

abbrev pub Performed : Type 0
Performed = Result (Body × Board) EventFault

-- The lab does what the definition says of its board, and on an `Err` it is as it was.
abbrev pub Performs : (Board → Performed) → LabState → Result Body EventFault → LabState → Type 0
Performs f old result new = CarriesOut f old result new × OnErr result (new ≡ old)

-- what an event is answered, with a body in place of the answer
abbrev pub reply_with : (Answer → Body) → Result Answer EventFault → Result Body EventFault
reply_with to_body (Ok answer) = Ok (to_body answer)
reply_with to_body (Err fault) = Err fault

-- the result of an event, with a body in place of the answer
abbrev pub with_body : (Answer → Body) → EventResult → Performed
with_body to_body (Ok (answer, b)) = Ok (to_body answer, b)
with_body to_body (Err fault) = Err fault

-- the event is done, and the body carries its answer
abbrev pub event_result : Event → Board → Performed
event_result event b = with_body body_of (result_of event b)

-- the event is done, and the body is this one
abbrev pub event_with_body : Event → Body → Board → Performed
event_with_body event body b = with_body (λ _. body) (result_of event b)

abbrev pub step_request : StepKind → Granularity → StepRequest
step_request kind granularity = record { kind = kind; granularity = granularity }

-- The address of a disassembly's first line: a number of bytes, and then of instructions, after an address.
-- Addresses wrap, and the count of instructions does not.
abbrev pub first_line : MachineState → ℕ → ℕ → ℕ → ℕ
first_line m address offset instruction_offset =
    after_instructions m (modulo_65536 (address + offset)) instruction_offset

abbrev pub code_lines_result : ℕ → ℕ → ℕ → ℕ → Board → Performed
code_lines_result address offset instruction_offset count b =
    event_result (event.Show (view.Code (first_line b.machine address offset instruction_offset) count)) b

-- the board on which the undefined opcodes act, or on which they don't
abbrev pub board_with : Bool → BoardOption
board_with true = Aliases
board_with false = Strict

-- a cell's text is stored under the path by which a frontend names it
abbrev pub cell_dump : Text → Board → Performed
cell_dump code b = event_with_body (event.Dump (cell_path code) code) (body.SourcePath (cell_path code)) b

-- what a command makes of a board: the body of its response and the board after it, or why it is refused
unfoldable pub command_result : DapCommand → Board → Performed
command_result command.Initialize b = Ok (body.Capabilities, b)
command_result command.Attach b = event_with_body event.Attach body.Empty b
command_result command.Disconnect b = event_with_body event.Detach body.Empty b
command_result command.ConfigurationDone b = Ok (body.Empty, b)
command_result (command.SetBreakpoints path lines) b = event_result (event.SetBreakpoints path lines) b
command_result command.Threads b = Ok (body.Threads, b)
command_result (command.StackTrace start levels) b = event_result (event.Show (view.Frames start levels)) b
command_result (command.Scopes frame) b = event_result (event.Show (view.Scopes frame)) b
command_result (command.Variables reference start count) b =
    event_result (event.Show (view.Variables reference start count)) b
command_result command.Continue b = event_with_body event.Resume body.Continued b
command_result (command.Step kind granularity) b =
    event_with_body (event.Step (step_request kind granularity)) body.Empty b
command_result command.Pause b = event_with_body event.Pause body.Empty b
command_result (command.Disassemble address offset instruction_offset count) b =
    code_lines_result address offset instruction_offset count b
command_result (command.Source path) b = event_result (event.Show (view.Source path)) b
command_result (command.DumpCell code) b = cell_dump code b
command_result command.DebugInfo b = event_result (event.Show view.Info) b
command_result command.InspectVariables b = event_result (event.Show (view.Variables 1 0 0)) b
command_result (command.SetVariable reference name value) b = event_result (event.Poke reference name value) b
command_result (command.BoardSwitches value) b = event_with_body (event.Switches value) body.Empty b
command_result (command.BoardPress vector) b = event_with_body (event.Press vector) body.Empty b
command_result (command.BoardType text) b = event_with_body (event.Typed (latin_bytes text)) body.Empty b
command_result command.BoardReset b = event_with_body event.Reset body.Empty b
command_result (command.BoardAliases aliases) b =
    event_with_body (event.SetBoard (board_with aliases)) body.Empty b

-- no list of lines is longer than a board allows
abbrev pub IsPerformable : DapCommand → Type 0
IsPerformable (command.SetBreakpoints path lines) = length lines ≤ 256
IsPerformable other = Unit {0}

-- the commands that look at the board
abbrev pub IsLook : DapCommand → Type 0
IsLook (command.StackTrace start levels) = Unit {0}
IsLook (command.Scopes frame) = Unit {0}
IsLook (command.Variables reference start count) = Unit {0}
IsLook (command.Disassemble address offset instruction_offset count) = Unit {0}
IsLook (command.Source path) = Unit {0}
IsLook command.DebugInfo = Unit {0}
IsLook command.InspectVariables = Unit {0}
IsLook other = ⊥
