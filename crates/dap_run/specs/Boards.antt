-- The board after an event, which a refused event leaves as it was, and after a command.
use Rattle.std.specs.Prelude.{ℕ, Bool, Ok, Err, if◌then◌else◌}
use Rattle.lab_core.specs.declared.event.Event.{Event}
use Rattle.lab_core.specs.declared.event.Event.TheVariants as event
use Rattle.lab_core.specs.Board.{Board}
use Rattle.lab_core.specs.Changes.{after_registers}
use Rattle.lab_core.specs.Events.{EventResult, result_of}
use Rattle.lab_core.specs.Labs.{LabState, RepresentsBoard}
use Rattle.dap_board.specs.Commands.{Performed, command_result}
use Rattle.dap_requests.specs.declared.request.BoardCommand.{BoardCommand}
use Rattle.dap_requests.specs.Board.{kernel_command}

abbrev pub board_after : Board → EventResult → Board
board_after b (Ok (answer, b')) = b'
board_after b (Err fault) = b

abbrev pub after : Event → Board → Board
after e b = board_after b (result_of e b)

-- what a command makes of a board: the body of its response and the board after it, or why it is refused
abbrev pub board_result : BoardCommand → Board → Performed
board_result c b = command_result (kernel_command c) b

-- the events that allocate nothing
abbrev pub IsSure : Event → Type 0
IsSure (event.Start address) = Unit {0}
IsSure event.Pause = Unit {0}
IsSure event.Interrupt = Unit {0}
IsSure (event.SetBoard option) = Unit {0}
IsSure event.Attach = Unit {0}
IsSure (event.Switches byte) = Unit {0}
IsSure _ = ⊥

-- A run begins at an address. If it pauses, it is stopped before its first step.
abbrev pub begin_run : ℕ → Bool → Board → Board
begin_run start pauses b =
    if pauses then after event.Pause (after (event.Start start) b) else after (event.Start start) b

-- PC is set by hand
abbrev pub after_goto : ℕ → Board → Board
after_goto address b = after_registers (record b.machine.regs { pc = address }) b

-- the lab represents some board
abbrev pub RepresentsSomeBoard : LabState → Type 0
RepresentsSomeBoard lab = (b : Board) × RepresentsBoard lab b
