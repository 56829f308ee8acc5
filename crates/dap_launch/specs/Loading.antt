-- A program on a board of its own, before it begins (Debug Adapter Protocol, `launch`).
use Rattle.std.specs.Prelude.{◌≡◌, ℕ, Bool, Option, Some, None, Result, Ok, Err, if◌then◌else◌}
use Rattle.base_text.specs.Bytes.{Text}
use Rattle.lab_core.specs.declared.event.Event.TheVariants as event
use Rattle.lab_core.specs.declared.answer.Answer.{Answer}
use Rattle.lab_core.specs.declared.answer.Answer.TheVariants as answer
use Rattle.lab_core.specs.declared.fault.EventFault.{EventFault}
use Rattle.lab_core.specs.declared.fault.EventFault.TheVariants as refused
use Rattle.lab_core.specs.Board.{Board, opening}
use Rattle.lab_core.specs.Events.{EventResult, result_of}
use Rattle.lab_core.specs.Labs.{RepresentsBoard}
use Rattle.dap_board.specs.Commands.{board_with}
use Rattle.dap_requests.specs.declared.request.Launch.{Launch}
use Rattle.dap_launch.specs.declared.load.Loaded.{Loaded}
use Rattle.dap_launch.specs.declared.load.LoadFault.{LoadFault}
use Rattle.dap_launch.specs.declared.load.LoadFault.TheVariants as fault
use Rattle.dap_run.specs.Boards.{after}

abbrev pub attached_where : Bool → Board → Board
attached_where is_debugged b = if is_debugged then after event.Attach b else b

-- the board that a program is loaded on
abbrev pub board_to_load_on : Launch → Board
board_to_load_on l = attached_where l.is_debugged
    (after (event.Switches l.switches) (after (event.SetBoard (board_with l.has_aliases)) opening))

abbrev pub start_of : Answer → Option ℕ
start_of (answer.Loaded start) = start
start_of _ = None

abbrev pub with_start : Option ℕ → Board → Result (Board × ℕ) LoadFault
with_start None b = Err fault.NoStart
with_start (Some start) b = Ok (b, start)

-- out of memory is not a refusal
abbrev pub fault_of : EventFault → LoadFault
fault_of refused.OutOfMemory = fault.OutOfMemory
fault_of f = fault.Refused f

abbrev pub loaded_by : EventResult → Result (Board × ℕ) LoadFault
loaded_by (Ok (a, b)) = with_start (start_of a) b
loaded_by (Err f) = Err (fault_of f)

-- the board with the program, and its start address
unfoldable pub load_result : Launch → Text → Result (Board × ℕ) LoadFault
load_result l text = loaded_by (result_of (event.Load l.program text) (board_to_load_on l))

-- what is loaded is so
abbrev pub Loads : Result (Board × ℕ) LoadFault → Result Loaded LoadFault → Type 0
Loads (Ok (b, start)) (Ok l) = RepresentsBoard l.lab b × (l.start ≡ start)
Loads (Err f) (Err f') = f' ≡ f
Loads (Ok (b, start)) (Err f') = ⊥
Loads (Err f) (Ok l) = ⊥
