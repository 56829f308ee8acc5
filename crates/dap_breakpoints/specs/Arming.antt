-- The breakpoints of a launched program, at which its run stops (Debug Adapter Protocol, "Breakpoints").
use Rattle.std.specs.Prelude.{ℕ, List, ◌≡◌, ◌≤◌, [], ◌++◌, length, take, if◌then◌else◌, Result, IfOk}
use Rattle.base_text.specs.Bytes.{Text}
use Rattle.lab_core.specs.declared.event.Event.TheVariants.{SetBreakpoints}
use Rattle.lab_core.specs.Board.{Board}
use Rattle.dap_requests.specs.declared.request.LineBreakpoint.{LineBreakpoint}
use Rattle.dap_requests.specs.declared.request.FunctionBreakpoint.{FunctionBreakpoint}
use Rattle.dap_run.specs.Boards.{after}
use Rattle.std.specs.declared.alloc.AllocError.{AllocError}
use Rattle.lab_core.specs.Labs.{LabState, RepresentsBoard}
use Rattle.dap_requests.specs.declared.request.DataBreakpoint.{DataBreakpoint}
use Rattle.dap_requests.specs.declared.request.InstructionBreakpoint.{InstructionBreakpoint}
use Rattle.dap_points.specs.Points.{WantedBreakpointsState, number_of, lines_at}
use Rattle.dap_slice.specs.declared.conditions.ConditionalBreakpoint.{ConditionalBreakpoint}
use Rattle.dap_points.specs.Boards.{board_lines}
use Rattle.dap_breakpoints.specs.Lines.{lines_on, labels_on}
use Rattle.dap_breakpoints.specs.Data.{watches_on}
use Rattle.dap_breakpoints.specs.Instructions.{breaks_on}
use Rattle.dap_conditions.specs.Conditions.{conditional_points}
use Rattle.dap_run.specs.declared.program.Program.{Program}
use Rattle.dap_breakpoints.specs.declared.arming.ProgramBreakpoints.{ProgramBreakpoints}
use Rattle.dap_breakpoints.specs.declared.arming.PlacedLists.{PlacedLists}

-- the board stops on these lines of the program
abbrev pub board_armed_at : Text → List ℕ → Board → Board
board_armed_at path lines b = after (SetBreakpoints path lines) b

-- ---- its breakpoints, on the board that it is loaded on

-- on these lines, of the source with this number, and at these labels; and those at which the board stops
abbrev pub placed_at : Board → ℕ → List LineBreakpoint → List FunctionBreakpoint → PlacedLists
placed_at b number lines functions =
    let on_lines = lines_on b number lines in
    let at_labels = labels_on b functions in
    record { lines = on_lines; labels = at_labels; on_board = board_lines on_lines at_labels }

-- its board, which stops there
abbrev pub armed_with : Program → ℕ → List LineBreakpoint → List FunctionBreakpoint → Board → Board
armed_with p number lines functions b =
    board_armed_at p.launch.program (placed_at b number lines functions).on_board b

-- ---- what is wanted of it

-- The breakpoints on a program's lines, which are those of the source with this number, at labels, on data,
-- and at instructions.
pub record ProgramLists : Type 0 where
  pub number : ℕ
  pub lines : List LineBreakpoint
  pub functions : List FunctionBreakpoint
  pub on_data : List DataBreakpoint
  pub instructions : List InstructionBreakpoint

abbrev pub lists_in : ProgramBreakpoints → ProgramLists
lists_in w = record {
  number = w.number;
  lines = w.lines.now;
  functions = w.functions.now;
  on_data = w.on_data.now;
  instructions = w.instructions.now;
}

-- those that are kept for the program
abbrev pub program_lists : Program → WantedBreakpointsState → ProgramLists
program_lists p kept = record {
  number = number_of p.launch.canonical kept.lists;
  lines = lines_at p.launch.canonical kept.lists;
  functions = take 256 kept.functions;
  on_data = take 256 kept.on_data;
  instructions = take 256 kept.instructions;
}

-- they have the number of a source, and are as few as a request may have
abbrev pub AreFew : ProgramLists → Type 0
AreFew w = (w.number ≤ 1025) × (length w.lines ≤ 256) × (length w.functions ≤ 256)
    × (length w.on_data ≤ 256) × (length w.instructions ≤ 256)

-- the program's board, which stops on these lines and at these labels
abbrev pub armed_for : Program → ProgramLists → Board → Board
armed_for p w b = armed_with p w.number w.lines w.functions b

abbrev pub program_board : Program → WantedBreakpointsState → Board → Board
program_board p kept b = armed_for p (program_lists p kept) b

-- where they are on the board
abbrev pub placed_on : Board → ProgramLists → PlacedLists
placed_on b w = placed_at b w.number w.lines w.functions

-- those on data and at instructions; a run without a debugger has none
abbrev pub off_lines : Program → ProgramLists → Board → List ConditionalBreakpoint
off_lines p w b =
    if p.launch.is_debugged then watches_on b w.on_data ++ breaks_on b w.instructions else []

-- those on lines and at labels; a run without a debugger has none
abbrev pub conditional_in : Program → Board → PlacedLists → List ConditionalBreakpoint
conditional_in p b l =
    let points = conditional_points p.launch.program l.on_board b in
    if p.launch.is_debugged then points l.lines ++ points l.labels else []

abbrev pub conditional_with : Program → ℕ → List LineBreakpoint → List FunctionBreakpoint → Board
    → List ConditionalBreakpoint
conditional_with p number lines functions b = conditional_in p b (placed_at b number lines functions)

-- the same, and those that aren't on lines
abbrev pub conditional_for : Program → ProgramLists → Board → List ConditionalBreakpoint
conditional_for p w b = conditional_with p w.number w.lines w.functions b ++ off_lines p w b

abbrev pub program_conditions : Program → WantedBreakpointsState → Board → List ConditionalBreakpoint
program_conditions p kept b = conditional_for p (program_lists p kept) b

-- For each board that the lab represents: it was armed so, and these are its breakpoints with options.
abbrev pub ArmsAs : (Board → Board) → (Board → List ConditionalBreakpoint) → LabState
    → Result (List ConditionalBreakpoint) AllocError → LabState
    → Type 0
ArmsAs armed conditional old result new = (b : Board) → RepresentsBoard old b
    → IfOk result (λ points. (points ≡ conditional b) × RepresentsBoard new (armed b))
