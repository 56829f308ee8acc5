-- Breakpoints (Debug Adapter Protocol, `setBreakpoints`, `setFunctionBreakpoints`, `setDataBreakpoints`,
-- `dataBreakpointInfo` and `breakpointLocations`).
use Rattle.std.specs.Prelude.{ℕ, List, [], take, Option, Some, None, option_map, codes}
use Rattle.std.specs.Prelude.{if◌then◌else◌}
use Rattle.base_text.specs.Bytes.{Text}
use Rattle.lab_core.specs.Board.{Board}
use Rattle.dap_messages.specs.declared.message.EditorBody.TheVariants.{Breakpoints, DataInfo, Locations}
use Rattle.dap_requests.specs.declared.request.LineBreakpoint.{LineBreakpoint}
use Rattle.dap_requests.specs.declared.request.FunctionBreakpoint.{FunctionBreakpoint}
use Rattle.dap_requests.specs.declared.request.DataBreakpoint.{DataBreakpoint}
use Rattle.dap_requests.specs.declared.request.InstructionBreakpoint.{InstructionBreakpoint}
use Rattle.dap_requests.specs.declared.request.DataQuery.{DataQuery}
use Rattle.dap_points.specs.declared.points.SourceLines.{SourceLines}
use Rattle.dap_points.specs.Points.{WantedBreakpointsState, number_of, has_place, with_lines}
use Rattle.dap_slice.specs.declared.conditions.ConditionalBreakpoint.{ConditionalBreakpoint}
use Rattle.dap_slice.specs.Counts.{with_counts}
use Rattle.dap_run.specs.declared.messages.FollowUp.TheVariants.{Nothing}
use Rattle.dap_disassembly.specs.CodeLines.{locations}
use Rattle.dap_breakpoints.specs.Info.{data_info}
use Rattle.dap_run.specs.declared.program.Program.{Program}
use Rattle.dap_breakpoints.specs.Arming.{ProgramLists, program_lists, armed_for, conditional_for}
use Rattle.dap_run.specs.Programs.{program_at}
use Rattle.dap_breakpoints.specs.Reports.{points_where, labels_where, data_where, instructions_where}
use Rattle.dap_session.specs.States.{SessionState, with_board, with_points, with_conditional}
use Rattle.dap_session.specs.Turns.{Replied, refusing, succeeding}

-- ---- what is wanted of the program

-- these lines in place of those that are kept
abbrev pub lines_wanted : SourceLines → WantedBreakpointsState → Program → ProgramLists
lines_wanted l kept p = record (program_lists p kept) { lines = take 256 l.lines }

abbrev pub labels_wanted : List FunctionBreakpoint → WantedBreakpointsState → Program → ProgramLists
labels_wanted functions kept p = record (program_lists p kept) { functions = functions }

abbrev pub data_wanted : List DataBreakpoint → WantedBreakpointsState → Program → ProgramLists
data_wanted on_data kept p = record (program_lists p kept) { on_data = on_data }

abbrev pub instructions_wanted : List InstructionBreakpoint → WantedBreakpointsState → Program → ProgramLists
instructions_wanted instructions kept p = record (program_lists p kept) { instructions = instructions }

-- a list that is set: its number, and what is wanted of the program with it, beside what is kept
pub record SetList : Type 0 where
  pub number : WantedBreakpointsState → ℕ
  pub wanted : WantedBreakpointsState → Program → ProgramLists

abbrev pub lines_list : SourceLines → SetList
lines_list l = record { number = λ kept. number_of l.path kept.lists; wanted = lines_wanted l }

abbrev pub labels_list : List FunctionBreakpoint → SetList
labels_list functions = record { number = λ kept. 0; wanted = labels_wanted functions }

abbrev pub data_list : List DataBreakpoint → SetList
data_list on_data = record { number = λ kept. 1025; wanted = data_wanted on_data }

abbrev pub instructions_list : List InstructionBreakpoint → SetList
instructions_list instructions = record { number = λ kept. 1026; wanted = instructions_wanted instructions }

-- ---- what it does

-- the board, which stops there if it has the program
abbrev pub armed_where : Option Program → (Program → ProgramLists) → Board → Board
armed_where None wanted b = b
armed_where (Some p) wanted b = armed_for p (wanted p) b

-- New breakpoints at which the program's run stops, if there are any, in place of the old ones: those of the
-- list with this number were set, and the others count their hits on.
abbrev pub kept_or : ℕ → Option (List ConditionalBreakpoint) → List ConditionalBreakpoint
    → List ConditionalBreakpoint
kept_or number None old = old
kept_or number (Some points) old = with_counts number old points

-- those at which the program's run stops; without it they stay what they were
abbrev pub conditional_where : SetList → Option Program → SessionState → List ConditionalBreakpoint
conditional_where l program s =
    let kept = s.settings.points in
    kept_or (l.number kept) (option_map (λ p. conditional_for p (l.wanted kept p) s.board) program)
    s.settings.conditional

-- ---- lines

abbrev pub lines_set : SourceLines → SessionState → Replied
lines_set l s =
    let kept = s.settings.points in
    let program = program_at l.path s.settings.program in
    succeeding (Breakpoints (points_where s.settings.program s.board (number_of l.path kept.lists) l)) Nothing
    (with_points (with_lines l.path l.lines kept)
    (with_conditional (conditional_where (lines_list l) program s)
    (with_board (armed_where program (lines_wanted l kept) s.board) s)))

abbrev pub setting_lines : Text → List LineBreakpoint → SessionState → Replied
setting_lines path lines s =
    if has_place path s.settings.points.lists then lines_set (record { path = path; lines = lines }) s
    else refusing (codes "too many sources have breakpoints") s

-- ---- labels

abbrev pub setting_functions : List FunctionBreakpoint → SessionState → Replied
setting_functions functions s =
    let kept = s.settings.points in
    let program = s.settings.program in
    succeeding (Breakpoints (labels_where program functions s.board)) Nothing
    (with_points (record kept { functions = functions })
    (with_conditional (conditional_where (labels_list functions) program s)
    (with_board (armed_where program (labels_wanted functions kept) s.board) s)))

-- ---- data and instructions, which don't concern the board

abbrev pub setting_data : List DataBreakpoint → SessionState → Replied
setting_data on_data s =
    let program = s.settings.program in
    succeeding (Breakpoints (data_where program on_data s.board)) Nothing
    (with_points (record s.settings.points { on_data = on_data })
    (with_conditional (conditional_where (data_list on_data) program s) s))

abbrev pub setting_instructions : List InstructionBreakpoint → SessionState → Replied
setting_instructions instructions s =
    let program = s.settings.program in
    succeeding (Breakpoints (instructions_where program instructions s.board)) Nothing
    (with_points (record s.settings.points { instructions = instructions })
    (with_conditional (conditional_where (instructions_list instructions) program s) s))

-- ---- questions

-- what a data breakpoint would watch
abbrev pub describing_data : DataQuery → SessionState → Replied
describing_data query s = succeeding (DataInfo (data_info s.board query)) Nothing s

-- none in a source that isn't the program
abbrev pub locations_in : Option Program → ℕ → ℕ → Board → List ℕ
locations_in None first last b = []
locations_in (Some program) first last b = locations first last b

abbrev pub locating : Text → ℕ → ℕ → SessionState → Replied
locating path first last s =
    succeeding (Locations (locations_in (program_at path s.settings.program) first last s.board)) Nothing s
