-- The breakpoints of all sources, as an editor is told of them (Debug Adapter Protocol, the event
-- `breakpoint`).
use Rattle.std.specs.Prelude.{ℕ, ◌+◌, List, [], ◌∷◌, ◌++◌, take, Option, Some, None, if◌then◌else◌}
use Rattle.std.specs.Str.{bytes_eq}
use Rattle.lab_core.specs.Board.{Board}
use Rattle.dap_messages.specs.declared.message.BreakpointNote.TheVariants.{NotLaunched, OtherProgram}
use Rattle.dap_messages.specs.declared.message.PlacedBreakpoint.{PlacedBreakpoint}
use Rattle.dap_requests.specs.declared.request.FunctionBreakpoint.{FunctionBreakpoint}
use Rattle.dap_requests.specs.declared.request.DataBreakpoint.{DataBreakpoint}
use Rattle.dap_requests.specs.declared.request.InstructionBreakpoint.{InstructionBreakpoint}
use Rattle.dap_points.specs.declared.points.SourceLines.{SourceLines}
use Rattle.dap_points.specs.Points.{WantedBreakpointsState}
use Rattle.dap_points.specs.Placed.{other_points, unlaunched_labels, unlaunched_data}
use Rattle.dap_points.specs.Placed.{unlaunched_instructions}
use Rattle.dap_points.specs.Changes.{changed_points}
use Rattle.dap_breakpoints.specs.Data.{points_on}
use Rattle.dap_breakpoints.specs.Instructions.{instructions_on}
use Rattle.dap_breakpoints.specs.Lines.{lines_on, labels_on}
use Rattle.dap_run.specs.declared.program.Program.{Program}

-- those of the source with this number, beside a program
abbrev pub points_for : Program → Board → ℕ → SourceLines → List PlacedBreakpoint
points_for p b number l =
    if bytes_eq p.launch.canonical l.path then lines_on b number (take 256 l.lines)
    else other_points (OtherProgram p.launch.program) number 0 (take 256 l.lines)

abbrev pub points_where : Option Program → Board → ℕ → SourceLines → List PlacedBreakpoint
points_where None b number l = other_points NotLaunched number 0 (take 256 l.lines)
points_where (Some p) b number l = points_for p b number l

-- those at labels
abbrev pub labels_where : Option Program → List FunctionBreakpoint → Board → List PlacedBreakpoint
labels_where None functions b = unlaunched_labels 0 functions
labels_where (Some p) functions b = labels_on b functions

-- those on data
abbrev pub data_where : Option Program → List DataBreakpoint → Board → List PlacedBreakpoint
data_where None on_data b = unlaunched_data 0 on_data
data_where (Some p) on_data b = points_on b on_data

-- those at instructions
abbrev pub instructions_where : Option Program → List InstructionBreakpoint → Board → List PlacedBreakpoint
instructions_where None instructions b = unlaunched_instructions 0 instructions
instructions_where (Some p) instructions b = instructions_on b instructions

-- ---- when a program takes the place of what was on the board

-- those that aren't what they were, of the sources from this number on
abbrev pub changed_from : Option Program → Board → Program → Board → ℕ → List SourceLines
    → List PlacedBreakpoint
changed_from before old p b number [] = []
changed_from before old p b number (l ∷ ls) =
    changed_points (points_where before old number l) (points_for p b number l)
    ++ changed_from before old p b (number + 1) ls

-- those on data and at instructions that aren't what they were
abbrev pub changed_off_lines : Option Program → Board → Board → WantedBreakpointsState
    → List PlacedBreakpoint
changed_off_lines before old b kept =
    let on_data = take 256 kept.on_data in
    let instructions = take 256 kept.instructions in
    changed_points (data_where before on_data old) (points_on b on_data)
    ++ changed_points (instructions_where before instructions old) (instructions_on b instructions)

abbrev pub all_changed : Option Program → Board → Program → WantedBreakpointsState → Board
    → List PlacedBreakpoint
all_changed before old p kept b =
    let functions = take 256 kept.functions in
    changed_from before old p b 1 kept.lists
    ++ (changed_points (labels_where before functions old) (labels_on b functions)
    ++ changed_off_lines before old b kept)
