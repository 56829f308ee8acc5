-- Breakpoints on the lines and at the labels of a program on its board (Debug Adapter Protocol,
-- "Breakpoints").
use Rattle.std.specs.Prelude.{ℕ, List, find, nat_le, map, Option, option_map}
use Rattle.lab_core.specs.Board.{Board}
use Rattle.dap_requests.specs.declared.request.LineBreakpoint.{LineBreakpoint}
use Rattle.dap_points.specs.declared.placed.LandedLine.{LandedLine}
use Rattle.dap_conditions.specs.Conditions.{objection}
use Rattle.dap_disassembly.specs.CodeLines.{code_lines}
use Rattle.base_text.specs.Bytes.{Text}
use Rattle.dap_messages.specs.declared.message.PlacedBreakpoint.{PlacedBreakpoint}
use Rattle.dap_requests.specs.declared.request.FunctionBreakpoint.{FunctionBreakpoint}
use Rattle.dap_disassembly.specs.Labels.{line_of_label}
use Rattle.dap_points.specs.declared.placed.FoundLabel.{FoundLabel}
use Rattle.dap_points.specs.Placed.{line_points, label_points}

-- a breakpoint lands on the first of these lines that is its own or below it
abbrev pub landed_in : Board → List ℕ → LineBreakpoint → LandedLine
landed_in b lines asked = record {
  line = asked.line;
  options = asked.options;
  objection = objection b asked.options asked.has_texts;
  landing = find (nat_le asked.line) lines;
}

abbrev pub landed_at : Board → LineBreakpoint → LandedLine
landed_at b asked = landed_in b (code_lines b) asked

-- on these lines of the program, which is the source with this number
abbrev pub lines_on : Board → ℕ → List LineBreakpoint → List PlacedBreakpoint
lines_on b number lines = line_points number 0 (map (landed_at b) lines)

abbrev pub label_line : Board → Text → Option ℕ
label_line b name = option_map (λ at. at.line) (line_of_label b name)

abbrev pub found_label : Board → FunctionBreakpoint → FoundLabel
found_label b f = record {
  line = label_line b f.name;
  options = f.options;
  objection = objection b f.options f.has_texts;
}

-- at labels
abbrev pub labels_on : Board → List FunctionBreakpoint → List PlacedBreakpoint
labels_on b functions = label_points 0 (map (found_label b) functions)
