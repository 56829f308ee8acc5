-- What breakpoints with log messages tell (Debug Adapter Protocol, "SourceBreakpoint": `logMessage`).
use Rattle.std.specs.Prelude.{ℕ, zero, suc, List, [], ◌++◌, nat_lt, Option, None, option_map}
use Rattle.std.specs.Prelude.{if◌then◌else◌}
use Rattle.std.specs.List.{filter_map}
use Rattle.lab_core.specs.Board.{Board}
use Rattle.lab_core.specs.Slices.{after_steps}
use Rattle.dap_log.specs.Messages.{text_on}
use Rattle.dap_slice.specs.declared.conditions.ConditionalBreakpoint.{ConditionalBreakpoint}
use Rattle.dap_slice.specs.declared.conditions.LogPoint.{LogPoint}
use Rattle.dap_slice.specs.declared.logs.LogLine.{LogLine}
use Rattle.dap_slice.specs.Conditions.{acts_on}

abbrev pub line_on : Board → LogPoint → LogLine
line_on b l = record { text = text_on b l.message; path = l.path; line = l.line }

-- a breakpoint tells its message where it acts
abbrev pub log_on : Board → ConditionalBreakpoint → Option LogLine
log_on b p = if acts_on b p then option_map (line_on b) p.log else None

abbrev pub logs_on : List ConditionalBreakpoint → Board → List LogLine
logs_on points b = filter_map (log_on b) points

-- A message is told where the run goes on from its breakpoint, before the instruction there is executed, or a
-- button is accepted in its place. So a slice of k steps tells those of the board where it begins, unless it
-- makes no step.
abbrev pub logs_before : List ConditionalBreakpoint → ℕ → Board → List LogLine
logs_before points k b = if nat_lt 0 k then logs_on points b else []

-- ---- for laws

-- what each of so many steps tells, in order
abbrev pub logs_of_steps : List ConditionalBreakpoint → ℕ → Board → List LogLine
logs_of_steps points zero b = []
logs_of_steps points (suc k) b = logs_of_steps points k b ++ logs_on points (after_steps k b)
