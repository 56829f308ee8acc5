-- The lines at which a board stops.
use Rattle.std.specs.Prelude.{ℕ, List, ◌++◌, take, Bool, ◌&&◌, Option, None, is_none, if◌then◌else◌}
use Rattle.std.specs.List.{filter_map}
use Rattle.dap_messages.specs.declared.message.BreakpointOptions.{BreakpointOptions}
use Rattle.dap_messages.specs.declared.message.PlacedBreakpoint.{PlacedBreakpoint}

-- the line of a verified breakpoint
abbrev pub verified_line : PlacedBreakpoint → Option ℕ
verified_line p = if p.is_verified then p.line else None

-- it has no options
abbrev pub is_plain : BreakpointOptions → Bool
is_plain o = is_none o.condition && (is_none o.hit_condition && is_none o.log_message)

-- A board stops only at breakpoints without options.
abbrev pub plain_line : PlacedBreakpoint → Option ℕ
plain_line p = if is_plain p.options then verified_line p else None

abbrev pub plain_lines : List PlacedBreakpoint → List ℕ
plain_lines points = filter_map plain_line points

-- of those on lines, then of those at labels
abbrev pub wanted_lines : List PlacedBreakpoint → List PlacedBreakpoint → List ℕ
wanted_lines lines labels = plain_lines lines ++ plain_lines labels

-- A board takes 256 lines. At others a debugger stops it.
abbrev pub board_lines : List PlacedBreakpoint → List PlacedBreakpoint → List ℕ
board_lines lines labels = take 256 (wanted_lines lines labels)
