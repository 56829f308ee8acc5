-- The lines of a program on which statements with bytes begin (Debug Adapter Protocol,
-- `breakpointLocations`).
use Rattle.std.specs.Prelude.{ℕ, zero, suc, List, [], filter, nat_le, ◌&&◌, Option, Some, None, option_map}
use Rattle.std.specs.Ordering.{nat_cmp}
use Rattle.std.specs.BTreeSet.{insert_key}
use Rattle.lab_core.specs.Board.{Board}
use Rattle.dap_disassembly.specs.Targets.{target_at}

-- the line of the statement that begins at an address
abbrev pub line_at : Board → ℕ → Option ℕ
line_at b address = option_map (λ t. t.line) (target_at b 0 address)

-- ascending lines with another line at its place, unless it is there
abbrev pub with_line : Option ℕ → List ℕ → List ℕ
with_line None lines = lines
with_line (Some line) lines = insert_key nat_cmp lines line

-- those of so many addresses from 0 on, ascending and each once
unfoldable pub lines_among : ℕ → Board → List ℕ
lines_among zero b = []
lines_among (suc n) b = with_line (line_at b n) (lines_among n b)

unfoldable pub code_lines : Board → List ℕ
code_lines b = lines_among 65536 b

-- those between two lines
abbrev pub locations : ℕ → ℕ → Board → List ℕ
locations first last b = filter (λ line. nat_le first line && nat_le line last) (code_lines b)
