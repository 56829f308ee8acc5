-- The breakpoints that an editor has set: on the lines of sources, at labels, on data, and at instructions.
use Rattle.std.specs.Prelude.{ℕ, ◌+◌, List, [], ◌∷◌, ◌++◌, length, take, slice_get, slice_set, nat_lt, Bool}
use Rattle.std.specs.Prelude.{true, Option, Some, None}
use Rattle.std.specs.List.{position}
use Rattle.std.specs.Str.{bytes_eq}
use Rattle.base_text.specs.Bytes.{Text}
use Rattle.dap_requests.specs.declared.request.LineBreakpoint.{LineBreakpoint}
use Rattle.dap_requests.specs.declared.request.FunctionBreakpoint.{FunctionBreakpoint}
use Rattle.dap_requests.specs.declared.request.DataBreakpoint.{DataBreakpoint}
use Rattle.dap_requests.specs.declared.request.InstructionBreakpoint.{InstructionBreakpoint}
use Rattle.dap_points.specs.declared.points.SourceLines.{SourceLines}

-- the view of a value of this type
pub record WantedBreakpointsState : Type 0 where
  -- in the order in which the sources were added
  pub lists : List SourceLines
  pub functions : List FunctionBreakpoint
  pub on_data : List DataBreakpoint
  pub instructions : List InstructionBreakpoint

abbrev pub no_points : WantedBreakpointsState
no_points = record { lists = []; functions = []; on_data = []; instructions = [] }

-- the place of a source, if it has one
abbrev pub place_of : Text → List SourceLines → Option ℕ
place_of path lists = position (λ l. bytes_eq l.path path) lists

-- a new source comes last
abbrev pub place_or : ℕ → Option ℕ → ℕ
place_or last None = last
place_or last (Some place) = place

-- Sources are numbered from 1; a new one has the number that it will get.
abbrev pub number_of : Text → List SourceLines → ℕ
number_of path lists = place_or (length lists) (place_of path lists) + 1

-- at most 1,024 sources are kept
abbrev pub may_keep : Option ℕ → ℕ → Bool
may_keep (Some place) count = true
may_keep None count = nat_lt count 1024

abbrev pub has_place : Text → List SourceLines → Bool
has_place path lists = may_keep (place_of path lists) (length lists)

abbrev pub lines_in : Option SourceLines → List LineBreakpoint
lines_in None = []
lines_in (Some l) = l.lines

abbrev pub list_at : List SourceLines → Option ℕ → Option SourceLines
list_at lists None = None
list_at lists (Some place) = slice_get lists place

-- the breakpoints of a source, of which at most 256 are used
abbrev pub lines_at : Text → List SourceLines → List LineBreakpoint
lines_at path lists = take 256 (lines_in (list_at lists (place_of path lists)))

abbrev pub kept_at : Option ℕ → SourceLines → List SourceLines → List SourceLines
kept_at (Some place) l lists = slice_set lists place l
kept_at None l lists = lists ++ l ∷ []

-- the source has these breakpoints from now on
abbrev pub with_lines : Text → List LineBreakpoint → WantedBreakpointsState → WantedBreakpointsState
with_lines path lines p =
    record p { lists = kept_at (place_of path p.lists) (record { path = path; lines = lines }) p.lists }
