-- The breakpoints, by the paths of their sources.
use Rattle.std.specs.Prelude.{ℕ, List, Option, option_map}
use Rattle.std.specs.List.{filter_map}
use Rattle.lab_image.specs.declared.sources.Source.{Source}
use Rattle.lab_image.specs.declared.lists.BreakpointList.{BreakpointList}
use Rattle.lab_shown.specs.declared.shown.SourceBreakpoints.{SourceBreakpoints}
use Rattle.lab_views.specs.Frames.{path_of}

abbrev pub with_path : List ℕ → BreakpointList → SourceBreakpoints
with_path path list = record { path = path; lines = list.lines }

abbrev pub breakpoints_in : List Source → BreakpointList → Option SourceBreakpoints
breakpoints_in sources list = option_map (λ path. with_path path list) (path_of sources list.source)

-- each list whose source is kept, as all are, in their order
abbrev pub breakpoints_of : List Source → List BreakpointList → List SourceBreakpoints
breakpoints_of sources lists = filter_map (breakpoints_in sources) lists
