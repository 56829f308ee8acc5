-- Breakpoints as an editor is told of them: their numbers, where each is met, or why it isn't (Debug Adapter
-- Protocol, "Breakpoint").
use Rattle.std.specs.Prelude.{ℕ, ◌+◌, ◌*◌, ◌==◌, List, [], ◌∷◌, Bool, true, false, if◌then◌else◌}
use Rattle.std.specs.Prelude.{nat_lt, Option, Some, None}
use Rattle.dap_requests.specs.declared.request.DataBreakpoint.{DataBreakpoint}
use Rattle.dap_requests.specs.declared.request.LineBreakpoint.{LineBreakpoint}
use Rattle.dap_requests.specs.declared.request.FunctionBreakpoint.{FunctionBreakpoint}
use Rattle.dap_requests.specs.declared.request.InstructionBreakpoint.{InstructionBreakpoint}
use Rattle.dap_messages.specs.declared.message.BreakpointNote.{BreakpointNote}
use Rattle.dap_messages.specs.declared.message.BreakpointNote.TheVariants as note
use Rattle.dap_messages.specs.declared.message.BreakpointOptions.{BreakpointOptions}
use Rattle.dap_messages.specs.declared.message.PlacedBreakpoint.{PlacedBreakpoint}
use Rattle.dap_points.specs.declared.placed.CheckedData.{CheckedData}
use Rattle.dap_points.specs.declared.placed.CheckedInstruction.{CheckedInstruction}
use Rattle.dap_points.specs.declared.placed.LandedLine.{LandedLine}
use Rattle.dap_points.specs.declared.placed.FoundLabel.{FoundLabel}

-- The breakpoint at a place of a source's list. Labels have the number 0, data 1,025 and instructions 1,026,
-- which no source has.
abbrev pub id_at : ℕ → ℕ → ℕ
id_at number index = 256 * number + (index + 1)

-- it is met on this line
abbrev pub met_at : ℕ → ℕ → BreakpointOptions → Option BreakpointNote → PlacedBreakpoint
met_at id line options n = record {
  id = id;
  line = Some line;
  address = None;
  options = options;
  is_verified = true;
  note = n;
}

abbrev pub no_options : BreakpointOptions
no_options = record { condition = None; hit_condition = None; log_message = None }

-- it is never met
abbrev pub unmet_at : ℕ → Option ℕ → BreakpointNote → PlacedBreakpoint
unmet_at id line why = record {
  id = id;
  line = line;
  address = None;
  options = no_options;
  is_verified = false;
  note = Some why;
}

-- it is met beside the lines, at this address or on data
abbrev pub met_where : ℕ → Option ℕ → BreakpointOptions → PlacedBreakpoint
met_where id address options = record {
  id = id;
  line = None;
  address = address;
  options = options;
  is_verified = true;
  note = None;
}

-- All of a list, of which the first has this place. How an editor is told of one depends on its place.
abbrev pub points_by : {T : Type 0} → (ℕ → T → PlacedBreakpoint) → ℕ → List T → List PlacedBreakpoint
points_by point index [] = []
points_by point index (x ∷ xs) = point index x ∷ points_by point (index + 1) xs

-- ---- on lines of the program

abbrev pub moved_note : ℕ → ℕ → Option BreakpointNote
moved_note from line = if from == line then None else Some (note.Moved from)

-- at the first line with code at or below its own
abbrev pub landed_point : ℕ → LandedLine → Option ℕ → PlacedBreakpoint
landed_point id l None = unmet_at id (Some l.line) (note.NoCode l.line)
landed_point id l (Some landing) = met_at id landing l.options (moved_note l.line landing)

-- unless there is something to object to it
abbrev pub line_point_unless : Option BreakpointNote → ℕ → LandedLine → PlacedBreakpoint
line_point_unless None id l = landed_point id l l.landing
line_point_unless (Some why) id l = unmet_at id (Some l.line) why

abbrev pub line_point : ℕ → LandedLine → PlacedBreakpoint
line_point id l = line_point_unless l.objection id l

-- all of them, of which the first has this place
abbrev pub line_points : ℕ → ℕ → List LandedLine → List PlacedBreakpoint
line_points number index [] = []
line_points number index (l ∷ ls) =
    line_point (id_at number index) l ∷ line_points number (index + 1) ls

-- ---- on lines of another source

-- why it isn't met, if its options are texts
abbrev pub why_unmet : BreakpointNote → Bool → BreakpointNote
why_unmet why has_texts = if has_texts then why else note.NotText

abbrev pub other_points : BreakpointNote → ℕ → ℕ → List LineBreakpoint → List PlacedBreakpoint
other_points why number index [] = []
other_points why number index (b ∷ bs) =
    unmet_at (id_at number index) (Some b.line) (why_unmet why b.has_texts)
    ∷ other_points why number (index + 1) bs

-- ---- at labels

-- at a label on this line, if the program has it
abbrev pub at_label : ℕ → BreakpointOptions → Option ℕ → PlacedBreakpoint
at_label id options None = unmet_at id None note.NoLabel
at_label id options (Some line) = met_at id line options None

-- unless there is something to object to it
abbrev pub label_point_unless : Option BreakpointNote → ℕ → FoundLabel → PlacedBreakpoint
label_point_unless None id l = at_label id l.options l.line
label_point_unless (Some why) id l = unmet_at id l.line why

abbrev pub label_point : ℕ → FoundLabel → PlacedBreakpoint
label_point index l = label_point_unless l.objection (id_at 0 index) l

abbrev pub label_points : ℕ → List FoundLabel → List PlacedBreakpoint
label_points index ls = points_by label_point index ls

-- ---- on data

-- the first 16 are watched, unless there is something to object to one
abbrev pub data_point_unless : Option BreakpointNote → ℕ → CheckedData → PlacedBreakpoint
data_point_unless None index d =
    if nat_lt index 16 then met_where (id_at 1025 index) None d.options
    else unmet_at (id_at 1025 index) None note.TooManyData
data_point_unless (Some why) index d = unmet_at (id_at 1025 index) None why

abbrev pub data_point : ℕ → CheckedData → PlacedBreakpoint
data_point index d = data_point_unless d.objection index d

abbrev pub data_points : ℕ → List CheckedData → List PlacedBreakpoint
data_points index ds = points_by data_point index ds

-- ---- at instructions

-- where PC meets it, if there is such an address
abbrev pub at_address : ℕ → Option ℕ → BreakpointOptions → PlacedBreakpoint
at_address id None options = unmet_at id None note.NoAddress
at_address id (Some address) options = met_where id (Some address) options

-- unless there is something to object to it
abbrev pub instruction_point_unless : Option BreakpointNote → ℕ → CheckedInstruction → PlacedBreakpoint
instruction_point_unless None id i = at_address id i.address i.options
instruction_point_unless (Some why) id i = unmet_at id None why

abbrev pub instruction_point : ℕ → CheckedInstruction → PlacedBreakpoint
instruction_point index i = instruction_point_unless i.objection (id_at 1026 index) i

abbrev pub instruction_points : ℕ → List CheckedInstruction → List PlacedBreakpoint
instruction_points index checked = points_by instruction_point index checked

-- ---- as long as there is no program

abbrev pub unlaunched_at : ℕ → Bool → PlacedBreakpoint
unlaunched_at id has_texts = unmet_at id None (why_unmet note.NotLaunched has_texts)

abbrev pub unlaunched_label : ℕ → FunctionBreakpoint → PlacedBreakpoint
unlaunched_label index f = unlaunched_at (id_at 0 index) f.has_texts

abbrev pub unlaunched_labels : ℕ → List FunctionBreakpoint → List PlacedBreakpoint
unlaunched_labels index fs = points_by unlaunched_label index fs

abbrev pub unlaunched_datum : ℕ → DataBreakpoint → PlacedBreakpoint
unlaunched_datum index d = unlaunched_at (id_at 1025 index) d.has_texts

abbrev pub unlaunched_data : ℕ → List DataBreakpoint → List PlacedBreakpoint
unlaunched_data index ds = points_by unlaunched_datum index ds

abbrev pub unlaunched_instruction : ℕ → InstructionBreakpoint → PlacedBreakpoint
unlaunched_instruction index i = unlaunched_at (id_at 1026 index) i.has_texts

abbrev pub unlaunched_instructions : ℕ → List InstructionBreakpoint → List PlacedBreakpoint
unlaunched_instructions index breakpoints = points_by unlaunched_instruction index breakpoints
