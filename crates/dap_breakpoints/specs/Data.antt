-- Breakpoints on data, as an editor is told of them, and the places where they stop a run (Debug Adapter
-- Protocol, "DataBreakpoint").
use Rattle.std.specs.Prelude.{◌++◌, List, [], ◌∷◌, map, Option, Some, None, codes, if◌then◌else◌}
use Rattle.std.specs.List.{filter_map}
use Rattle.base_text.specs.Bytes.{Text}
use Rattle.lab_core.specs.Board.{Board}
use Rattle.dap_slice.specs.declared.conditions.ConditionalBreakpoint.{ConditionalBreakpoint}
use Rattle.dap_slice.specs.declared.conditions.Trigger.TheVariants.{Change}
use Rattle.dap_messages.specs.declared.message.BreakpointNote.{BreakpointNote}
use Rattle.dap_messages.specs.declared.message.BreakpointNote.TheVariants.{Wrong}
use Rattle.dap_messages.specs.declared.message.PlacedBreakpoint.{PlacedBreakpoint}
use Rattle.dap_requests.specs.declared.request.DataBreakpoint.{DataBreakpoint}
use Rattle.dap_points.specs.declared.placed.CheckedData.{CheckedData}
use Rattle.dap_points.specs.Placed as placed
use Rattle.dap_conditions.specs.Conditions.{objection, stop_by}
use Rattle.dap_breakpoints.specs.declared.place.DataPlace.{DataPlace}
use Rattle.dap_breakpoints.specs.Places.{data_named, places_of}

-- ---- what there is to object to one

abbrev pub unknown_note : Text → BreakpointNote
unknown_note id = Wrong (codes "no register or bytes: " ++ id)

-- if there is such data, its options decide
abbrev pub objection_at : Board → DataBreakpoint → Option DataPlace → Option BreakpointNote
objection_at b d None = Some (unknown_note d.data_id)
objection_at b d (Some place) = objection b d.options d.has_texts

abbrev pub data_objection : Board → DataBreakpoint → Option BreakpointNote
data_objection b d =
    if d.is_write then objection_at b d (data_named d.data_id)
    else Some (Wrong (codes "only writes are watched"))

-- ---- as an editor is told of them

abbrev pub checked_on : Board → DataBreakpoint → CheckedData
checked_on b d = record { options = d.options; objection = data_objection b d }

abbrev pub points_on : Board → List DataBreakpoint → List PlacedBreakpoint
points_on b ds = placed.data_points 0 (map (checked_on b) ds)

-- ---- where they stop a run

-- behind an instruction that changes one of these places
abbrev pub watches_at : PlacedBreakpoint → Option DataPlace → List ConditionalBreakpoint
watches_at p None = []
watches_at p (Some d) = filter_map (λ place. stop_by p.id (Change place) p.options) (places_of d)

-- if an editor is told that the breakpoint is verified
abbrev pub watches_of : DataBreakpoint → PlacedBreakpoint → List ConditionalBreakpoint
watches_of d p = if p.is_verified then watches_at p (data_named d.data_id) else []

abbrev pub watches_by : List DataBreakpoint → List PlacedBreakpoint → List ConditionalBreakpoint
watches_by (d ∷ ds) (p ∷ ps) = watches_of d p ++ watches_by ds ps
watches_by ds ps = []

abbrev pub watches_on : Board → List DataBreakpoint → List ConditionalBreakpoint
watches_on b ds = watches_by ds (points_on b ds)
