-- Which breakpoints aren't what they were (Debug Adapter Protocol, the event `breakpoint`).
use Rattle.std.specs.Prelude.{◌==◌, List, [], ◌∷◌, ◌++◌, drop, Bool, true, false, ◌&&◌, not}
use Rattle.std.specs.Prelude.{Option, Some, None, if◌then◌else◌}
use Rattle.std.specs.Str.{bytes_eq}
use Rattle.dap_messages.specs.declared.message.BreakpointNote.{BreakpointNote}
use Rattle.dap_messages.specs.declared.message.BreakpointNote.TheVariants as note
use Rattle.dap_messages.specs.declared.message.PlacedBreakpoint.{PlacedBreakpoint}

abbrev pub is_same_note : BreakpointNote → BreakpointNote → Bool
is_same_note (note.Moved from) (note.Moved from') = from == from'
is_same_note (note.NoCode line) (note.NoCode line') = line == line'
is_same_note note.NotLaunched note.NotLaunched = true
is_same_note (note.OtherProgram path) (note.OtherProgram path') = bytes_eq path path'
is_same_note (note.Wrong why) (note.Wrong why') = bytes_eq why why'
is_same_note note.NotText note.NotText = true
is_same_note note.NoLabel note.NoLabel = true
is_same_note note.NoAddress note.NoAddress = true
is_same_note note.TooManyData note.TooManyData = true
is_same_note n n' = false

abbrev pub is_same_option : {T : Type 0} → (T → T → Bool) → Option T → Option T → Bool
is_same_option is_same None None = true
is_same_option is_same (Some x) (Some y) = is_same x y
is_same_option is_same x y = false

-- two tellings of a breakpoint with one number, and so with one address, if both have one
abbrev pub is_same_point : PlacedBreakpoint → PlacedBreakpoint → Bool
is_same_point p q =
    (if p.is_verified then q.is_verified else not q.is_verified)
    && (is_same_option (λ line line'. line == line') p.line q.line
    && is_same_option is_same_note p.note q.note)

-- a breakpoint, unless the first of these is the same
abbrev pub if_changed : List PlacedBreakpoint → PlacedBreakpoint → List PlacedBreakpoint
if_changed [] p = p ∷ []
if_changed (before ∷ others) p = if is_same_point before p then [] else p ∷ []

-- those that aren't what they were
abbrev pub changed_points : List PlacedBreakpoint → List PlacedBreakpoint → List PlacedBreakpoint
changed_points before [] = []
changed_points before (p ∷ ps) = if_changed before p ++ changed_points (drop 1 before) ps
