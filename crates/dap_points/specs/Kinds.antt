-- The kind of the breakpoints at which a program is stopped (Debug Adapter Protocol, "Stopped Event").
use Rattle.std.specs.Prelude.{ℕ, List, [], ◌∷◌, nat_le, nat_lt, Option, Some, None, if◌then◌else◌}
use Rattle.lab_shown.specs.declared.place.PlaceChange.{PlaceChange}
use Rattle.dap_messages.specs.declared.message.BreakpointKind.{BreakpointKind}
use Rattle.dap_messages.specs.declared.message.BreakpointKind.TheVariants.{Line, Label, Data, Instruction}

-- by the number of one that isn't on data (`id_at`)
abbrev pub kind_at : ℕ → BreakpointKind
kind_at id = if nat_le id 256 then Label else if nat_lt 262656 id then Instruction else Line

-- A change of data decides, and otherwise the first of the breakpoints with these numbers.
abbrev pub kind_of : Option PlaceChange → List ℕ → BreakpointKind
kind_of (Some change) ids = Data change
kind_of None [] = Line
kind_of None (id ∷ ids) = kind_at id
