-- When an event may fail with out of memory.
use Rattle.std.specs.Prelude.{◌≡◌, Ok, None, IsOk, IsSome}
use Rattle.lab_image.specs.Sources.{place_of, source_at}
use Rattle.lab_views.specs.Views.{view_of}
use Rattle.lab_core.specs.declared.run_state.RunState.TheVariants.{NoRun, Running}
use Rattle.lab_core.specs.declared.event.Event.{Event}
use Rattle.lab_core.specs.declared.event.Event.TheVariants as event
use Rattle.lab_core.specs.Board.{Board}
use Rattle.lab_core.specs.Events.{parts_of, poke_result, while_stopped}
use Rattle.lab_core.specs.Labs.{LabState, RepresentsBoard}

-- Only if the board doesn't refuse the event; a Load may also fail so before its text's faults are known.
abbrev pub Takes : Event → Board → Type 0
Takes (event.Load path text) b =
    (b.run ≡ NoRun) × IsOk (place_of (record { path = path; text = text }) b.sources)
Takes (event.Dump path text) b = place_of (record { path = path; text = text }) b.sources ≡ Ok None
Takes (event.SetBreakpoints path lines) b = IsSome (source_at b.sources path)
Takes (event.Slice n) b = b.run ≡ Running
Takes (event.Show view) b = IsOk (view_of view (parts_of b))
Takes event.Reset b = Unit {0}
Takes (event.Typed bytes) b = Unit {0}
Takes (event.Poke reference name value) b = IsOk (while_stopped b.run (poke_result reference name value b))
Takes _ b = ⊥

abbrev pub MayLackMemory : Event → LabState → Type 0
MayLackMemory event lab = (b : Board) → RepresentsBoard lab b → Takes event b
