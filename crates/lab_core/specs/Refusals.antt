-- The errors of other crates as errors of events.
use Rattle.i80_devs.specs.declared.devices.PressFault.{PressFault}
use Rattle.i80_devs.specs.declared.devices.PressFault.TheVariants as press
use Rattle.asm_syntax.specs.declared.fault.AsmFault.{AsmFault}
use Rattle.asm_syntax.specs.declared.fault.AsmFault.TheVariants as asm
use Rattle.lab_image.specs.declared.sources.SourceFault.{SourceFault}
use Rattle.lab_image.specs.declared.sources.SourceFault.TheVariants as source
use Rattle.lab_views.specs.declared.fault.ViewFault.{ViewFault}
use Rattle.lab_views.specs.declared.fault.ViewFault.TheVariants as view
use Rattle.lab_views.specs.declared.poke_fault.PokeFault.{PokeFault}
use Rattle.lab_views.specs.declared.poke_fault.PokeFault.TheVariants as poke
use Rattle.lab_core.specs.declared.fault.EventFault.{EventFault}
use Rattle.lab_core.specs.declared.fault.EventFault.TheVariants as fault

-- a cell's fault, or out of memory before one was found
abbrev pub refused_for : AsmFault → EventFault
refused_for asm.OutOfMemory = fault.OutOfMemory
refused_for (asm.At line column kind) = fault.Assembly (asm.At line column kind)

abbrev pub refused_press : PressFault → EventFault
refused_press press.Latched = fault.Latched
refused_press press.Vector = fault.Vector

abbrev pub refused_source : SourceFault → EventFault
refused_source source.NameTaken = fault.SourceNameTaken
refused_source source.Full = fault.SourcesFull

abbrev pub refused_view : ViewFault → EventFault
refused_view view.OutOfMemory = fault.OutOfMemory
refused_view view.NotStopped = fault.NotStopped
refused_view view.BadFrame = fault.BadFrame
refused_view view.BadReference = fault.BadReference
refused_view view.NoSource = fault.NoSource

abbrev pub refused_poke : PokeFault → EventFault
refused_poke poke.BadReference = fault.BadReference
refused_poke poke.UnknownName = fault.UnknownName
refused_poke poke.BadValue = fault.BadValue
