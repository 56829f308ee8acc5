-- The parts of a board that views show, and what the code has of them.
use Rattle.std.specs.Prelude.{◌≡◌, List, Bool}
use Rattle.i80_exec.specs.State.{MachineState}
use Rattle.i80_devs.specs.Past.{Operation}
use Rattle.i80_devs.specs.Past as devices
use Rattle.asm_build.specs.Reading.{Entries}
use Rattle.lab_frames.specs.declared.frame.Frame.{Frame}
use Rattle.lab_image.specs.Loads.{Load}
use Rattle.lab_image.specs.Loads as origins
use Rattle.lab_image.specs.declared.sources.Source.{Source}
use Rattle.lab_image.specs.declared.lists.BreakpointList.{BreakpointList}
use Rattle.lab_views.specs.declared.parts.Parts.{Parts as PartsSeen}

pub record Parts : Type 0 where
  pub machine : MachineState
  -- all operations on the devices since power-on or the last reset
  pub past : List Operation
  -- all loads since then
  pub loads : List Load
  -- the live frames of the run, oldest first
  pub frames : List Frame
  -- the symbols that are kept
  pub symbols : Entries
  -- the texts that are kept, each at the place of its number
  pub sources : List Source
  pub breakpoints : List BreakpointList
  pub is_attached : Bool
  pub is_stopped : Bool

-- what the code sees, with this past of the devices and these loads
abbrev pub parts_with : PartsSeen → List Operation → List Load → Parts
parts_with seen past loads = record {
  machine = seen.machine.now;
  past = past;
  loads = loads;
  frames = seen.frames.now;
  symbols = seen.symbols.now;
  sources = seen.sources.now;
  breakpoints = seen.breakpoints.now;
  is_attached = seen.is_attached;
  is_stopped = seen.is_stopped;
}

-- what the code sees is what these parts make of it
pub record RepresentsParts (seen : PartsSeen) (p : Parts) : Type 0 where
  pub devices : devices.RepresentsPast seen.devices.now p.past
  pub origins : origins.GivesOrigins seen.origins.now p.loads
  pub others : p ≡ parts_with seen p.past p.loads
