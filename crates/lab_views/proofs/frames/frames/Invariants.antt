use Rattle.std.proofs.Common.{◌≡◌, ◌-◌, List, take, drop}
use Rattle.i80_devs.specs.Past.{Operation}
use Rattle.lab_image.specs.Loads.{Load, GivesOrigins}
use Rattle.lab_views.specs.Parts.{parts_with}
use Rattle.lab_views.specs.Frames.{all_frames}
use Rattle.lab_views.proofs.frames.frames.Given as goal

abbrev pub invariant-loop-index : goal.invariant-loop-index
invariant-loop-index l =
    (past : List Operation) (loads : List Load) → GivesOrigins l.parts.origins.now loads
    → l.frames ≡ take (l.index - l.start) (drop l.start (all_frames (parts_with l.parts past loads)))
