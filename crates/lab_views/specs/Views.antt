-- What each view of a board shows, or why it is refused.
use Rattle.std.specs.Prelude.{◌≡◌, ℕ, ◌&&◌, nat_le, min, List, Option, Some, None, Result, Ok, Err, IsOk}
use Rattle.std.specs.Prelude.{if◌then◌else◌}
use Rattle.lab_image.specs.Sources.{source_at}
use Rattle.lab_views.specs.declared.view.View.{View}
use Rattle.lab_views.specs.declared.view.View.TheVariants as view
use Rattle.lab_shown.specs.declared.shown.Shown.{Shown}
use Rattle.lab_shown.specs.declared.shown.Shown.TheVariants.{Frames, Scopes, Variables, Code}
use Rattle.lab_shown.specs.declared.shown.Shown.TheVariants.{Source as SourceText, Info}
use Rattle.lab_shown.specs.declared.shown.Variable.{Variable}
use Rattle.lab_views.specs.declared.fault.ViewFault.{ViewFault}
use Rattle.lab_views.specs.declared.fault.ViewFault.TheVariants.{OutOfMemory, NotStopped, BadFrame}
use Rattle.lab_views.specs.declared.fault.ViewFault.TheVariants.{BadReference, NoSource}
use Rattle.lab_views.specs.Paging.{asked_for, page}
use Rattle.lab_views.specs.Parts.{Parts}
use Rattle.lab_views.specs.Frames.{all_frames, frame_count}
use Rattle.lab_views.specs.Variables.{variables_of}
use Rattle.lab_views.specs.Code.{lines_from}
use Rattle.lab_views.specs.Info.{breakpoints_of}

abbrev pub frames_shown : Parts → ℕ → ℕ → Result Shown ViewFault
frames_shown p start levels =
    if p.is_stopped
    then (Ok (Frames (page start (asked_for 64 64 levels) (all_frames p)) (frame_count p)))
    else (Err NotStopped)

-- each frame has the same scopes
abbrev pub scopes_shown : Parts → ℕ → Result Shown ViewFault
scopes_shown p id =
    if p.is_stopped
    then (if nat_le 1 id && nat_le id (frame_count p) then (Ok Scopes) else (Err BadFrame))
    else (Err NotStopped)

abbrev pub as_variables : Result (List Variable) ViewFault → Result Shown ViewFault
as_variables (Ok variables) = Ok (Variables variables)
as_variables (Err fault) = Err fault

abbrev pub variables_shown : Parts → ℕ → ℕ → ℕ → Result Shown ViewFault
variables_shown p reference start count = as_variables (variables_of p reference start count)

abbrev pub code_shown : Parts → ℕ → ℕ → Result Shown ViewFault
code_shown p address count = Ok (Code (lines_from p.machine address (min count 256)))

abbrev pub as_text : Option (ℕ × List ℕ) → Result Shown ViewFault
as_text (Some (number, text)) = Ok (SourceText text)
as_text None = Err NoSource

abbrev pub source_shown : Parts → List ℕ → Result Shown ViewFault
source_shown p path = as_text (source_at p.sources path)

abbrev pub info_shown : Parts → Result Shown ViewFault
info_shown p = Ok (Info p.is_attached p.is_stopped (breakpoints_of p.sources p.breakpoints))

abbrev pub view_of : View → Parts → Result Shown ViewFault
view_of (view.Frames start levels) p = frames_shown p start levels
view_of (view.Scopes id) p = scopes_shown p id
view_of (view.Variables reference start count) p = variables_shown p reference start count
view_of (view.Code address count) p = code_shown p address count
view_of (view.Source path) p = source_shown p path
view_of view.Info p = info_shown p

-- ---- what the code returns

-- the code runs out of memory only if the view isn't refused
abbrev pub Fails : ViewFault → Result Shown ViewFault → Type 0
Fails OutOfMemory given = IsOk given
Fails NotStopped given = given ≡ Err NotStopped
Fails BadFrame given = given ≡ Err BadFrame
Fails BadReference given = given ≡ Err BadReference
Fails NoSource given = given ≡ Err NoSource

-- it returns what is shown, the refusal, or out of memory
abbrev pub Answers : Result Shown ViewFault → Result Shown ViewFault → Type 0
Answers (Ok s) given = given ≡ Ok s
Answers (Err fault) given = Fails fault given
