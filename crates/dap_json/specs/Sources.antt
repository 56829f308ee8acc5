-- The JSON of sources and of frames (Debug Adapter Protocol, "Source", "StackFrame"). The members of an
-- object stand in the order of their keys' bytes.
use Rattle.std.specs.Prelude.{ℕ, List, [], ◌∷◌, ◌++◌, Option, Some, None, option_map, unwrap_or, codes}
use Rattle.std.specs.Path.{slash, rsplit_once}
use Rattle.base_text.specs.Bytes.{Text}
use Rattle.serde_json.specs.Data.{Data, string}
use Rattle.lab_shown.specs.declared.shown.StackFrame.{StackFrame}
use Rattle.dap_messages.specs.declared.file_kind.ImageKind.{ImageKind}
use Rattle.dap_messages.specs.FileKinds.{kind_of}
use Rattle.dap_answers.specs.Json.{object_of, whole_number, list_of, reference}
use Rattle.dap_messages.specs.declared.message.Numbering.{Numbering}
use Rattle.dap_messages.specs.Numbering.{line_told, column_told}

-- ---- sources

-- the part of a path after its last `/`, or all of it
abbrev pub last_part : Text → Text
last_part path = unwrap_or (option_map (λ parts. parts.1) (rsplit_once slash path)) path

abbrev pub text_source : Text → Data
text_source path = object_of (
    (codes "name", string (last_part path)) ∷
    (codes "path", string path) ∷ [])

abbrev pub image_name : Text → Text
image_name path = last_part path ++ codes " (disassembly)"

-- an editor gets its text by the request `source`
abbrev pub image_source : Text → Data
image_source path = object_of (
    (codes "name", string (image_name path)) ∷
    (codes "path", string path) ∷
    (codes "sourceReference", whole_number 1) ∷ [])

abbrev pub source_of : Option ImageKind → Text → Data
source_of None path = text_source path
source_of (Some kind) path = image_source path

-- a program without source is shown as its disassembly
abbrev pub source_json : Text → Data
source_json path = source_of (kind_of path) path

-- ---- frames

-- the members of every frame, with a source or without one; without one it has line 0
abbrev pub bare_frame : Numbering → StackFrame → List (Text × Data)
bare_frame numbering f =
    (codes "column", whole_number (column_told numbering 1)) ∷
    (codes "id", whole_number f.id) ∷
    (codes "instructionPointerReference", string (reference f.address)) ∷
    (codes "line", whole_number (line_told numbering f.line)) ∷
    (codes "name", string f.name) ∷ []

abbrev pub source_members : Option Text → List (Text × Data)
source_members None = []
source_members (Some path) = (codes "source", source_json path) ∷ []

-- with the name of its source, which the kernel's frames don't have
unfoldable pub frame_json : Numbering → StackFrame → Data
frame_json numbering f = object_of (bare_frame numbering f ++ source_members f.source)

abbrev pub stack_trace_json : Numbering → List StackFrame → ℕ → Data
stack_trace_json numbering frames total = object_of (
    (codes "stackFrames", list_of (frame_json numbering) frames) ∷
    (codes "totalFrames", whole_number total) ∷ [])
