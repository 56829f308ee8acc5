-- The path of a file that a request names.
use Rattle.std.specs.Prelude.{Option, Some, None}
use Rattle.base_text.specs.Bytes.{Text}
use Rattle.dap_requests.specs.declared.request.EditorCommand.TheVariants as command
use Rattle.dap_requests.specs.declared.request.LoadCommand.TheVariants as load
use Rattle.dap_requests.specs.declared.request.RequestContent.{RequestContent}
use Rattle.dap_requests.specs.declared.request.RequestContent.TheVariants.{Load, Editor}
use Rattle.dap_requests.specs.declared.request.EditorRequest.{EditorRequest}

-- of the program, or of a source
abbrev pub path_in : RequestContent → Option Text
path_in (Load (load.Launch l)) = Some l.program
path_in (Load (load.Restart (Some l))) = Some l.program
path_in (Editor (command.OnSource path c)) = Some path
path_in other = None

-- The same with another path of that file. A launch keeps the path that the editor gave too.
abbrev pub with_path : Text → RequestContent → RequestContent
with_path path (Load (load.Launch l)) = Load (load.Launch (record l { canonical = path }))
with_path path (Load (load.Restart (Some l))) = Load (load.Restart (Some (record l { canonical = path })))
with_path path (Editor (command.OnSource old c)) = Editor (command.OnSource path c)
with_path path other = other

-- the same with its canonical path, if the file has one
abbrev pub with_canonical : Option Text → EditorRequest → EditorRequest
with_canonical None r = r
with_canonical (Some path) r = record r { asked = with_path path r.asked }
