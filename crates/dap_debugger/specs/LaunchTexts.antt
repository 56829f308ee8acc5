-- What a program's file has.
use Rattle.std.specs.Prelude.{Option, Some, None, nat_lt, length, if◌then◌else◌}
use Rattle.std.specs.Str.{is_utf8}
use Rattle.base_text.specs.Bytes.{Bytes, Text}
use Rattle.dap_messages.specs.declared.file_kind.ImageKind.{ImageKind}
use Rattle.dap_messages.specs.FileKinds.{kind_of}
use Rattle.dap_launch.specs.declared.file.FileText.{FileText}
use Rattle.dap_launch.specs.declared.file.FileText.TheVariants as file

-- the bytes of a program without source, or a text
abbrev pub file_as : Option ImageKind → Bytes → FileText
file_as (Some kind) bytes = file.Image kind bytes
file_as None bytes = if is_utf8 bytes then file.Text bytes else file.NotText

-- at most 1,048,576 bytes
abbrev pub file_text : Text → Bytes → FileText
file_text path bytes = if nat_lt 1048576 (length bytes) then file.TooLong else file_as (kind_of path) bytes
