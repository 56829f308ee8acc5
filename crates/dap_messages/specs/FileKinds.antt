-- The form of a program without source, by its path.
use Rattle.std.specs.Prelude.{Bool, ◌||◌, Option, Some, None, option_and_then, codes, if◌then◌else◌}
use Rattle.std.specs.Str.{str_eq_ignore_ascii_case}
use Rattle.std.specs.Path.{path_extension}
use Rattle.base_text.specs.Bytes.{Text}
use Rattle.dap_messages.specs.declared.file_kind.ImageKind.{ImageKind}
use Rattle.dap_messages.specs.declared.file_kind.ImageKind.TheVariants as kind

-- an extension is one of two, in either case
abbrev pub is_one_of : Text → Text → Text → Bool
is_one_of first second extension =
    str_eq_ignore_ascii_case extension first || str_eq_ignore_ascii_case extension second

abbrev pub kind_with_extension : Text → Option ImageKind
kind_with_extension extension =
    if (is_one_of (codes "hex") (codes "ihx") extension) then (Some kind.Hex) else
    (if (str_eq_ignore_ascii_case extension (codes "com")) then (Some kind.Com) else
    (if (is_one_of (codes "bin") (codes "rom") extension) then (Some kind.Bytes) else None))

-- the extension is that of std's `Path::extension`
abbrev pub kind_of : Text → Option ImageKind
kind_of path = option_and_then kind_with_extension (path_extension path)
