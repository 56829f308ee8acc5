-- The words of the command line.
use Rattle.std.specs.Prelude.{ℕ, List, [], ◌∷◌, Option, Some, None, codes, if◌then◌else◌}
use Rattle.std.specs.Str.{bytes_eq}
use Rattle.cli_hex.specs.declared.hex.HexForm.TheVariants.{Intel, Binary, Com}
use Rattle.lab80_hex.specs.declared.command.Command.{Command}
use Rattle.lab80_hex.specs.declared.command.Command.TheVariants.{Write, ListFile, Help, Version}

abbrev pub one_word : List ℕ → Option Command
one_word word =
    if (bytes_eq word (codes "--binary")) then (Some (Write Binary)) else
    (if (bytes_eq word (codes "--com")) then (Some (Write Com)) else
    (if (bytes_eq word (codes "--list")) then (Some ListFile) else
    (if (bytes_eq word (codes "--help")) then (Some Help) else
    (if (bytes_eq word (codes "--version")) then (Some Version) else None))))

-- what the words after the program's name ask for: none, or one; there are no others
abbrev pub command_of : List (List ℕ) → Option Command
command_of [] = Some (Write Intel)
command_of (word ∷ []) = one_word word
command_of (word ∷ other ∷ rest) = None
