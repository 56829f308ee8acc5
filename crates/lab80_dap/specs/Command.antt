-- The words of the command line.
use Rattle.std.specs.Prelude.{ℕ, List, [], ◌∷◌, Option, Some, None, codes, option_map, ◌&&◌, if◌then◌else◌}
use Rattle.std.specs.Int.{is_in_range}
use Rattle.std.specs.Str.{bytes_eq, all_ascii_digits}
use Rattle.std.specs.Str.Parse.{digits_value, without_leading_plus}
use Rattle.lab80_dap.specs.declared.command.Command.{Command}
use Rattle.lab80_dap.specs.declared.command.Command.TheVariants.{Streams, Port, Help, Version}

abbrev pub port_of_digits : List ℕ → Option ℕ
port_of_digits digits =
    if all_ascii_digits digits && is_in_range 1 65535 (digits_value 10 digits)
    then Some (digits_value 10 digits) else None

-- the port that a word names: a number from 1 to 65,535 in decimal, perhaps with a plus before it
abbrev pub port_of : List ℕ → Option ℕ
port_of word = port_of_digits (without_leading_plus word)

abbrev pub one_word : List ℕ → Option Command
one_word word =
    if bytes_eq word (codes "--help") then Some Help else
    (if bytes_eq word (codes "--version") then Some Version else None)

abbrev pub two_words : List ℕ → List ℕ → Option Command
two_words word other =
    if bytes_eq word (codes "--port") then option_map Port (port_of other) else None

-- what the words after the program's name ask for: none, `--help`, `--version`, or `--port` with a port;
-- there are no others
abbrev pub command_of : List (List ℕ) → Option Command
command_of [] = Some Streams
command_of (word ∷ []) = one_word word
command_of (word ∷ other ∷ []) = two_words word other
command_of (word ∷ other ∷ more ∷ rest) = None
