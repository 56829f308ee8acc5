-- The words of the command line.
use Rattle.std.specs.Prelude.{List, [], ◌∷◌, ℕ, Option, Some, None, codes, option_map, if◌then◌else◌}
use Rattle.std.specs.Str.{bytes_eq}
use Rattle.base_text.specs.Hexadecimal.{word_spelled}
use Rattle.cli_io.specs.declared.command.Command.{Command}
use Rattle.cli_io.specs.declared.command.Command.TheVariants as command

-- what the program is to do
pub data Task : Type 0 where
  step : Task
  asm : Task
  -- from an address on
  dis : ℕ → Task
  -- each with the name of a file
  kernel : List ℕ → Task
  term : List ℕ → Task

abbrev pub task_of : Command → Task
task_of command.Step = step
task_of command.Asm = asm
task_of (command.Dis origin) = dis origin
task_of (command.Kernel file) = kernel file.now
task_of (command.Term file) = term file.now

abbrev pub one_word : List ℕ → Option Task
one_word word =
    if bytes_eq word (codes "step") then Some step else
    (if bytes_eq word (codes "asm") then Some asm else None)

-- an origin is four hexadecimal digits
abbrev pub with_origin : List ℕ → Option Task
with_origin origin = option_map dis (word_spelled origin)

abbrev pub two_words : List ℕ → List ℕ → Option Task
two_words word other =
    if bytes_eq word (codes "dis") then with_origin other else
    (if bytes_eq word (codes "kernel") then Some (kernel other) else
    (if bytes_eq word (codes "term") then Some (term other) else None))

-- what the words after the program's name ask for: `step`, `asm`, `dis` with an origin, or `kernel` or `term`
-- with a file; there are no others
abbrev pub command_of : List (List ℕ) → Option Task
command_of [] = None
command_of (word ∷ []) = one_word word
command_of (word ∷ other ∷ []) = two_words word other
command_of (word ∷ other ∷ more ∷ rest) = None
