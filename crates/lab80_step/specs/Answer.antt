-- What the program does for the words after its name.
use Rattle.std.specs.Prelude.{◌≡◌, Option, Some}
use Rattle.base_streams.specs.States.{InletState, OutletState}
use Rattle.cli_io.specs.Command.{Task, step}
use Rattle.cli_io.specs.Engine.{AnswersInput}
use Rattle.cli_io.specs.declared.status.Status.{Status}
use Rattle.cli_io.specs.declared.status.Status.TheVariants.{Usage}
use Rattle.cli_run.specs.StepText.{step_text, step_status}

-- `step` answers the input; any other words are answered by the usage, and nothing is written
abbrev pub AnswersWords : Option Task → Status → InletState → OutletState → OutletState → Type 0
AnswersWords (Some step) result reader old new = AnswersInput step_status step_text result reader old new
AnswersWords _ result reader old new = (result ≡ Usage) × (new ≡ old)
