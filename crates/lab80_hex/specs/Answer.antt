-- What the program does for a command.
use Rattle.std.specs.Prelude.{◌≡◌, Option, Some, None}
use Rattle.base_streams.specs.States.{InletState, OutletState}
use Rattle.cli_io.specs.Engine.{AnswersInput, WritesAnswer}
use Rattle.cli_io.specs.declared.status.Status.{Status}
use Rattle.cli_io.specs.declared.status.Status.TheVariants.{Success, Usage}
use Rattle.cli_hex.specs.HexOutput.{hex_output, hex_status}
use Rattle.cli_hex.specs.ListOutput.{list_output, list_status}
use Rattle.lab80_hex.specs.declared.about.TheConstants.{HELP, VERSION}
use Rattle.lab80_hex.specs.declared.command.Command.{Command}
use Rattle.lab80_hex.specs.declared.command.Command.TheVariants as command

-- the bytes of the input in a form, or its listing; the usage or the version; and for any other words nothing
abbrev pub AnswersCommand : Option Command → Status → InletState → OutletState → OutletState → Type 0
AnswersCommand (Some (command.Write form)) result reader old new =
    AnswersInput (hex_status form) (hex_output form) result reader old new
AnswersCommand (Some command.ListFile) result reader old new =
    AnswersInput list_status list_output result reader old new
AnswersCommand (Some command.Help) result reader old new = WritesAnswer Success HELP.now result old new
AnswersCommand (Some command.Version) result reader old new = WritesAnswer Success VERSION.now result old new
AnswersCommand None result reader old new = (result ≡ Usage) × (new ≡ old)
