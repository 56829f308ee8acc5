-- What the program does for the words after its name.
use Rattle.std.specs.Prelude.{◌≡◌, Option, Some}
use Rattle.base_streams.specs.States.{InletState, OutletState}
use Rattle.cli_io.specs.Command.{Task, asm, dis}
use Rattle.cli_io.specs.Engine.{AnswersInput}
use Rattle.cli_io.specs.declared.status.Status.{Status}
use Rattle.cli_io.specs.declared.status.Status.TheVariants.{Usage}
use Rattle.cli_engines.specs.AsmText.{asm_text, asm_status}
use Rattle.cli_engines.specs.DisText.{dis_text, dis_status}

-- `asm` and `dis` answer the input; any other words are answered by the usage, and nothing is written
abbrev pub AnswersWords : Option Task → Status → InletState → OutletState → OutletState → Type 0
AnswersWords (Some asm) result reader old new = AnswersInput asm_status asm_text result reader old new
AnswersWords (Some (dis origin)) result reader old new =
    AnswersInput (dis_status origin) (dis_text origin) result reader old new
AnswersWords _ result reader old new = (result ≡ Usage) × (new ≡ old)
