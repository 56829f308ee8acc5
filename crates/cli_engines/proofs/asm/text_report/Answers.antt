use Rattle.cli_engines.proofs.AsmLemmas.{long_reported}
use Rattle.cli_engines.proofs.asm.text_report.Goals as goal

pub returns-in-None : goal.returns-in-None
returns-in-None c = long_reported c.long_report.result c.args.text c.in-None.is c.long_report.ensures
