use Rattle.cli_hex.proofs.LongLemmas.{long_cell_refused}
use Rattle.cli_hex.proofs.hex.text_answer.Goals as goal

pub returns-in-None : goal.returns-in-None
returns-in-None c =
    long_cell_refused c.args.form c.long_answer.result c.args.text c.in-None.is c.long_answer.ensures
