use Rattle.cli_hex.proofs.LongLemmas.{long_file_refused}
use Rattle.cli_hex.proofs.list.text_answer.Goals as goal

pub returns-in-None : goal.returns-in-None
returns-in-None c = long_file_refused c.long_answer.result c.args.text c.in-None.is c.long_answer.ensures
