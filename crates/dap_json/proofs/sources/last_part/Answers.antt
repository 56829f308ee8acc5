use Rattle.std.proofs.Common.{arith, rules}
use Rattle.dap_json.proofs.PathLemmas.{last_split}
use Rattle.dap_json.proofs.sources.last_part.Goals as goal

pub returns-in-Some : goal.returns-in-Some
returns-in-Some c =
    let split = last_split 47 c.args.path.now _ c.rsplit_once.ensures.cases (omega arith) in
    rw (← split) (grind rules)

pub returns-in-None : goal.returns-in-None
returns-in-None c =
    let split = last_split 47 c.args.path.now _ c.rsplit_once.ensures.cases (omega arith) in
    rw (← split) (grind rules)
