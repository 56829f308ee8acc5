use Rattle.std.proofs.Common.{rules}
use Rattle.serde_json.specs.View.{view}
use Rattle.jup_wire.proofs.AddressLemmas.{not_elsewhere}
use Rattle.jup_wire.proofs.connection_file.address.Goals as goal

pub returns-in-Err-clause-none : goal.returns-in-Err-clause-none
returns-in-Err-clause-none c =
    not_elsewhere (view c.args.value.now) c.in_ok-text.text.now (search rules) (search rules)
