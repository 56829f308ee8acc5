use Rattle.std.proofs.Common.{length, arith, ◌≤◌}
use Rattle.std.proofs.lemmas.List.{take_all}
use Rattle.dap_scopes.proofs.completion.push_names.Goals as goal

pub returns : goal.returns
returns c =
    let past : length c.args.names.now ≤ c.loop-name.name-index = omega arith in
    rw (take_all c.loop-name.name-index c.args.names.now past) at c.loop-name.invariant
