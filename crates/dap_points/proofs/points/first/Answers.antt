use Rattle.std.proofs.Common.{◌≤◌, length, sym, rules}
use Rattle.std.proofs.lemmas.List.{take_all}
use Rattle.dap_points.proofs.points.first.Goals as goal

pub returns-then-items-le-MOST_POINTS-clause-first : goal.returns-then-items-le-MOST_POINTS-clause-first
returns-then-items-le-MOST_POINTS-clause-first g c =
    let few : length c.args.items.now ≤ 256 = search rules in
    sym (take_all 256 c.args.items.now few)
