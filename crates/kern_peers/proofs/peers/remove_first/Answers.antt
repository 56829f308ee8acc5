use Rattle.std.proofs.Common.{◌∙◌}
use Rattle.kern_peers.proofs.PrefixLemmas.{removed_there, removed_nowhere}
use Rattle.kern_peers.proofs.peers.remove_first.Goals as goal

pub returns-in-Some : goal.returns-in-Some
returns-in-Some c =
    let found = rw c.deref.ensures.value at c.in-Some.ensures in
    c.remove.ensures.items ∙ removed_there c.args.prefix.now c.args.prefixes.now.items c.in-Some.place found

pub returns-in_default : goal.returns-in_default
returns-in_default c =
    let missing = rw c.deref.ensures.value at c.in_default.ensures in
    removed_nowhere c.args.prefix.now c.args.prefixes.now.items missing
