use Rattle.std.proofs.Common.{◌∙◌, List, ap, sym}
use Rattle.kern_peers.specs.declared.peer.Peer.{Peer}
use Rattle.kern_peers.specs.Connections.{Connections, without_first, without_subscription}
use Rattle.kern_peers.proofs.PrefixLemmas.{changed_there, changed_nowhere}
use Rattle.kern_peers.proofs.peers.Peers.cancel.Goals as goal

pub returns-in-Some : goal.returns-in-Some
returns-in-Some c =
    let found = rw c.deref.ensures.value at c.in-Some.ensures in
    let with : List Peer → Connections = λ ps. record { peers = ps; joined = c.self.inside.joined } in
    let there =
    changed_there c.args.number (without_first c.args.prefix.now) c.self.inside.peers.items
    c.in-Some.place c.index_mut.result.now found c.index_mut.ensures.value in
    rw c.take_out.ensures
    (ap with there ∙ ap (without_subscription c.args.number c.args.prefix.now) c.self.view_is)

pub returns-in_default : goal.returns-in_default
returns-in_default c =
    let missing = rw c.deref.ensures.value at c.in_default.ensures in
    let with : List Peer → Connections = λ ps. record { peers = ps; joined = c.self.inside.joined } in
    sym c.self.view_is
    ∙ (ap with (changed_nowhere c.args.number (without_first c.args.prefix.now) c.self.inside.peers.items
    missing)
    ∙ ap (without_subscription c.args.number c.args.prefix.now) c.self.view_is)
