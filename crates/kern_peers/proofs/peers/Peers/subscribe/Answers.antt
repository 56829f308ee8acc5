use Rattle.std.proofs.Common.{◌∙◌, ◌++◌, ◌∷◌, [], List, ap, sym}
use Rattle.kern_peers.specs.declared.peer.Peer.{Peer}
use Rattle.kern_peers.specs.Connections.{Connections, subscribed_by}
use Rattle.kern_peers.proofs.PrefixLemmas.{changed_there, changed_nowhere}
use Rattle.kern_peers.proofs.peers.Peers.subscribe.Goals as goal

pub returns-in_ok-push-clause-ok : goal.returns-in_ok-push-clause-ok
returns-in_ok-push-clause-ok c =
    let found = rw c.deref.ensures.value at c.in-Some.ensures in
    let with : List Peer → Connections = λ ps. record { peers = ps; joined = c.self.inside.joined } in
    let there =
    changed_there c.args.number (λ ps. ps ++ c.args.prefix ∷ []) c.self.inside.peers.items c.in-Some.place
    c.index_mut.result.now found c.index_mut.ensures.value in
    rw c.in_ok-push.ensures.ok
    (ap with there ∙ ap (subscribed_by c.args.number c.args.prefix) c.self.view_is)

pub returns-in_default-clause-ok : goal.returns-in_default-clause-ok
returns-in_default-clause-ok c =
    let missing = rw c.deref.ensures.value at c.in_default.ensures in
    let with : List Peer → Connections = λ ps. record { peers = ps; joined = c.self.inside.joined } in
    sym c.self.view_is
    ∙ (ap with (changed_nowhere c.args.number (λ ps. ps ++ c.args.prefix ∷ []) c.self.inside.peers.items
    missing)
    ∙ ap (subscribed_by c.args.number c.args.prefix) c.self.view_is)
