use Rattle.std.proofs.Common.{◌≡◌, take}
use Rattle.kern_peers.specs.Connections.{subscribers}
use Rattle.kern_peers.proofs.peers.Peers.subscribers.Given as goal

abbrev pub invariant-loop-peer : goal.invariant-loop-peer
invariant-loop-peer l = l.numbers ≡ subscribers l.topic (take l.peer-index l.self.peers)
