use Rattle.std.proofs.Common.{◌≡◌, ◌∙◌, ap, not, List, rules}
use Rattle.std.specs.List.{filter}
use Rattle.std.proofs.lemmas.Fn.{filter_same}
use Rattle.kern_peers.specs.declared.peer.Peer.{Peer}
use Rattle.kern_peers.specs.Connections.{Connections, is_number, without}
use Rattle.kern_peers.proofs.peers.Peers.leave.Goals as goal

pub returns : goal.returns
returns c =
    let test : Peer → _ = λ p. not (is_number c.args.number p) in
    let kept : c.retain.new.self.items ≡ filter test c.self.inside.peers.items =
    filter_same _ test _ (λ x b f h. let s = h.shows in let m = h.called.met in search (rules, s, m)) _ _
    c.retain.ensures.filtered in
    let with : List Peer → Connections = λ ps. record { peers = ps; joined = c.self.inside.joined } in
    ap with kept ∙ ap (without c.args.number) c.self.view_is
