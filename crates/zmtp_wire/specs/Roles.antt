-- Socket types, and which may talk to which (RFC 28; own choice of roles).
use Rattle.std.specs.Prelude.{Bool, List, [], ◌∷◌, codes}
use Rattle.std.specs.List.{list_any}
use Rattle.std.specs.Str.{bytes_eq}
use Rattle.zmtp_wire.specs.Wire.{Bytes}
use Rattle.zmtp_wire.specs.declared.role.Role.{Role}
use Rattle.zmtp_wire.specs.declared.role.Role.TheVariants.{Router, Pub, Rep, Dealer, Sub}

-- the name of a socket type
abbrev pub socket_name : Role → Bytes
socket_name Router = codes "ROUTER"
socket_name Pub = codes "PUB"
socket_name Rep = codes "REP"
socket_name Dealer = codes "DEALER"
socket_name Sub = codes "SUB"

-- the socket types of the peers that a role may have
abbrev pub peers : Role → List Bytes
peers Router = codes "DEALER" ∷ codes "REQ" ∷ codes "ROUTER" ∷ []
peers Pub = codes "SUB" ∷ codes "XSUB" ∷ []
peers Rep = codes "REQ" ∷ codes "DEALER" ∷ []
peers Dealer = codes "ROUTER" ∷ []
peers Sub = codes "PUB" ∷ []

-- whether a peer of this socket type may talk to the role
abbrev pub accepts : Role → Bytes → Bool
accepts role name = list_any (bytes_eq name) (peers role)
