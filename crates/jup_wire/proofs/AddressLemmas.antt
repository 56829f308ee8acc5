-- A value that lacks an address is no connection file.
use Rattle.std.proofs.Common.{◌≡◌, ℕ, List, Some, None, codes}
use Rattle.std.specs.Net.Grammar.{IsIpv4Text}
use Rattle.std.specs.declared.net.ipv4_addr.Ipv4Addr.{Ipv4Addr}
use Rattle.serde_json.specs.Data.{Data}
use Rattle.jup_wire.specs.ConnectionFiles.{text_at, HasAddress, IsNoFile}

-- there is no text
pub nowhere : (d : Data) → text_at (codes "ip") d ≡ None → (ip : Ipv4Addr) → ¬ HasAddress d ip
nowhere d none ip (text, found, written) = let contrary : None ≡ Some text = cc in cc

-- the text writes no address
pub not_elsewhere : (d : Data) (text : List ℕ) → text_at (codes "ip") d ≡ Some text
    → ((ip : Ipv4Addr) → ¬ IsIpv4Text text ip) → (ip : Ipv4Addr) → ¬ HasAddress d ip
not_elsewhere d text here wrong ip (other, found, written) =
    let same : text ≡ other = cc in wrong ip (rw same written)

pub no_file : (d : Data) → ((ip : Ipv4Addr) → ¬ HasAddress d ip) → IsNoFile d
no_file d none file is_file = none file.ip is_file.ip
