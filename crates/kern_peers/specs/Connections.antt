-- The open connections, and how calls change them.
use Rattle.std.specs.Prelude.{ℕ, ◌+◌, ◌==◌, List, [], ◌∷◌, ◌++◌, map, length, Bool, true, false, ◌&&◌, ◌||◌}
use Rattle.std.specs.Prelude.{not, Option, None, option_map, nat_le, count_by, if◌then◌else◌}
use Rattle.std.specs.List.{filter, list_any, find, starts_with}
use Rattle.std.specs.Str.{bytes_eq}
use Rattle.base_text.specs.Bytes.{Bytes}
use Rattle.jup_wire.specs.declared.channel.Channel.{Channel}
use Rattle.jup_wire.specs.declared.channel.Channel.TheVariants.{Shell, Control, Stdin, Iopub}
use Rattle.kern_peers.specs.declared.peer.Peer.{Peer}

-- the open connections in the order of their numbers, and how many ever joined
pub record Connections : Type 0 where
  pub peers : List Peer
  pub joined : ℕ

abbrev pub no_connections : Connections
no_connections = record { peers = []; joined = 0 }

-- ---- a connection

abbrev pub same_channel : Channel → Channel → Bool
same_channel Shell Shell = true
same_channel Control Control = true
same_channel Stdin Stdin = true
same_channel Iopub Iopub = true
same_channel _ _ = false

abbrev pub is_number : ℕ → Peer → Bool
is_number n p = p.number == n

abbrev pub is_on : Channel → Peer → Bool
is_on channel p = same_channel p.channel channel

abbrev pub is_same : Channel → Bytes → Peer → Bool
is_same channel identity p = is_on channel p && bytes_eq p.identity identity

-- the most subscriptions that a connection can have
abbrev pub is_full : Peer → Bool
is_full p = nat_le 64 (length p.prefixes)

-- ---- the open connections

abbrev pub peer_at : ℕ → List Peer → Option Peer
peer_at n peers = find (is_number n) peers

abbrev pub is_empty : Bytes → Bool
is_empty [] = true
is_empty (x ∷ xs) = false

-- the identity isn't empty, and a connection of the channel has it
abbrev pub is_taken : Channel → Bytes → List Peer → Bool
is_taken channel identity peers = not (is_empty identity) && list_any (is_same channel identity) peers

-- a channel has sixteen connections at most, and no two of them have the same identity unless it is empty
abbrev pub has_no_place : Channel → Bytes → List Peer → Bool
has_no_place channel identity peers =
    nat_le 16 (count_by (is_on channel) peers) || is_taken channel identity peers

-- the stdin connection with this identity
abbrev pub stdin_of : Bytes → List Peer → Option ℕ
stdin_of identity peers =
    if is_empty identity then None else option_map (λ p. p.number) (find (is_same Stdin identity) peers)

abbrev pub begins : Bytes → Bytes → Bool
begins topic prefix = starts_with (λ x y. x == y) topic prefix

-- an iopub connection that subscribed to a prefix of the topic
abbrev pub is_subscribed : Bytes → Peer → Bool
is_subscribed topic p = is_on Iopub p && list_any (begins topic) p.prefixes

-- the connections that get an iopub post of this topic
abbrev pub subscribers : Bytes → List Peer → List ℕ
subscribers topic peers = map (λ p. p.number) (filter (is_subscribed topic) peers)

-- ---- Join and Leave

abbrev pub new_peer : ℕ → Channel → Bytes → Peer
new_peer number channel identity =
    record { number = number; channel = channel; identity = identity; prefixes = [] }

abbrev pub joined_by : Channel → Bytes → Connections → Connections
joined_by channel identity s = record {
  peers = s.peers ++ new_peer (s.joined + 1) channel identity ∷ [];
  joined = s.joined + 1;
}

abbrev pub without : ℕ → Connections → Connections
without n s = record s { peers = filter (λ p. not (is_number n p)) s.peers }

-- ---- subscriptions

-- the connection with this number gets other prefixes
abbrev pub changed_at : ℕ → (List Bytes → List Bytes) → List Peer → List Peer
changed_at n change [] = []
changed_at n change (p ∷ ps) =
    if is_number n p then record p { prefixes = change p.prefixes } ∷ ps else p ∷ changed_at n change ps

-- without the first that equals this prefix
abbrev pub without_first : Bytes → List Bytes → List Bytes
without_first prefix [] = []
without_first prefix (p ∷ ps) = if bytes_eq p prefix then ps else p ∷ without_first prefix ps

abbrev pub subscribed_by : ℕ → Bytes → Connections → Connections
subscribed_by n prefix s = record s { peers = changed_at n (λ prefixes. prefixes ++ prefix ∷ []) s.peers }

abbrev pub without_subscription : ℕ → Bytes → Connections → Connections
without_subscription n prefix s = record s { peers = changed_at n (without_first prefix) s.peers }
