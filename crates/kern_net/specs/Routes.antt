-- A connection as its messages are read and written, whatever the desk of its calls is.
use Rattle.std.specs.Prelude.{ℕ}
use Rattle.zmtp_wire.specs.Wire.{Bytes}
use Rattle.jup_wire.specs.declared.channel.Channel.{Channel}
use Rattle.kern_net.specs.declared.routes.IncomingRoute.{IncomingRoute}
use Rattle.kern_net.specs.declared.routes.OutgoingRoute.{OutgoingRoute}

-- where messages come from: the connection's number and channel, and the key of the messages
pub record Source : Type 0 where
  pub connection : ℕ
  pub channel : Channel
  pub key : Bytes

-- where posts go: the connection's number, the key that they are signed with, and the session that they name
pub record Target : Type 0 where
  pub connection : ℕ
  pub key : Bytes
  pub session : Bytes

abbrev pub source_of : IncomingRoute → Source
source_of route = record { connection = route.connection; channel = route.channel; key = route.key.now }

abbrev pub target_of : OutgoingRoute → Target
target_of route = record {
  connection = route.connection;
  key = route.key.now;
  session = route.session.now;
}
