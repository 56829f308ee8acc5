-- What goes over a connection.
pub use Rattle.base_text.specs.Bytes.{Bytes}
use Rattle.std.specs.Prelude.{List}

-- the bodies of messages
abbrev pub Bodies : Type 0
Bodies = List Bytes
