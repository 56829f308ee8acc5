-- What goes over a connection.
use Rattle.std.specs.Prelude.{List}
pub use Rattle.base_text.specs.Bytes.{Bytes, Frames}

abbrev pub Messages : Type 0
Messages = List Frames
