-- The messages at the front of bytes.
use Rattle.std.specs.Prelude.{◌≡◌, ℕ, ◌<◌, ◌≤◌, Option, Some, None, length, take, drop, ◌++◌}
use Rattle.dap_stream.specs.Wire.{Bytes, Bodies}
use Rattle.dap_stream.specs.Header.{IsHeaderOf}
use Rattle.dap_stream.specs.Faults.{Begins}
use Rattle.dap_stream.specs.Stream.{IsMessage, Reads, IsPartial, IsFault}
use Rattle.dap_stream.specs.declared.fault.StreamFault.{StreamFault}
use Rattle.dap_stream.specs.declared.header.Header.{Header}
use Rattle.dap_stream.specs.declared.header.Header.TheVariants as header
use Rattle.dap_stream.specs.declared.reading.Taken.{Taken}
use Rattle.dap_stream.specs.declared.reading.Taken.TheVariants.{Message, End}

-- what the first bytes of a message say
abbrev pub HeaderSays : Bytes → Header → Type 0
HeaderSays bytes header.Begun = Begins bytes × (length bytes < 1024)
HeaderSays bytes (header.Whole count size) =
    (count ≤ length bytes) × (count ≤ 1024) × IsHeaderOf (take count bytes) size
HeaderSays bytes (header.Broken c) = IsFault bytes c

-- a message, and the others
pub record Parts (bytes body others : Bytes) : Type 0 where
  pub raw : Bytes
  pub some : 0 < length raw
  pub message : IsMessage raw body
  pub spelled : bytes ≡ raw ++ others

-- what follows the whole messages
abbrev pub EndsAt : Bytes → Option StreamFault → Type 0
EndsAt rest None = IsPartial rest
EndsAt rest (Some c) = IsFault rest c

abbrev pub Takes : Bytes → Taken → Type 0
Takes bytes (Message body others) = Parts bytes body.now others.now
Takes bytes (End fault) = EndsAt bytes fault

-- whole messages of these bodies, which use so many bytes, and what follows them
pub record IsReading (bytes : Bytes) (bodies : Bodies) (used : ℕ) (fault : Option StreamFault) : Type 0 where
  pub within : used ≤ length bytes
  pub reads : Reads bytes bodies (drop used bytes)
  pub ends : EndsAt (drop used bytes) fault
