-- Consecutive bytes of memory.
use Rattle.std.specs.Prelude.{ℕ, ◌-◌, min, map}
use Rattle.std.specs.List.{range_with_len}
use Rattle.base_text.specs.Bytes.{Bytes}
use Rattle.i80_exec.specs.State.{MachineState, byte_at}

-- `count` bytes from an address on, but none past the last address
abbrev pub bytes_from : MachineState → ℕ → ℕ → Bytes
bytes_from m address count = map (byte_at m) (range_with_len address (min count (65536 - address)))
