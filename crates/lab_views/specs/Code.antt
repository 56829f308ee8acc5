-- Memory as lines of disassembly. Addresses wrap, so that no instruction is cut off.
use Rattle.std.specs.Prelude.{ℕ, zero, suc, ◌+◌, List, [], ◌∷◌, take}
use Rattle.i80_exec.specs.State.{MachineState, byte_at, modulo_65536}
use Rattle.i80_dis.specs.Shown.{first_shown}
use Rattle.i80_dis.specs.Text.{text_of}
use Rattle.lab_shown.specs.declared.shown.CodeLine.{CodeLine}

-- the bytes from an address on, as many as the longest instruction has
abbrev pub bytes_at : MachineState → ℕ → List ℕ
bytes_at m address = byte_at m address ∷ byte_at m (address + 1) ∷ byte_at m (address + 2) ∷ []

-- how many of them the line at the address shows
abbrev pub line_length : MachineState → ℕ → ℕ
line_length m address = (first_shown (bytes_at m address)).1

abbrev pub line_at : MachineState → ℕ → CodeLine
line_at m address = record {
  address = address;
  bytes = take (line_length m address) (bytes_at m address);
  text = text_of (first_shown (bytes_at m address)).0;
}

abbrev pub next_address : MachineState → ℕ → ℕ
next_address m address = modulo_65536 (address + line_length m address)

-- that many lines from an address on
unfoldable pub lines_from : MachineState → ℕ → ℕ → List CodeLine
lines_from m address zero = []
lines_from m address (suc count) = line_at m address ∷ lines_from m (next_address m address) count

-- the address after that many
unfoldable pub after_instructions : MachineState → ℕ → ℕ → ℕ
after_instructions m address zero = address
after_instructions m address (suc count) = after_instructions m (next_address m address) count
