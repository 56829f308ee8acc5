-- The addresses at which the instructions before an address begin. Addresses wrap.
use Rattle.std.specs.Prelude.{ℕ, zero, suc, ◌+◌, ◌-◌, [], ◌∷◌, Bool, ◌&&◌, ◌==◌, find, unwrap_or}
use Rattle.i80_exec.specs.State.{modulo_65536}
use Rattle.lab_image.specs.Loads.{origin_of}
use Rattle.lab_views.specs.Code.{next_address}
use Rattle.lab_core.specs.Board.{Board}
use Rattle.lab_core.specs.Stops.{is_first}

-- a loaded statement begins at this start, and the line of code there ends right before the address
abbrev pub ends_before : Board → ℕ → ℕ → Bool
ends_before b address start =
    is_first (origin_of b.loads start) && next_address b.machine start == address

abbrev pub bytes_before : ℕ → ℕ → ℕ
bytes_before address count = modulo_65536 (address + (65536 - count))

-- the nearest start of such a statement, of 1 to 3 bytes; if there is none, the byte before
abbrev pub instruction_before : Board → ℕ → ℕ
instruction_before b address =
    unwrap_or
    (find (ends_before b address)
    (bytes_before address 1 ∷ bytes_before address 2 ∷ bytes_before address 3 ∷ []))
    (bytes_before address 1)

-- the address `count` instructions before another one
unfoldable pub before_instructions : Board → ℕ → ℕ → ℕ
before_instructions b address zero = address
before_instructions b address (suc count) = before_instructions b (instruction_before b address) count
