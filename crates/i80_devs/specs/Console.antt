-- What a port operation says of the console.
use Rattle.std.specs.Prelude.{ℕ, ◌==◌, Bool, false, Option, Some, None, if◌then◌else◌}
use Rattle.i80_base.specs.declared.ports.PortOperation.{PortOperation}
use Rattle.i80_base.specs.declared.ports.PortOperation.TheVariants.{In, Out}

-- the byte that is written there
abbrev pub written_to_console : PortOperation → Option ℕ
written_to_console (In port byte) = None
written_to_console (Out port byte) = if port == 1 then Some byte else None

-- a line is asked for
abbrev pub wants_line : PortOperation → Bool
wants_line (In port byte) = false
wants_line (Out port byte) = port == 3
