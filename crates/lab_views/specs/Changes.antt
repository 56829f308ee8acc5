-- A change by hand: a place gets a value, and nothing else changes.
use Rattle.std.specs.Prelude.{ℕ}
use Rattle.i80_base.specs.declared.instruction.Reg.TheVariants as reg
use Rattle.i80_exec.specs.State.{MachineState, with_byte, with_pc, with_sp}
use Rattle.i80_exec.specs.State as state
use Rattle.lab_shown.specs.declared.place.Place.{Place}
use Rattle.lab_shown.specs.declared.place.Place.TheVariants as place

-- the machine with a value at a place
abbrev pub machine_with : Place → ℕ → MachineState → MachineState
machine_with place.A value m = state.with_reg m reg.A value
machine_with place.B value m = state.with_reg m reg.B value
machine_with place.C value m = state.with_reg m reg.C value
machine_with place.D value m = state.with_reg m reg.D value
machine_with place.E value m = state.with_reg m reg.E value
machine_with place.H value m = state.with_reg m reg.H value
machine_with place.L value m = state.with_reg m reg.L value
machine_with place.Sp value m = with_sp m value
machine_with place.Pc value m = with_pc m value
machine_with (place.Memory address) value m = with_byte m address value
