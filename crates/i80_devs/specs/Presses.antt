-- A press of a request button.
use Rattle.std.specs.Prelude.{◌≡◌, ◌≤◌, ◌<◌, ◌↔◌, ℕ, List, Result, Err, IsSome, OnOk, OnErr}
use Rattle.i80_devs.specs.declared.devices.PressFault.{PressFault}
use Rattle.i80_devs.specs.declared.devices.PressFault.TheVariants as fault
use Rattle.i80_devs.specs.Past.{Operation, Press, DeviceState, RepresentsPast, Appends, SamePorts}
use Rattle.i80_devs.specs.Past.{panel_after}

-- Button n latches a request for RST n, or the press fails and changes nothing. The number is checked first.
pub record Presses {A : Type 0} (n : ℕ) (old new : DeviceState) (result : Result A PressFault) : Type 0 where
  pub ok : OnOk result (Appends (Press n) old new)
  pub ports : SamePorts old new
  pub vector : (result ≡ Err fault.Vector) ↔ (8 ≤ n)
  pub latched : (past : List Operation) → RepresentsPast old past
      → (result ≡ Err fault.Latched) ↔ ((n < 8) × IsSome (panel_after past).latched)
  pub err : OnErr result (new ≡ old)
