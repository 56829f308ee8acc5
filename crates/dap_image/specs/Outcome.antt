-- When a function's result is what its definition gives: the same value or fault, or out of memory.
use Rattle.std.specs.Prelude.{◌≡◌, Result, Ok, Err}
use Rattle.dap_image.specs.declared.fault.ImageFault.{ImageFault}
use Rattle.dap_image.specs.declared.fault.ImageFault.TheVariants as fault

abbrev pub Fails : {Y : Type 0} → ImageFault → Result Y ImageFault → Type 0
Fails fault.OutOfMemory defined = Unit {0}
Fails f defined = defined ≡ Err f

-- the value is seen by view
abbrev pub Gives : {X Y : Type 0} → (X → Y) → Result X ImageFault → Result Y ImageFault → Type 0
Gives view (Ok x) defined = defined ≡ Ok (view x)
Gives view (Err f) defined = Fails f defined
