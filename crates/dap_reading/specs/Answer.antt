-- When a result is right for the arguments of a request.
use Rattle.std.specs.Prelude.{◌≡◌, Result, Ok, Err}
use Rattle.base_text.specs.Bytes.{Text}
use Rattle.dap_reading.specs.declared.fault.ArgumentFault.{ArgumentFault}
use Rattle.dap_reading.specs.declared.fault.ArgumentFault.TheVariants.{OutOfMemory, Argument}

-- the value, or the name of a bad argument, unless memory runs out
abbrev pub Answers : {T : Type 0} → Result T Text → Result T ArgumentFault → Type 0
Answers asked (Ok value) = asked ≡ Ok value
Answers asked (Err OutOfMemory) = Unit {0}
Answers asked (Err (Argument name)) = asked ≡ Err name.now

-- with what a function makes of the value
abbrev pub result_map : {T U E : Type 0} → (T → U) → Result T E → Result U E
result_map f (Ok value) = Ok (f value)
result_map f (Err e) = Err e
