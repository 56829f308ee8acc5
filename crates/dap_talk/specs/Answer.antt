-- When a result is right for the arguments of a request.
use Rattle.std.specs.Prelude.{◌≡◌, Option, Some, None, IsSome, Result, Ok, Err}
use Rattle.dap_talk.specs.declared.arguments.ArgumentFault.{ArgumentFault}
use Rattle.dap_talk.specs.declared.arguments.ArgumentFault.TheVariants.{OutOfMemory, Arguments}

-- the command, or bad arguments; memory can run out only if the arguments are good
abbrev pub IsAnswer : {T : Type 0} → Option T → Result T ArgumentFault → Type 0
IsAnswer asked (Ok c) = asked ≡ Some c
IsAnswer asked (Err OutOfMemory) = IsSome asked
IsAnswer asked (Err Arguments) = asked ≡ None
