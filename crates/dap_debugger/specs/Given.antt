-- What a source has given.
use Rattle.std.specs.Prelude.{◌≡◌, Option, Some, None, List, ◌++◌}
use Rattle.dap_debugger.specs.declared.incoming.Incoming.{Incoming}

-- a source whose answers are known gave these
abbrev pub Gave : Option (List Incoming) → Option (List Incoming) → List Incoming → Type 0
Gave None after given = Unit {0}
Gave (Some before) after given = after ≡ Some (before ++ given)
