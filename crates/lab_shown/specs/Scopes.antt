-- The numbers of scopes.
use Rattle.std.specs.Prelude.{ℕ, List, [], ◌∷◌, Option, find, ◌==◌}
use Rattle.lab_shown.specs.declared.scope.Scope.{Scope}
use Rattle.lab_shown.specs.declared.scope.Scope.TheVariants.{Registers, Flags, Devices, Symbols, Memory}

abbrev pub reference_of : Scope → ℕ
reference_of Registers = 1
reference_of Flags = 2
reference_of Devices = 3
reference_of Symbols = 4
reference_of Memory = 5

abbrev pub every_scope : List Scope
every_scope = Registers ∷ Flags ∷ Devices ∷ Symbols ∷ Memory ∷ []

abbrev pub scope_with : ℕ → Option Scope
scope_with reference = find (λ s. reference_of s == reference) every_scope
