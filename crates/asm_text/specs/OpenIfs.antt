-- Open IFs in an array, of which the innermost is last.
use Rattle.std.specs.Prelude.{ℕ, zero, suc, List, [], ◌∷◌, false, slice_index_or}
use Rattle.asm_text.specs.declared.open_if.OpenIf.{OpenIf}

-- what stands in the array where no IF does
abbrev pub no_if : OpenIf
no_if = record { line = 0; column = 0; has_else = false }

-- the first n of them, the last one first
abbrev pub last_first : List OpenIf → ℕ → List OpenIf
last_first items zero = []
last_first items (suc n) = slice_index_or items n no_if ∷ last_first items n
