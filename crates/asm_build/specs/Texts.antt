-- What contracts see of names in memory: their bytes.
use Rattle.std.specs.Prelude.{ℕ, ◌+◌, List, [], ◌∷◌, map, Option, Some, None, option_map, String}
use Rattle.std.specs.Prelude.{if◌then◌else◌}
use Rattle.std.specs.Global.{Global}
use Rattle.std.specs.Str.{bytes_eq}
use Rattle.std.specs.String.{string_bytes}
use Rattle.asm_build.specs.declared.symbols.Symbol.{Symbol}

-- entries by their names' bytes
abbrev pub entries_in : List (String Global × Symbol) → List (List ℕ × Symbol)
entries_in es = map (λ e. (string_bytes e.0, e.1)) es

-- the index of a name among entries
abbrev pub place_in : List (List ℕ × Symbol) → List ℕ → Option ℕ
place_in [] x = None
place_in (e ∷ es) x = if bytes_eq x e.0 then Some 0 else option_map (λ i. 1 + i) (place_in es x)
