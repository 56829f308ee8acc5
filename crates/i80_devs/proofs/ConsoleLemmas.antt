-- What is written goes operation by operation.
use Rattle.std.proofs.Common.{◌≡◌, ℕ, List, [], ◌∷◌, ◌++◌, ◌+◌, ◌<◌, length, take, get_or}
use Rattle.std.proofs.lemmas.List.{take_more}
use Rattle.std.proofs.lemmas.List.Elements.{filter_map-append}
use Rattle.std.specs.List.{filter_map}
use Rattle.i80_base.specs.declared.ports.PortOperation.{PortOperation}
use Rattle.i80_devs.specs.Console.{written_to_console as written}

pub written_more : (xs : List PortOperation) (i : ℕ) (d : PortOperation) → i < length xs
    → filter_map written (take (i + 1) xs)
    ≡ filter_map written (take i xs) ++ filter_map written (get_or xs i d ∷ [])
written_more xs i d h = rw (take_more xs i d h) (filter_map-append written (take i xs) (get_or xs i d ∷ []))
