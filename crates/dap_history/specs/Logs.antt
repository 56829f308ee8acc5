-- The inputs of a run, each with the number of steps after which it came.
use Rattle.std.specs.Prelude.{◌≡◌, ◌↔◌, ℕ, ◌+◌, ◌≤◌, ◌<◌, Result, Err, List, [], ◌∷◌, length, nat_le, nat_lt}
use Rattle.std.specs.List.{filter, fold, sum_by}
use Rattle.dap_history.specs.declared.input.Input.{Input}
use Rattle.dap_history.specs.declared.input.Input.TheVariants as input
use Rattle.dap_history.specs.declared.input.Recorded.{Recorded}
use Rattle.dap_history.specs.declared.fault.LogFault.{LogFault}
use Rattle.dap_history.specs.declared.fault.LogFault.TheVariants.{Full}

-- from c on, the counts never fall
abbrev pub Ascends : ℕ → List Recorded → Type 0
Ascends c [] = Unit {0}
Ascends c (r ∷ rs) = (c ≤ r.count) × Ascends r.count rs

-- the count of the last input, or c if there is none
abbrev pub latest_from : ℕ → List Recorded → ℕ
latest_from c log = fold (λ before r. r.count) c log

abbrev pub latest : List Recorded → ℕ
latest log = latest_from 0 log

-- the inputs that came after at most n steps
abbrev pub up_to : ℕ → List Recorded → List Recorded
up_to n log = filter (λ r. nat_le r.count n) log

-- and those that came after more than n
abbrev pub later_than : ℕ → List Recorded → List Recorded
later_than n log = filter (λ r. nat_lt n r.count) log

-- how much an input counts toward the log's limit
abbrev pub size_of_input : Input → ℕ
size_of_input (input.Typed bytes) = length bytes + 64
size_of_input (input.Write address bytes) = length bytes + 64
size_of_input _ = 64

abbrev pub log_size : List Recorded → ℕ
log_size log = sum_by (λ r. size_of_input r.input) log

-- an input is refused as too much exactly if the log would count more than its limit with it
abbrev pub IsFullIf : Result (Unit {0}) LogFault → Input → List Recorded → Type 0
IsFullIf result i log = (result ≡ Err Full) ↔ (4194304 < log_size log + size_of_input i)
