use Rattle.std.proofs.Common.{◌≡◌, ◌-◌}
use Rattle.std.specs.Prelude.{find, decimal}
use Rattle.std.specs.List.{range_with_len}
use Rattle.std.specs.Str.{bytes_eq}
use Rattle.dap_breakpoints.specs.Places.{count_named}
use Rattle.dap_breakpoints.proofs.place.count_named.Given as goal

-- it is found among the numbers that are left
abbrev pub invariant-loop-count : goal.invariant-loop-count
invariant-loop-count l =
    find (λ n. bytes_eq l.digits (decimal n)) (range_with_len l.count (17 - l.count)) ≡ count_named l.digits
