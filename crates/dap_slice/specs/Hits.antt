-- Hit conditions of breakpoints (Debug Adapter Protocol, "SourceBreakpoint": `hitCondition`).
use Rattle.std.specs.Prelude.{ℕ, ◌+◌, ◌%◌, min, Bool, true, false, ◌&&◌, ◌==◌, nat_le, nat_lt, Option, Some}
use Rattle.std.specs.Prelude.{None, option_map, if◌then◌else◌}
use Rattle.dap_slice.specs.declared.hits.HitCondition.{HitCondition}
use Rattle.dap_slice.specs.declared.hits.HitCondition.TheVariants as condition
use Rattle.dap_slice.specs.declared.hits.Hits.{Hits}

-- the k-th hit is one at which it acts
abbrev pub fits : HitCondition → ℕ → Bool
fits (condition.Exactly n) k = k == n
fits (condition.AtLeast n) k = nat_le n k
fits (condition.AtMost n) k = nat_le k n
fits (condition.Every n) k = if n == 0 then false else k % n == 0

-- the last hit is such a one; one without a hit condition acts at each
abbrev pub is_wanted : Option Hits → Bool
is_wanted None = true
is_wanted (Some h) = nat_lt 0 h.count && fits h.condition h.count

-- one hit more; from 2^64 - 1 on they aren't counted
abbrev pub with_hit : Hits → Hits
with_hit h = record { condition = h.condition; count = min 18446744073709551615 (h.count + 1) }

abbrev pub once_more : Option Hits → Option Hits
once_more hits = option_map with_hit hits

abbrev pub without_hits : Hits → Hits
without_hits h = record { condition = h.condition; count = 0 }

abbrev pub none_yet : Option Hits → Option Hits
none_yet hits = option_map without_hits hits
