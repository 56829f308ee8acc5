-- Which connection loses its slot where all slots of a port are taken and another connection waits.
use Rattle.std.specs.Prelude.{ℕ, ◌==◌, ◌&&◌, Bool, true, false, nat_le, if◌then◌else◌, List, max, position}
use Rattle.std.specs.Prelude.{Option, Some, None, option_and_then, ◌≡◌, ◌≤◌, ◌⊎◌, Contains, IsTrue}
use Rattle.std.specs.List.{filter_map, reduce}
use Rattle.std.specs.Option.{option_or}
use Rattle.kern_pace.specs.declared.eviction.Stage.{Stage}
use Rattle.kern_pace.specs.declared.eviction.Stage.TheVariants.{Handshake, Silent, Heard, Quiet, Beats}
use Rattle.kern_pace.specs.declared.eviction.Group.{Group}
use Rattle.kern_pace.specs.declared.eviction.Group.TheVariants.{Late, Unproven}
use Rattle.kern_pace.specs.declared.eviction.Occupancy.{Occupancy}

-- It may leave after a second amid its handshake, and after five in which it hasn't shown the key; on the
-- heartbeat after half a second without a beat, and a minute after its last one. A peer that has shown the
-- key stays for as long as it likes.
abbrev pub may_leave_after : Stage → ℕ → Bool
may_leave_after Handshake millis = nat_le 1000 millis
may_leave_after Silent millis = nat_le 5000 millis
may_leave_after Heard millis = false
may_leave_after Quiet millis = nat_le 500 millis
may_leave_after Beats millis = nat_le 60000 millis

abbrev pub can_leave : Occupancy → Bool
can_leave c = may_leave_after c.stage c.millis

-- It is late if it takes too long for what an honest peer does at once, and unproven if its peer hasn't shown
-- the key or, on the heartbeat, hasn't beaten for a minute.
abbrev pub is_of : Group → Stage → ℕ → Bool
is_of Late Handshake millis = may_leave_after Handshake millis
is_of Late Quiet millis = may_leave_after Quiet millis
is_of Late _ millis = false
is_of Unproven Heard millis = false
is_of Unproven Beats millis = may_leave_after Beats millis
is_of Unproven _ millis = true

abbrev pub is_in : Group → Occupancy → Bool
is_in group c = is_of group c.stage c.millis

-- ---- the slots of a port, each with its connection, or with none

abbrev pub arrival_in : Group → Option Occupancy → Option ℕ
arrival_in group None = None
arrival_in group (Some c) = if is_in group c then Some c.came else None

-- when the newest connection of a group came
abbrev pub newest_arrival : Group → List (Option Occupancy) → Option ℕ
newest_arrival group slots = reduce max (filter_map (arrival_in group) slots)

-- whether the connection is the one of a group that came then, and can leave
abbrev pub leaves : Group → ℕ → Option Occupancy → Bool
leaves group came None = false
leaves group came (Some c) = is_in group c && c.came == came && can_leave c

-- where the newest connection of a group is, if it can leave
abbrev pub newest_of : Group → List (Option Occupancy) → Option ℕ
newest_of group slots =
    option_and_then (λ came. position (leaves group came) slots) (newest_arrival group slots)

-- the newest of those that are late, or else the newest of those that are unproven
abbrev pub leaver : List (Option Occupancy) → Option ℕ
leaver slots = option_or (newest_of Late slots) (newest_of Unproven slots)

-- ---- what that means

-- of the unproven ones none came after this time
abbrev pub CameLast : List (Option Occupancy) → ℕ → Type 0
CameLast slots came = (c : Occupancy) → Contains slots (Some c) → is_in Unproven c ≡ true → c.came ≤ came

-- it can leave; and it is late, or the newest of the unproven ones
abbrev pub IsNext : List (Option Occupancy) → Option Occupancy → Type 0
IsNext slots None = ⊥
IsNext slots (Some c) = IsTrue (can_leave c) × (IsTrue (is_in Late c) ⊎ CameLast slots c.came)
