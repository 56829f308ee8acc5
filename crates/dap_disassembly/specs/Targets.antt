-- Lines to which PC can be set (Debug Adapter Protocol, `gotoTargets`).
use Rattle.std.specs.Prelude.{ℕ, zero, suc, ◌^◌, nat_le, nat_lt, ◌&&◌, Option, Some, None}
use Rattle.std.specs.Prelude.{option_and_then, if◌then◌else◌}
use Rattle.lab_image.specs.declared.origin.Origin.{Origin}
use Rattle.lab_image.specs.Loads.{origin_of}
use Rattle.lab_core.specs.Board.{Board}
use Rattle.dap_messages.specs.declared.message.GotoTarget.{GotoTarget}

-- a statement that begins at an address, on a line or below it
abbrev pub target_of : ℕ → ℕ → Origin → Option GotoTarget
target_of line address o =
    if o.is_first && (nat_le line o.line && nat_lt o.line (2 ^ 32))
    then Some (record { address = address; line = o.line }) else None

abbrev pub target_at : Board → ℕ → ℕ → Option GotoTarget
target_at b line address = option_and_then (target_of line address) (origin_of b.loads address)

-- that on the earlier line, and of one line the first
abbrev pub earlier : Option GotoTarget → Option GotoTarget → Option GotoTarget
earlier None other = other
earlier (Some t) None = Some t
earlier (Some t) (Some u) = if nat_lt u.line t.line then Some u else Some t

-- the one on the first such line, among so many addresses from 0 on
unfoldable pub target_among : ℕ → Board → ℕ → Option GotoTarget
target_among zero b line = None
target_among (suc n) b line = earlier (target_among n b line) (target_at b line n)

-- the first line at or below this one on which a statement with bytes begins
unfoldable pub first_target : Board → ℕ → Option GotoTarget
first_target b line = target_among 65536 b line
