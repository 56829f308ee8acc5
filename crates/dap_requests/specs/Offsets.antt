-- Offsets that may be negative.
use Rattle.std.specs.Prelude.{ℕ, ◌+◌, ◌-◌, nat_le, if◌then◌else◌, Option, Some, None}
use Rattle.dap_requests.specs.declared.offset.SignedOffset.{SignedOffset}
use Rattle.dap_requests.specs.declared.offset.SignedOffset.TheVariants.{Forward, Back}

-- the address at this distance from another, if there is one
abbrev pub address_at : ℕ → SignedOffset → Option ℕ
address_at from (Forward n) = if nat_le (from + n) 65535 then Some (from + n) else None
address_at from (Back n) = if nat_le n from then Some (from - n) else None
