-- Addresses at a distance (Debug Adapter Protocol, `readMemory`, `writeMemory` and `disassemble`).
use Rattle.std.specs.Prelude.{ℕ, ℤ, pos, ◌+ℤ◌, ◌-ℤ◌, ◌+◌, ◌-◌, ◌%◌, nat_le, Option, Some, None}
use Rattle.std.specs.Prelude.{if◌then◌else◌}
use Rattle.i80_exec.specs.State.{modulo_65536}
use Rattle.dap_requests.specs.declared.offset.SignedOffset.{SignedOffset}
use Rattle.dap_requests.specs.declared.offset.SignedOffset.TheVariants.{Forward, Back}

-- the address at this distance from another, if there is one
abbrev pub address_at : ℕ → SignedOffset → Option ℕ
address_at address (Forward n) = if nat_le (address + n) 65535 then Some (address + n) else None
address_at address (Back n) = if nat_le n address then Some (address - n) else None

-- where that is, even if there is no such address
abbrev pub far_address : ℕ → SignedOffset → ℤ
far_address address (Forward n) = pos address +ℤ pos n
far_address address (Back n) = pos address -ℤ pos n

-- the address at this distance from another; addresses wrap
abbrev pub wrapped_at : ℕ → SignedOffset → ℕ
wrapped_at address (Forward n) = modulo_65536 (address + n)
wrapped_at address (Back n) = modulo_65536 (address + (65536 - n % 65536))
