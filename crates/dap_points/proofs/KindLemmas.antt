-- What the numbers of breakpoints say.
use Rattle.std.proofs.Common.{◌≡◌, ◌≤◌, ◌<◌, ℕ, nat_le, nat_lt, true, false, refl, arith}
use Rattle.std.proofs.lemmas.Bool.Decides.{nat_tests}
use Rattle.dap_messages.specs.declared.message.BreakpointKind.TheVariants.{Line, Label, Instruction}
use Rattle.dap_points.specs.Placed.{id_at}
use Rattle.dap_points.specs.Kinds.{kind_at}

up_to : (n m : ℕ) → n ≤ m → nat_le n m ≡ true
up_to n m within = grind (arith, nat_tests)

not_up_to : (n m : ℕ) → m < n → nat_le n m ≡ false
not_up_to n m above = grind (arith, nat_tests)

above : (n m : ℕ) → n < m → nat_lt n m ≡ true
above n m below = grind (arith, nat_tests)

not_above : (n m : ℕ) → m ≤ n → nat_lt n m ≡ false
not_above n m within = grind (arith, nat_tests)

pub at_label : (index : ℕ) → index < 256 → kind_at (id_at 0 index) ≡ Label
at_label index few = rw (up_to (id_at 0 index) 256 (omega (arith, few))) refl

pub on_line : (number index : ℕ) → 1 ≤ number → number ≤ 1024 → index < 256
    → kind_at (id_at number index) ≡ Line
on_line number index some most few =
    let id = id_at number index in
    rw (not_up_to id 256 (omega (arith, some)), not_above 262656 id (omega (arith, most, few))) refl

pub at_instruction : (index : ℕ) → index < 256 → kind_at (id_at 1026 index) ≡ Instruction
at_instruction index few =
    let id = id_at 1026 index in
    rw (not_up_to id 256 (omega arith), above 262656 id (omega arith)) refl
